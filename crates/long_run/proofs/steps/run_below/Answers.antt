-- `long_run::steps::run_below` meets its contract. Assumes nothing.
use native.Mathlib.Omega.{arith}
use Rattle.translator.proofs.Standing.{slice_bytes, few_nodes, valid_long}
use Rattle.run.proofs.Carried.{ends_whole}
use Rattle.long_run.proofs.Begins.{begins_so, ends_so}
use borrow.Author.Rules.{rules}
use Rattle.long_run.proofs.steps.run_below.Goals as goal

pub start-requires : goal.start-requires
start-requires c =
    let p = c.requires in
    (p.0, p.1, search rules, record { few = p.3.placed.few; fits = p.3.placed.fits }, λ c h. omega arith)

pub bounds-table-3 : goal.bounds-table-3
bounds-table-3 c =
    let s = c.args in
    omega (arith, valid_long s.table.now (slice_bytes s.table.now c.type_inv.table) c.requires.0)

pub overflow_cast-nodes : goal.overflow_cast-nodes
overflow_cast-nodes c =
    let s = c.args in
    omega (arith, few_nodes s.table.now (slice_bytes s.table.now c.type_inv.table) c.requires.0)

pub carry_out-requires : goal.carry_out-requires
carry_out-requires c =
    let a = c.args in
    let p = c.requires in
    let table = a.table.now in
    let bytes = slice_bytes table c.type_inv.table in
    (_, _, begins_so table bytes p.0 p.2 p.3 c.start.ensures p.4 p.5 a.choices.now a.out.now p.6)

pub returns : goal.returns
returns c =
    let a = c.args in
    let p = c.requires in
    let table = a.table.now in
    let bytes = slice_bytes table c.type_inv.table in
    ends_so table bytes p.0 p.2 p.3 c.start.ensures p.4 p.5
    (ends_whole _ _ _ _ _ _ _ _ _ _ _ _ (c.carry_out.ensures _ _ (begins_so table bytes p.0 p.2 p.3 c.start.ensures p.4 p.5 a.choices.now a.out.now p.6)))
