-- `run::run_program` meets its contract. Assumes nothing.
use borrow.Author.Rules.{rules}
use native.Mathlib.Omega.{arith}
use Rattle.translator.proofs.Standing.{slice_bytes, few_nodes, valid_long}
use Rattle.run.proofs.Carried.{ends_whole}
use Rattle.run.proofs.Handed.{small_offsets, begins_so, ends_so}
use Rattle.run.proofs.run_program.Goals as goal

pub start-requires : goal.start-requires
start-requires c =
    let s = c in
    let table = s.args.table.now in
    let bytes = slice_bytes table c.type_inv.table in
    (s.requires.0, s.requires.1, search rules, s.requires.3.plan.stand, small_offsets table bytes s.requires.0 s.requires.3)

pub bounds-table-3 : goal.bounds-table-3
bounds-table-3 c =
    let s = c in
    let table = s.args.table.now in
    let bytes = slice_bytes table c.type_inv.table in
    omega (arith, valid_long table bytes s.requires.0)

pub overflow_cast-count : goal.overflow_cast-count
overflow_cast-count c =
    let s = c in
    let table = s.args.table.now in
    let bytes = slice_bytes table c.type_inv.table in
    omega (arith, few_nodes table bytes s.requires.0)

pub word_at-horizon-requires : goal.word_at-horizon-requires
word_at-horizon-requires c =
    let s = c in
    let table = s.args.table.now in
    let bytes = slice_bytes table c.type_inv.table in
    omega (arith, valid_long table bytes s.requires.0)

pub carry_out-requires : goal.carry_out-requires
carry_out-requires c =
    let s = c in
    let table = s.args.table.now in
    let bytes = slice_bytes table c.type_inv.table in
    (_, _, begins_so table bytes s.requires.0 s.requires.2 s.requires.3 c.start.ensures c.word_at-horizon.ensures s.args.choices.now s.args.out.now s.requires.5 s.requires.4)

pub returns : goal.returns
returns c =
    let s = c in
    let table = s.args.table.now in
    let bytes = slice_bytes table c.type_inv.table in
    ends_so table bytes s.requires.0 s.requires.2 s.requires.3 c.start.ensures c.word_at-horizon.ensures (ends_whole _ _ _ _ _ _ _ _ _ _ _ _ (c.carry_out.ensures _ _ (begins_so table bytes s.requires.0 s.requires.2 s.requires.3 c.start.ensures c.word_at-horizon.ensures s.args.choices.now s.args.out.now s.requires.5 s.requires.4)))
