-- `long_run::steps::run_beyond` meets its contract. Assumes nothing.
use mathlib.Core.Path.{◌∙◌}
use native.Mathlib.Omega.{arith}
use Rattle.schedule.proofs.Tables.{horizon_is, horizon_small}
use Rattle.translator.proofs.Standing.{slice_bytes, valid_long}
use Rattle.long_run.proofs.Round.{round_stands}
use borrow.Author.Rules.{rules}
use Rattle.long_run.proofs.steps.run_beyond.Goals as goal

pub bounds-table-3 : goal.bounds-table-3
bounds-table-3 c =
    let s = c.args in
    omega (arith, valid_long s.table.now (slice_bytes s.table.now c.type_inv.table) c.requires.0)

pub word_at-requires : goal.word_at-requires
word_at-requires c =
    let s = c.args in
    omega (arith, valid_long s.table.now (slice_bytes s.table.now c.type_inv.table) c.requires.0)

pub longest_round-round-requires : goal.longest_round-round-requires
longest_round-round-requires c =
    let p = c.requires in
    let own = c.word32-own.ensures.0 ∙ c.word_at.ensures ∙ horizon_is c.args.table.now c.type_inv.table p.0 in
    (p.3, p.4, own, omega (arith, own, horizon_small c.args.table.now c.type_inv.table p.0))

pub overflow_add-round : goal.overflow_add-round
overflow_add-round c =
    let a = c.args in
    let p = c.requires in
    let stands = round_stands a.table.now (slice_bytes a.table.now c.type_inv.table) p.0 a.rows.now a.count p.3 c.longest_round-round.result c.longest_round-round.ensures in
    omega (arith, stands.few, c.wide-nodes.ensures.0)

pub start-requires : goal.start-requires
start-requires c =
    let a = c.args in
    let p = c.requires in
    let stands = round_stands a.table.now (slice_bytes a.table.now c.type_inv.table) p.0 a.rows.now a.count p.3 c.longest_round-round.result c.longest_round-round.ensures in
    (p.0, p.1, search rules, rw c.wide-nodes.ensures.0 stands, λ c h. omega arith)

pub run_rounds-requires : goal.run_rounds-requires
run_rounds-requires c =
    let a = c.args in
    let p = c.requires in
    (p.0, p.2, (a.count, p.3), c.longest_round-round.ensures, c.wide-nodes.ensures.0, c.start.ensures, omega (arith, p.5), p.6)
