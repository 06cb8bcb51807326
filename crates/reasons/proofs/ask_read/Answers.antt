-- `reasons::ask_read` meets its contract. Assumes nothing.
use mathlib.Core.Path.{sym, ap, ◌∙◌}
use Prim.Native.Nat.{◌<◌}
use native.Mathlib.Omega.{arith}
use lib.ListN.{get_or}
use Rattle.model.specs.Table.{size}
use Rattle.model.specs.Places.{read_of}
use Rattle.table.proofs.Answered.{verdict_refused}
use Rattle.schedule.proofs.Tables.{counted, few_components, header, horizon_is, start_read}
use Rattle.reasons.proofs.Naming.{not_planned, no-component, no_tick, S, is-accepted, walked}
use Rattle.reasons.proofs.ask_read.Goals as goal

pub bounds-table-3 : goal.bounds-table-3
bounds-table-3 c = let s = c in omega (arith, header s.args.table.now c.type_inv.table s.requires.0)

pub returns-then-wide32-component : goal.returns-then-wide32-component
returns-then-wide32-component c =
    let s = c in
    let bs = s.args.table.now in
    no-component bs s.args.component s.args.tick s.requires.0 (S bs c.type_inv.table s.requires.0 c.plan_rows-planned.result _ c.plan_rows-planned.ensures c.in-Accepted.is) (is-accepted bs c.type_inv.table s.requires.0 c.plan_rows-planned.result _ c.plan_rows-planned.ensures c.in-Accepted.is) c.nothing-then-wide32-component.result c.nothing-then-wide32-component.ensures
    (omega (arith, c.if-wide32-component.true, c.wide32.ensures.0, counted bs c.type_inv.table s.requires.0))

pub word_at-requires : goal.word_at-requires
word_at-requires c = let s = c in omega (arith, header s.args.table.now c.type_inv.table s.requires.0)

pub returns-then-word32-tick : goal.returns-then-word32-tick
returns-then-word32-tick c =
    let s = c in
    let bs = s.args.table.now in
    no_tick bs s.args.component s.args.tick s.requires.0 (S bs c.type_inv.table s.requires.0 c.plan_rows-planned.result _ c.plan_rows-planned.ensures c.in-Accepted.is) (is-accepted bs c.type_inv.table s.requires.0 c.plan_rows-planned.result _ c.plan_rows-planned.ensures c.in-Accepted.is) c.nothing-then-word32-tick.result c.nothing-then-word32-tick.ensures
    (omega (arith, c.if-wide32-component.false, c.wide32.ensures.0, counted bs c.type_inv.table s.requires.0))
    (omega (arith, c.if-word32-tick.true, c.word32.ensures, c.word_at.ensures, horizon_is bs c.type_inv.table s.requires.0))

pub bounds-starts-wide : goal.bounds-starts-wide
bounds-starts-wide c = let s = c in omega (arith, c.wide.ensures.0, c.if-wide32-component.false, c.wide32.ensures.0, counted s.args.table.now c.type_inv.table s.requires.0, few_components s.args.table.now c.type_inv.table s.requires.0)

pub budgeted-budgets-requires : goal.budgeted-budgets-requires
budgeted-budgets-requires c = let s = c in omega (arith, header s.args.table.now c.type_inv.table s.requires.0)

pub named-requires : goal.named-requires
named-requires c =
    let s = c in
    let bs = s.args.table.now in
    let there : s.args.component < size (read_of bs).table = omega (arith, c.if-wide32-component.false, c.wide32.ensures.0, counted bs c.type_inv.table s.requires.0) in (
      walked bs c.type_inv.table s.requires.0 c.plan_rows-planned.result _ c.plan_rows-planned.ensures c.in-Accepted.is s.args.component s.args.tick there (omega (arith, c.if-word32-tick.false, c.word32.ensures, c.word_at.ensures, horizon_is bs c.type_inv.table s.requires.0)),
      start_read bs c.type_inv.table s.requires.0 s.args.starts s.args.component _ s.requires.1 there (c.word_place-start.ensures.0 ∙ ap (λ j. get_or s.args.starts j 0) c.wide.ensures.0),
      c.budgeted-budgets.ensures,
    )

pub returns-in-Refused : goal.returns-in-Refused
returns-in-Refused c =
    let s = c in
    not_planned s.args.table.now s.args.component s.args.tick s.requires.0 c.nothing.result (verdict_refused _ (sym c.plan_rows-planned.ensures.verdict ∙ c.in-Refused.is)) c.nothing.ensures
