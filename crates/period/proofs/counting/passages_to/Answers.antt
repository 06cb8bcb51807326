-- `period::counting::passages_to` meets its contract. Assumes nothing.
use Rattle.std.proofs.Common.{subst}
use Rattle.std.specs.Prelude.{Option}
use native.Mathlib.Omega.{arith}
use Rattle.model.specs.Places.{read_of}
use Rattle.recurrence.specs.declared.Pair.{Pair}
use Rattle.recurrence.specs.Recurrence.{recurrence}
use Rattle.period.specs.Walking.{schedule_in}
use Rattle.period.specs.Searching.{PairIs}
use Rattle.period.proofs.Divided.{count_below}
use Rattle.period.proofs.counting.passages_to.Goals as goal

pub returns-then-horizon-own : goal.returns-then-horizon-own
returns-then-horizon-own c =
    let a = c.args in
    let p = c.requires in
    λ L plan. count_below a.table.now a.rows.now a.count p.0 a.horizon p.4 L plan (omega (arith, p.2, c.if-horizon-own.true)) c.entered_before.result c.entered_before.ensures.0

pub passages_beyond-requires : goal.passages_beyond-requires
passages_beyond-requires c =
    let a = c.args in
    let p = c.requires in
    let bs = a.table.now in (
      p.0,
      subst (λ (o : Option Pair). PairIs (recurrence (read_of bs).table (read_of bs).horizon (schedule_in bs)) o) c.in-Some.is (p.1 c.if-horizon-own.false),
      omega (arith, p.2, c.if-horizon-own.false),
    )
