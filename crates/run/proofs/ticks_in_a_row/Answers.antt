-- `run::ticks_in_a_row` meets its contract. Assumes nothing.
use mathlib.Core.Path.{◌≡◌}
use Prim.Native.Nat.{◌+◌, ◌-◌}
use native.Mathlib.Omega.{arith}
use Rattle.run.proofs.InARow.{ticks_one, ticks_join}
use Rattle.run.proofs.ticks_in_a_row.Goals as goal

pub ticks_by_eight-at-requires : goal.ticks_by_eight-at-requires
ticks_by_eight-at-requires c =
    let a = c in
    (omega (arith, c.min.ensures, a.requires.0), omega (arith, c.min.ensures, a.requires.0))

pub ticks_by_one-requires : goal.ticks_by_one-requires
ticks_by_one-requires c = (c.ticks_by_eight-at.ensures.1, omega (arith, c.min.ensures, c.requires.0))

pub overflow_sub-result : goal.overflow_sub-result
overflow_sub-result c = omega (arith, c.ticks_by_one.ensures.0, c.ticks_by_eight-at.ensures.0)

pub returns : goal.returns
returns c =
    let s = c in
    let a = s.args in
    let cs = a.choices.now in
    let from = a.from in
    let e : from + (c.ticks_by_one.result - from) ≡ c.ticks_by_one.result = omega (arith, c.ticks_by_eight-at.ensures.0, c.ticks_by_one.ensures.0) in (
      omega (arith, c.ticks_by_eight-at.ensures.0, c.ticks_by_one.ensures.0),
      omega (arith, c.ticks_by_one.ensures.1, c.min.ensures),
      omega (arith, e, c.ticks_by_one.ensures.1, c.min.ensures, s.requires.0),
      rw e (ticks_join cs from (from + 1) c.ticks_by_one.result (ticks_one cs from s.requires.2) (ticks_join cs (from + 1) c.ticks_by_eight-at.result c.ticks_by_one.result c.ticks_by_eight-at.ensures.2 c.ticks_by_one.ensures.2)),
    )
