-- `period::counting::entered_before` meets its contract. Assumes nothing.
use Prim.Native.Nat.{ℕ, ◌<◌}
use native.Mathlib.Omega.{arith}
use Rattle.rows.specs.Rows.{num}
use Rattle.period.proofs.Joining.{one_more}
use Rattle.period.proofs.Divided.{first-late, none_late}
use Rattle.period.proofs.counting.entered_before.Goals as goal

pub loop-i-init : goal.loop-i-init
loop-i-init c = (omega arith, λ j h. absurd (omega arith))

pub number-requires : goal.number-requires
number-requires c = omega (arith, c.requires.placed.fits, c.loop-i-test.true)

pub returns-then-tick-number : goal.returns-then-tick-number
returns-then-tick-number c =
    let e = c in
    let a = e.args in
    let l = c.loop-i in
    let there = c.loop-i-test.true in
    (first-late a.table.now a.rows.now a.count e.requires a.tick l.i there l.invariant.1 (omega (arith, c.if-tick-number.true, c.number.ensures)), omega (arith, e.requires.placed.few, there))

pub loop-i-preserved : goal.loop-i-preserved
loop-i-preserved c =
    let a = c.args in
    let l = c.loop-i in (
      omega (arith, c.loop-i-test.true),
      one_more (λ (j : ℕ). num a.rows.now j 3 < a.tick) l.i l.invariant.1 (omega (arith, c.if-tick-number.false, c.number.ensures)),
    )

pub returns : goal.returns
returns c =
    let e = c in
    let a = e.args in
    let l = c.loop-i in
    (none_late a.table.now a.rows.now a.count e.requires a.tick (λ j h. l.invariant.1 j (omega (arith, c.loop-i-test.false))), omega (arith, e.requires.placed.few))
