-- `rows::open_before` meets its contract. Assumes nothing.
use Prim.Native.Nat.{◌-◌, ◌<◌}
use native.Mathlib.Omega.{arith}
use Rattle.rows.proofs.Sought.{passed_over}
use Rattle.rows.proofs.open_before.Goals as goal

pub loop-k-init : goal.loop-k-init
loop-k-init c = (omega arith, λ i a b. absurd (omega arith))

pub number-requires : goal.number-requires
number-requires c = omega (arith, c.loop-k-test.true, c.loop-k.invariant.0, c.requires.fits)

pub returns-then-tick-number : goal.returns-then-tick-number
returns-then-tick-number c = c.loop-k.invariant

pub overflow_sub-k-in-loop-k : goal.overflow_sub-k-in-loop-k
overflow_sub-k-in-loop-k c = omega (arith, c.loop-k-test.true)

pub index-k-requires : goal.index-k-requires
index-k-requires c = omega (arith, c.loop-k-test.true, c.loop-k.invariant.0, c.requires.fits)

pub loop-k-smaller : goal.loop-k-smaller
loop-k-smaller c =
    let k = c.loop-k.k in
    omega (arith, c.index-k.ensures, c.loop-k-test.true, c.requires.back (k - 1) (omega (arith, c.loop-k-test.true, c.loop-k.invariant.0)))

pub loop-k-preserved : goal.loop-k-preserved
loop-k-preserved c =
    let a = c.args in
    let l = c.loop-k in
    let there : l.k - 1 < a.j = omega (arith, c.loop-k-test.true, l.invariant.0) in
    let back = c.requires.back (l.k - 1) there in
    (omega (arith, c.index-k.ensures, back, there), passed_over a.rows.now a.j (l.k - 1) c.index-k.result a.tick c.requires there c.index-k.ensures (omega (arith, c.if-tick-number.false, c.number.ensures)) (λ i x y. l.invariant.1 i (omega (arith, c.loop-k-test.true)) y))

pub returns : goal.returns
returns c = c.loop-k.invariant
