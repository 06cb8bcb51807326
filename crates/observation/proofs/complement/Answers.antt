-- `observation::complement` meets its contract. Assumes nothing.
use mathlib.Core.Path.{◌≡◌, refl}
use mathlib.Core.Bool.{true, false}
use Prim.Native.Nat.{ℕ, suc, ◌-◌, ◌<◌}
use native.Mathlib.Omega.{arith}
use borrow.Author.Tests.{ltb-true, le-ltb}
use lib.IntN.{ℤ, pos, negsuc, ◌+ℤ◌}
use lib.Signed.{lt_z}
use mir.Syntax.{w16, w32}
use mir.Val.{SFits, to_z, of_z}
use mir.ValLaws.{to_z-of_z}
use Rattle.model.specs.Bytes.{unsigned}
use Rattle.observation.proofs.complement.Goals as goal

-- what 16 bits hold, 32 bits hold
more : {z : ℤ} → SFits w16 z → SFits w32 z
more f = omega (arith, f.sfits)

-- a number of 16 bits read from its bits, widened and read again
same : {z : ℤ} → SFits w16 z → to_z w32 (of_z w32 (to_z w16 (of_z w16 z))) ≡ z
same {z} f = rw (to_z-of_z w16 z f) (to_z-of_z w32 z (more f))

-- two bytes hold it
small : (z : ℤ) → SFits w16 z → unsigned z < 65536
small (pos n) f = omega (arith, f.sfits)
small (negsuc n) f = omega arith

-- a negative number grown by 65,536
lifted : (z : ℤ) → SFits w16 z → lt_z z (pos 0) ≡ true → z +ℤ pos 65536 ≡ pos (unsigned z)
lifted (pos n) f h = absurd (omega (arith, ltb-true n 0 h))
lifted (negsuc n) f h =
    let e : 65536 - suc n ≡ 65535 - n = omega arith in
    rw (le-ltb 65536 (suc n) (omega (arith, f.sfits)), e)

fits : (z : ℤ) → SFits w16 z → SFits w32 (pos (unsigned z))
fits z f = omega (arith, small z f)

-- a number from 0 on
itself : (z : ℤ) → lt_z z (pos 0) ≡ false → z ≡ pos (unsigned z)
itself (pos n) h = refl
itself (negsuc n) h = let z : ◌≡◌ {A = ℕ} 0 1 = cc in absurd (omega arith)

pub overflow_cast-result : goal.overflow_cast-result
overflow_cast-result c = let s = c in rw (to_z-of_z w16 s.args.value s.ranges.value) (more s.ranges.value)

pub overflow_add-result : goal.overflow_add-result
overflow_add-result c =
    let below : lt_z c.args.value (pos 0) ≡ true =
    (let s = c in rw (← to_z-of_z w16 s.args.value s.ranges.value) c.if-value-lt0.true) in
    let sum : to_z w32 (of_z w32 (to_z w16 (of_z w16 c.args.value))) +ℤ pos 65536 ≡ pos (unsigned c.args.value) =
    (let s = c in rw (same s.ranges.value) (lifted s.args.value s.ranges.value below)) in
    let s = c in rw sum (fits s.args.value s.ranges.value)

pub overflow_cast-result-then-value-lt0 : goal.overflow_cast-result-then-value-lt0
overflow_cast-result-then-value-lt0 c =
    let below : lt_z c.args.value (pos 0) ≡ true =
    (let s = c in rw (← to_z-of_z w16 s.args.value s.ranges.value) c.if-value-lt0.true) in
    let sum : to_z w32 (of_z w32 (to_z w16 (of_z w16 c.args.value))) +ℤ pos 65536 ≡ pos (unsigned c.args.value) =
    (let s = c in rw (same s.ranges.value) (lifted s.args.value s.ranges.value below)) in
    let whole : to_z w32 (of_z w32 (to_z w32 (of_z w32 (to_z w16 (of_z w16 c.args.value))) +ℤ pos 65536)) ≡ pos (unsigned c.args.value) =
    (let s = c in rw sum (to_z-of_z w32 (pos (unsigned s.args.value)) (fits s.args.value s.ranges.value))) in
    let s = c in rw whole (tt, omega (arith, small s.args.value s.ranges.value))

pub returns-then-value-lt0 : goal.returns-then-value-lt0
returns-then-value-lt0 c =
    let below : lt_z c.args.value (pos 0) ≡ true =
    (let s = c in rw (← to_z-of_z w16 s.args.value s.ranges.value) c.if-value-lt0.true) in
    let sum : to_z w32 (of_z w32 (to_z w16 (of_z w16 c.args.value))) +ℤ pos 65536 ≡ pos (unsigned c.args.value) =
    (let s = c in rw (same s.ranges.value) (lifted s.args.value s.ranges.value below)) in
    let whole : to_z w32 (of_z w32 (to_z w32 (of_z w32 (to_z w16 (of_z w16 c.args.value))) +ℤ pos 65536)) ≡ pos (unsigned c.args.value) =
    (let s = c in rw sum (to_z-of_z w32 (pos (unsigned s.args.value)) (fits s.args.value s.ranges.value))) in
    rw whole

pub overflow_cast-result-2 : goal.overflow_cast-result-2
overflow_cast-result-2 c =
    let above : lt_z c.args.value (pos 0) ≡ false =
    (let s = c in rw (← to_z-of_z w16 s.args.value s.ranges.value) c.if-value-lt0.false) in
    let s = c in
    rw (to_z-of_z w16 s.args.value s.ranges.value, itself s.args.value above) (tt, omega (arith, small s.args.value s.ranges.value))

pub returns : goal.returns
returns c =
    let above : lt_z c.args.value (pos 0) ≡ false =
    (let s = c in rw (← to_z-of_z w16 s.args.value s.ranges.value) c.if-value-lt0.false) in
    let s = c in
    rw (to_z-of_z w16 s.args.value s.ranges.value, itself s.args.value above)
