-- A number of 16 bits by its two's complement. Assumes nothing.
use mathlib.Core.Path.{◌≡◌, refl}
use mathlib.Core.Bool.{true, false}
use Prim.Native.Nat.{ℕ, suc, ◌-◌, ◌<◌}
use native.Mathlib.Omega.{arith}
use borrow.Author.Tests.{ltb-true, le-ltb}
use lib.IntN.{ℤ, pos, negsuc, ◌+ℤ◌}
use lib.Signed.{lt_z}
use mir.Syntax.{w16, w32}
use mir.Val.{SFits, to_z, of_z}
use mir.ValLaws.{to_z-of_z}
use Rattle.model.specs.Bytes.{unsigned}
use Rattle.text.specs.Words.{decimal, field}
use Rattle.reason_text.specs.ReasonText.{signed}

-- what 16 bits hold, 32 bits hold
pub more : {z : ℤ} → SFits w16 z → SFits w32 z
more f = omega (arith, f.sfits)

-- a number of 16 bits read from its bits, widened and read again
same : {z : ℤ} → SFits w16 z → to_z w32 (of_z w32 (to_z w16 (of_z w16 z))) ≡ z
same {z} f = rw (to_z-of_z w16 z f) (to_z-of_z w32 z (more f))

pub small : (z : ℤ) → SFits w16 z → unsigned z < 65536
small (pos n) f = omega (arith, f.sfits)
small (negsuc n) f = omega arith

-- a negative number grown by 65,536
lifted : (z : ℤ) → SFits w16 z → lt_z z (pos 0) ≡ true → z +ℤ pos 65536 ≡ pos (unsigned z)
lifted (pos n) f h = absurd (omega (arith, ltb-true n 0 h))
lifted (negsuc n) f h =
    let e : 65536 - suc n ≡ 65535 - n = omega arith in
    rw (le-ltb 65536 (suc n) (omega (arith, f.sfits)), e)

pub fits : (z : ℤ) → SFits w16 z → SFits w32 (pos (unsigned z))
fits z f = omega (arith, small z f)

-- a number from 0 on
pub itself : (z : ℤ) → lt_z z (pos 0) ≡ false → z ≡ pos (unsigned z)
itself (pos n) h = refl
itself (negsuc n) h = let z : ◌≡◌ {A = ℕ} 0 1 = cc in absurd (omega arith)

-- the machine's sum
pub sum : (z : ℤ) → SFits w16 z → lt_z z (pos 0) ≡ true → to_z w32 (of_z w32 (to_z w16 (of_z w16 z))) +ℤ pos 65536 ≡ pos (unsigned z)
sum z f h = rw (same f) (lifted z f h)

pub whole : (z : ℤ) → SFits w16 z → lt_z z (pos 0) ≡ true → to_z w32 (of_z w32 (to_z w32 (of_z w32 (to_z w16 (of_z w16 z))) +ℤ pos 65536)) ≡ pos (unsigned z)
whole z f h = rw (sum z f h) (to_z-of_z w32 (pos (unsigned z)) (fits z f))

-- ## In words

pub below_zero : (z : ℤ) → SFits w16 z → lt_z z (pos 0) ≡ true → field "-" (65536 - unsigned z) ≡ signed z
below_zero (pos n) f h = absurd (omega (arith, ltb-true n 0 h))
below_zero (negsuc n) f h = let e : 65536 - (65535 - n) ≡ suc n = omega (arith, f.sfits) in rw e

pub from_zero : (z : ℤ) → lt_z z (pos 0) ≡ false → decimal (unsigned z) ≡ signed z
from_zero (pos n) h = refl
from_zero (negsuc n) h = let z : ◌≡◌ {A = ℕ} 0 1 = cc in absurd (omega arith)
