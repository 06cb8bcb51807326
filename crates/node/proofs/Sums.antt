-- Sums of two 16-bit numbers, made in 32 bits. Assumes nothing.
use mathlib.Core.Path.{◌≡◌, refl}
use mathlib.Core.Bool.{Bool, true, false, cond}
use Prim.Native.Nat.{ℕ, suc, ◌+◌, ◌-◌, ◌≤◌}
use native.Mathlib.Omega.{arith}
use borrow.Author.Tests.{leb-true}
use lib.Dec.{ltb, leb}
use lib.IntN.{ℤ, pos, negsuc, ◌+ℤ◌, sub_ℕ}
use lib.Signed.{mag}
use mir.Syntax.{w16, w32}
use mir.Val.{SFits, to_z, of_z}
use mir.ValLaws.{to_z-of_z}
use Rattle.model.specs.Window.{in_range}
use Rattle.model.proofs.Basics.Bools.{and_is}

-- what 16 bits hold, 32 bits hold
pub more : {z : ℤ} → SFits w16 z → SFits w32 z
more f = omega (arith, f.sfits)

mag_sub : (a b : ℕ) → mag (sub_ℕ a b) ≤ a + b
mag_sub a b = go (ltb a b) refl
  where
    go : (t : Bool) → ltb a b ≡ t → mag (cond t (negsuc (b - suc a)) (pos (a - b))) ≤ a + b
    go true e = omega arith
    go false e = omega arith

mag_add : (x z : ℤ) → mag (x +ℤ z) ≤ mag x + mag z + 1
mag_add (pos a) (pos b) = omega arith
mag_add (pos a) (negsuc b) = omega (arith, mag_sub a (suc b))
mag_add (negsuc a) (pos b) = omega (arith, mag_sub b (suc a))
mag_add (negsuc a) (negsuc b) = omega arith

-- the sum fits 32 bits
pub sum_fits : {x z : ℤ} → SFits w16 x → SFits w16 z → SFits w32 (x +ℤ z)
sum_fits {x} {z} f g = omega (arith, f.sfits, g.sfits, mag_add x z)

-- in range, it fits 16 bits
pub range_fits : (z : ℤ) → in_range z ≡ true → SFits w16 z
range_fits (pos n) e = omega (arith, leb-true n 32767 ((and_is true (leb n 32767)).0 e).1)
range_fits (negsuc n) e = omega (arith, leb-true n 32767 ((and_is (leb n 32767) true).0 e).0)

-- a number read from 16 bits, widened to a, and read from 32 bits is itself
pub widened : {x a : ℤ} → SFits w16 x → a ≡ to_z w16 (of_z w16 x) → to_z w32 (of_z w32 a) ≡ x
widened {x} {a} f e = rw (e, to_z-of_z w16 x f) (to_z-of_z w32 x (more f))

-- the sum of two such numbers
module _ {x z a b : ℤ} (f : SFits w16 x) (g : SFits w16 z) (e : a ≡ to_z w16 (of_z w16 x)) (k : b ≡ to_z w16 (of_z w16 z)) where
  pub wide_sum : to_z w32 (of_z w32 a) +ℤ to_z w32 (of_z w32 b) ≡ x +ℤ z
  wide_sum = rw (widened f e, widened g k)

  pub wide_fits : SFits w32 (to_z w32 (of_z w32 a) +ℤ to_z w32 (of_z w32 b))
  wide_fits = rw wide_sum (sum_fits f g)

  pub wide_back : to_z w32 (of_z w32 (to_z w32 (of_z w32 a) +ℤ to_z w32 (of_z w32 b))) ≡ x +ℤ z
  wide_back = rw wide_sum (to_z-of_z w32 (x +ℤ z) (sum_fits f g))
