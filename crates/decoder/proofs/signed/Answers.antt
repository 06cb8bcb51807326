-- `decoder::signed` meets its contract. Assumes nothing.
use borrow.Author.Rules.{rules}
use mathlib.Core.Path.{◌≡◌, refl, ◌∙◌}
use mathlib.Core.Bool.{Bool, true, false, cond}
use Prim.Native.Nat.{ℕ, zero, suc, ◌+◌, ◌-◌, ◌≤◌, ◌<◌}
use native.Mathlib.Omega.{arith}
use borrow.Author.Tests.{lt-ltb, le-ltb, ltb-true, ltb-false}
use lib.Dec.{ltb}
use lib.IntN.{pos, negsuc, ◌-ℤ◌, sub_ℕ}
use lib.Signed.{mag}
use mir.Syntax.{w16, w32}
use mir.Val.{SFits, to_z, of_z}
use mir.ValLaws.{to_z-of_z, to_z_pos}
use Rattle.decoder.proofs.signed.Goals as goal

-- two numbers that are near have a small difference
near : (a b : ℕ) → a < b + 32768 → b ≤ a + 32768 → mag (sub_ℕ a b) < 32768
near a b h l = go (ltb a b) refl
  where
    go : (t : Bool) → ltb a b ≡ t → mag (cond t (negsuc (b - suc a)) (pos (a - b))) < 32768
    go true e = omega (arith, ltb-true a b e)
    go false e = omega (arith, ltb-false a b e)

-- so a number from 32,768 on, less one up to 65,536, fits
module _ (k x : ℕ) (most : x < 65536) (least : 32768 ≤ x) (up : k ≤ 65536) (from : 32769 ≤ k) where
  little : mag (to_z w32 x -ℤ pos k) < 32768
  little = go k up from
    where
      go : (n : ℕ) → n ≤ 65536 → 32769 ≤ n → mag (to_z w32 x -ℤ pos n) < 32768
      go zero u f = absurd (omega arith)
      go (suc j) u f = rw (to_z_pos w32 x (omega arith)) (near x (suc j) (omega arith) (omega arith))

  fits32 : SFits w32 (to_z w32 x -ℤ pos k)
  fits32 = omega (arith, little)

  fits16 : SFits w16 (to_z w32 (of_z w32 (to_z w32 x -ℤ pos k)))
  fits16 = rw (to_z-of_z w32 (to_z w32 x -ℤ pos k) fits32) (omega (arith, little))

  -- what the code reads back
  same : to_z w16 (of_z w16 (to_z w32 (of_z w32 (to_z w32 x -ℤ pos k)))) ≡ to_z w32 x -ℤ pos k
  same = to_z-of_z w16 (to_z w32 (of_z w32 (to_z w32 x -ℤ pos k))) fits16 ∙ to_z-of_z w32 (to_z w32 x -ℤ pos k) fits32

-- less 65,536 it is negative
down : (x : ℕ) → x < 65536 → to_z w32 x -ℤ pos 65536 ≡ negsuc (65535 - x)
down x h =
    let e : 65536 - suc x ≡ 65535 - x = omega arith in
    rw (to_z_pos w32 x (omega arith), lt-ltb x 65536 h, e)

pub overflow_sub-result : goal.overflow_sub-result
overflow_sub-result c = let h : c.args.number < 65536 = omega arith in search (rules, fits32)

pub overflow_cast-result-else-number-lt32768-2 : goal.overflow_cast-result-else-number-lt32768-2
overflow_cast-result-else-number-lt32768-2 c = let h : c.args.number < 65536 = omega arith in search (rules, fits16)

pub returns-then-number-lt32768 : goal.returns-then-number-lt32768
returns-then-number-lt32768 c = rw (to_z_pos w16 c.args.number c.if-number-lt32768.true, lt-ltb c.args.number 32768 c.if-number-lt32768.true)

pub returns-else-number-lt32768 : goal.returns-else-number-lt32768
returns-else-number-lt32768 c =
    let x = c.args.number in
    same 65536 x (omega arith) c.if-number-lt32768.false (omega arith) (omega arith) ∙ rw (le-ltb x 32768 c.if-number-lt32768.false) (down x (omega arith))
