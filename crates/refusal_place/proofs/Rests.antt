-- What is left of a component's bytes from a place of the table on. Assumes nothing.
use mathlib.Core.Path.{◌≡◌, ◌∙◌}
use mathlib.Core.List.{List, [], ◌∷◌}
use Prim.Native.Nat.{ℕ, zero, suc, ◌+◌, ◌-◌, ◌≤◌, ◌<◌}
use native.Mathlib.Omega.{arith}
use lib.ListN.{length, take, drop, length-take, length-drop}
use lib.Seq.{get_or-take, get_or-drop, drop-drop, take-nil}
use Rattle.model.specs.Reader.{byte, word}

-- the bytes from `at` up to `end`
abbrev pub rest : List ℕ → ℕ → ℕ → List ℕ
rest bs end at = take (end - at) (drop at bs)

module _ (bs : List ℕ) (end : ℕ) (h : end ≤ length bs) (at : ℕ) where
  pub length_rest : length (rest bs end at) ≡ end - at
  length_rest = simp (length-take, length-drop) (omega arith)

  pub byte_rest : (i : ℕ) → i < end - at → byte (rest bs end at) i ≡ byte bs (at + i)
  byte_rest i k = get_or-take (end - at) (drop at bs) i 0 k ∙ get_or-drop at bs i 0

  pub word_rest : (i : ℕ) → suc i < end - at → word (rest bs end at) i ≡ word bs (at + i)
  word_rest i k =
      let z : at + suc i ≡ suc (at + i) = omega arith in
      rw (byte_rest i (omega arith), byte_rest (suc i) k, z)

pub drop_take : (n m : ℕ) (l : List ℕ) → drop n (take m l) ≡ take (m - n) (drop n l)
drop_take zero m l = let z : m - 0 ≡ m = omega arith in rw z
drop_take (suc n) zero l = let z : 0 - suc n ≡ 0 = omega arith in rw z
drop_take (suc n) (suc m) [] = rw (take-nil (suc m - suc n))
drop_take (suc n) (suc m) (x ∷ l) = let z : suc m - suc n ≡ m - n = omega arith in rw z (drop_take n m l)

pub drop_rest : (bs : List ℕ) (end at n : ℕ) → drop n (rest bs end at) ≡ rest bs end (at + n)
drop_rest bs end at n =
    let z : end - at - n ≡ end - (at + n) = omega arith in
    drop_take n (end - at) (drop at bs) ∙ rw (z, drop-drop n at bs)
