-- Lines after lines: a loop over things that so many numbers each tell, a line a thing. Assumes nothing.
use mathlib.Core.Path.{◌≡◌, sym, ap, ap₂, subst, ◌∙◌}
use mathlib.Core.List.{List, ◌++◌, append_assoc, append-nil}
use Prim.Native.Nat.{ℕ, suc, ◌+◌, ◌*◌, ◌-◌, ◌<◌}
use native.Mathlib.Nat.{le_refl, suc-mul}
use native.Mathlib.Numerals.{add-one}
use native.Mathlib.Omega.{arith}
use lib.ListN.{length, take, drop, length-drop}
use lib.Seq.{take_all, drop-drop}
use Rattle.model.specs.Lists.{each}
use Rattle.text.specs.Words.{told, Added}

-- what is lent from a number on
abbrev pub from : List ℕ → ℕ → List ℕ
from list k = take (length list - k) (drop k list)

pub from_is : (list : List ℕ) (k : ℕ) → from list k ≡ drop k list
from_is list k = take_all (length list - k) (drop k list) (rw length-drop (le_refl (length list - k)))

module _ {A : Type 0} (width : ℕ) (tell : List ℕ → A) (line : A → List ℕ) where
  -- the lines from number i on
  unfoldable pub left : List ℕ → ℕ → ℕ → List ℕ
  unfolding each told
  left list n i = each line (told width tell (drop (i * width) list) (n - i))

  pub left_start : (list out : List ℕ) (at n : ℕ) → take at out ++ left list n 0 ≡ take at out ++ each line (told width tell list n)
  unfolding left each told
  left_start list out at n =
      let p : n - 0 ≡ n = omega arith in
      let q : 0 * width ≡ 0 = omega arith in
      ap₂ (λ (k m : ℕ). take at out ++ each line (told width tell (drop k list) m)) q p

  pub left_turn : (list out out' text : List ℕ) (at at' n i : ℕ) → i < n → Added out at (line (tell (from list (i * width)))) out' at'
      → take at out ++ left list n i ≡ text → take at' out' ++ left list n (i + 1) ≡ text
  unfolding left each told
  left_turn list out out' text at at' n i h added e =
      let a = subst (λ (l : List ℕ). Added out at (line (tell l)) out' at') (from_is list (i * width)) added in
      let p : n - i ≡ suc (n - (i + 1)) = omega arith in
      let q : i * width + width ≡ (i + 1) * width = sym (rw add-one (suc-mul i width)) in
      let here = line (tell (drop (i * width) list)) in
      let rest = each line (told width tell (drop ((i + 1) * width) list) (n - (i + 1))) in
      let split : left list n i ≡ here ++ rest =
      ap (λ (m : ℕ). each line (told width tell (drop (i * width) list) m)) p
      ∙ ap (λ (l : List ℕ). here ++ each line (told width tell l (n - (i + 1)))) (drop-drop width (i * width) list ∙ ap (λ (m : ℕ). drop m list) q)
      in
      ap (λ (t : List ℕ). t ++ rest) a.text ∙ append_assoc (take at out) here rest ∙ ap (λ (t : List ℕ). take at out ++ t) (sym split) ∙ e

  pub left_done : (list out text : List ℕ) (at n i : ℕ) → i ≡ n → take at out ++ left list n i ≡ text → take at out ≡ text
  unfolding left each told
  left_done list out text at n i p e =
      let q : n - i ≡ 0 = omega (arith, p) in
      sym (append-nil (take at out)) ∙ ap (λ (m : ℕ). take at out ++ each line (told width tell (drop (i * width) list) m)) (sym q) ∙ e
