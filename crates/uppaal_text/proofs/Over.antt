-- A run whose first bytes are written over. Assumes nothing.
use mathlib.Core.Path.{◌≡◌, refl, sym, ap, ◌∙◌}
use mathlib.Core.List.{List, [], ◌∷◌, ◌++◌}
use Prim.Native.Nat.{ℕ, zero, suc, ◌+◌, ◌≤◌}
use Prim.Native.String.{String}
use native.Mathlib.Omega.{arith}
use lib.ListN.{length, set, length-append}
use lib.Seq.{sets}
use Rattle.model.specs.Lists.{each}
use Rattle.blocks.specs.Put.{Put}
use Rattle.blocks.proofs.Runs.{sets_append, put_is}
use Rattle.translator.proofs.Laying.{sets_past}
use Rattle.words.specs.Words.{ascii}
use Rattle.uppaal.specs.XtaText.{each_after, listed}

set_again : (o : List ℕ) (i x y : ℕ) → set (set o i x) i y ≡ set o i y
set_again [] i x y = refl
set_again (z ∷ o) zero x y = refl
set_again (z ∷ o) (suc i) x y = ap (λ (l : List ℕ). z ∷ l) (set_again o i x y)

-- as many bytes in the same place
sets_again : (xs ys o : List ℕ) (i : ℕ) → length xs ≡ length ys → sets (sets o i xs) i ys ≡ sets o i ys
sets_again [] [] o i e = refl
sets_again [] (y ∷ ys) o i e = absurd (omega arith)
sets_again (x ∷ xs) [] o i e = absurd (omega arith)
sets_again (x ∷ xs) (y ∷ ys) o i e =
    ap (λ (l : List ℕ). sets l (suc i) ys) (sets_past (y ∷ []) xs (set o i x) i (suc i) (omega arith) ∙ ap (λ (l : List ℕ). sets l (suc i) xs) (set_again o i x y))
    ∙ sets_again xs ys (set o i y) (suc i) (omega arith)

module _ (s x y z : List ℕ) {o p q : List ℕ} {at n k : ℕ} where
  -- the first bytes s give way to z, with y before them
  put_over : length y ≡ 4 → length s ≡ 4 → length z ≡ 4 → Put o (at + 4) (s ++ x) n p → Put p at (y ++ z) k q → Put o at ((y ++ z) ++ x) n q
  put_over e f g a b =
      let w : at + length (y ++ z) ≡ at + 4 + length s = omega (arith, length-append y z) in
      let i : at + length y ≡ at + 4 = omega arith in
      let under : sets (sets o (at + 4) s) at (y ++ z) ≡ sets o at (y ++ z) =
      sets_append y z (sets o (at + 4) s) at
      ∙ rw (sets_past y s o at (at + 4) (omega arith), i) (sets_again s z (sets o at y) (at + 4) (omega arith) ∙ rw (← i) (sym (sets_append y z o at))) in
      record {
        next = omega (arith, a.next, length-append s x, length-append (y ++ z) x, length-append y z);
        same =
            b.same
            ∙ rw (a.same, sets_append s x o (at + 4), sets_past (y ++ z) x (sets o (at + 4) s) at (at + 4 + length s) (omega (arith, w)), under, ← w)
            (sym (sets_append (y ++ z) x o at));
      }

-- a list whose members each stand behind a comma: over the first comma is written what it begins with
pub listed_over : {A : Type 0} (f : A → List ℕ) (xs : List A) (before : String) (y z : List ℕ) {o p q : List ℕ} {at n k : ℕ} → 1 ≤ length xs → ascii before ≡ y ++ z → length y ≡ 4 → length z ≡ 4
    → Put o (at + 4) (each_after ",\n  " f xs) n p → Put p at (ascii before) k q → Put o at (listed before ",\n  " f xs) n q
unfolding each_after each listed
listed_over f [] before y z h e i j a b = absurd (omega arith)
listed_over f (x ∷ xs) before y z {o} {p} {q} {at} {n} {k} h e i j a b =
    let r : Put o at ((y ++ z) ++ (f x ++ each_after ",\n  " f xs)) n q = put_over (ascii ",\n  ") (f x ++ each_after ",\n  " f xs) y z i refl j a (put_is e b) in
    put_is (ap (λ (l : List ℕ). l ++ (f x ++ each_after ",\n  " f xs)) (sym e)) r
