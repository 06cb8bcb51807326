-- The seven fields of passages and of rows, one after the other, and laid over the front of a list. Assumes nothing.
use mathlib.Core.Path.{◌≡◌, refl, sym, ap, ◌∙◌}
use mathlib.Core.Bool.{Bool, true, false, cond}
use mathlib.Core.List.{List, [], ◌∷◌, ◌++◌, map, append_assoc, append-nil}
use mathlib.Core.Option.{none, some}
use Prim.Native.Nat.{ℕ, suc, ◌+◌, ◌*◌, ◌≤◌, ◌<◌}
use native.Mathlib.Nat.{add-zero, add-suc, suc-add}
use native.Mathlib.Numerals.{towards_suc}
use native.Mathlib.Omega.{arith}
use borrow.Author.Tests.{eqb-true, le-leb, lt-leb}
use lib.Dec.{eqb}
use lib.ListN.{length, drop, set}
use lib.Seq.{sets, sets-eq}
use Rattle.model.specs.Lists.{each, snoc, or_else}
use Rattle.model.specs.declared.Verdict.TheVariants.{Accepted}
use Rattle.model.specs.Schedule.{Passage, seven_of, light}
use Rattle.model.specs.Calls.{refusing, laid}
use Rattle.model.proofs.Basics.Walk.{each_length}
use Rattle.rows.specs.Rows.{num, message_of, row_passage, rows_of}
use Rattle.rows.proofs.Grown.{rows_snoc}
use Rattle.schedule.proofs.Grown.{length_rows}

-- a message as a number is the number of the row
number_of_message : (m : ℕ) → or_else (message_of m) 255 ≡ m
number_of_message m = go (eqb m 255) refl
  where
    go : (t : Bool) → eqb m 255 ≡ t → or_else (cond t none (some m)) 255 ≡ m
    go true e = sym (eqb-true m 255 e)
    go false e = refl

-- the seven stores of a row
pub seven_stored : (l out : List ℕ) (i k a b c d e f g : ℕ) → a ≡ num l i 0 → b ≡ num l i 1 → c ≡ num l i 2 → d ≡ num l i 3 → e ≡ num l i 4 → f ≡ num l i 5 → g ≡ num l i 6
    → set (set (set (set (set (set (set out (k * 7) a) (k * 7 + 1) b) (k * 7 + 2) c) (k * 7 + 3) d) (k * 7 + 4) e) (k * 7 + 5) f) (k * 7 + 6) g
    ≡ sets out (k * 7) (seven_of (row_passage l i))
seven_stored l out i k a b c d e f g p q r s t u v = rw (p, q, r, s, t, u, v, number_of_message (num l i 6)) (simp towards_suc)

-- a run of stores after a run of stores
pub sets_append : (xs ys l : List ℕ) (i : ℕ) → sets l i (xs ++ ys) ≡ sets (sets l i xs) (i + length xs) ys
sets_append [] ys l i = rw add-zero
sets_append (x ∷ xs) ys l i = rw (add-suc, ← suc-add) (sets_append xs ys (set l i x) (suc i))

pub each_snoc : {A : Type 0} (f : A → List ℕ) (xs : List A) (x : A) → each f (snoc xs x) ≡ each f xs ++ f x
unfolding each
each_snoc f [] x = append-nil (f x)
each_snoc f (y ∷ xs) x = ap (λ l. f y ++ l) (each_snoc f xs x) ∙ sym (append_assoc (f y) (each f xs) (f x))

-- ## Parts of one width

module _ {A : Type 0} (f : A → List ℕ) (w : ℕ) (sized : (x : A) → length (f x) ≡ w) where
  -- one part more
  pub laid_more : (P : List A) (x : A) (k : ℕ) (out out₁ out₂ : List ℕ) → k ≡ length P → out₁ ≡ sets out 0 (each f P) → out₂ ≡ sets out₁ (k * w) (f x)
      → out₂ ≡ sets out 0 (each f (snoc P x))
  laid_more P x k out out₁ out₂ n p q =
      let zero-add : length (each f P) ≡ 0 + length (each f P) = omega arith in
      let place : k * w ≡ 0 + length (each f P) = ap (λ (m : ℕ). m * w) n ∙ sym (each_length f w sized P) ∙ zero-add in
      q ∙ rw (p, place) (sym (sets_append (each f P) (f x) out 0)) ∙ ap (sets out 0) (sym (each_snoc f P x))

  -- all of them: what lies past them stays
  pub laid_all : (P : List A) (k : ℕ) (out : List ℕ) → k ≡ length P → k * w ≤ length out → sets out 0 (each f P) ≡ each f P ++ drop (k * w) out
  laid_all P k out n h =
      let long : length (each f P) ≡ k * w = each_length f w sized P ∙ ap (λ (m : ℕ). m * w) (sym n) in
      let zero-add : 0 + length (each f P) ≡ length (each f P) = omega arith in
      sets-eq (each f P) out 0 (rw (zero-add, long) h) ∙ ap (λ (m : ℕ). each f P ++ drop m out) (zero-add ∙ long)

-- ## Seven numbers a passage

pub fields_length : (P : List Passage) → length (each seven_of P) ≡ length P * 7
fields_length P = each_length seven_of 7 (λ v. refl) P

-- they say nothing of clocks and variables at entry
pub fields_light : (P : List Passage) → each seven_of (map light P) ≡ each seven_of P
unfolding each
fields_light [] = refl
fields_light (v ∷ P) = ap (λ (l : List ℕ). seven_of v ++ l) (fields_light P)

-- one passage more, and all of them
pub fields_more : (P : List Passage) (v : Passage) (k : ℕ) (out out₁ out₂ : List ℕ) → k ≡ length P → out₁ ≡ sets out 0 (each seven_of P) → out₂ ≡ sets out₁ (k * 7) (seven_of v)
    → out₂ ≡ sets out 0 (each seven_of (snoc P v))
fields_more P v k out out₁ out₂ n p q = laid_more seven_of 7 (λ v. refl) P v k out out₁ out₂ n p q

pub fields_laid : (P : List Passage) (k : ℕ) (out : List ℕ) → k ≡ length P → k * 7 ≤ length out → sets out 0 (each seven_of P) ≡ each seven_of P ++ drop (k * 7) out
fields_laid P k out n h = laid_all seven_of 7 (λ v. refl) P k out n h

-- a result that fits is laid over the front, one that does not is refused
pub laid_fits : (P : List Passage) (k : ℕ) (listed lent : List ℕ) → k ≡ length P → listed ≡ each seven_of P → k * 7 ≤ length lent
    → laid (length P) (each seven_of P) lent ≡ record { verdict = Accepted; size = k; lent = listed ++ drop (k * 7) lent }
laid_fits P k listed lent e f h =
    let m : k * 7 ≡ length (each seven_of P) = omega (arith, fields_length P) in
    rw (le-leb (length (each seven_of P)) (length lent) (omega arith), e, f, ← e, m)

pub laid_short : (P : List Passage) (k : ℕ) (lent : List ℕ) → k ≡ length P → length lent < k * 7 → laid (length P) (each seven_of P) lent ≡ refusing 13 255 lent
laid_short P k lent e h =
    let n : length lent < length (each seven_of P) = omega (arith, fields_length P) in
    rw (lt-leb (length (each seven_of P)) (length lent) n)

-- ## Rows

-- one row more
pub fields_turn : (l out out₁ out₂ : List ℕ) (i : ℕ) → out₁ ≡ sets out 0 (each seven_of (rows_of l i)) → out₂ ≡ sets out₁ (i * 7) (seven_of (row_passage l i))
    → out₂ ≡ sets out 0 (each seven_of (rows_of l (i + 1)))
fields_turn l out out₁ out₂ i p q =
    fields_more (rows_of l i) (row_passage l i) i out out₁ out₂ (sym (length_rows l 0 i)) p q
    ∙ ap (λ P. sets out 0 (each seven_of P)) (sym (rows_snoc l i))

pub fields_done : (l out : List ℕ) (n : ℕ) → n * 7 ≤ length out → sets out 0 (each seven_of (rows_of l n)) ≡ each seven_of (rows_of l n) ++ drop (n * 7) out
fields_done l out n h = fields_laid (rows_of l n) n out (sym (length_rows l 0 n)) h
