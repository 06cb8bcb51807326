-- The numbers of rows after a row was written. Assumes nothing.
use mathlib.Core.Path.{◌≡◌, refl, ◌∙◌}
use mathlib.Core.Logic.{◌⊎◌, inl, inr, ⊎_elim}
use mathlib.Core.Bool.{Bool, true, false}
use mathlib.Core.List.{List, [], ◌∷◌}
use Prim.Native.Nat.{ℕ, zero, suc, ◌+◌, ◌*◌, ◌≤◌, ◌<◌}
use native.Mathlib.Nat.{add-zero}
use native.Mathlib.Omega.{arith}
use borrow.Author.Tests.{ltb-true, ltb-false}
use lib.Dec.{ltb}
use lib.ListN.{length, get_or, set, length-set}
use lib.Seq.{sets, get_or-set_same, get_or-set_other}
use Rattle.rows.specs.Rows.{num}

-- a number before a run of stores stays
before_run : (vs l : List ℕ) (i j : ℕ) → j < i → get_or (sets l i vs) j 0 ≡ get_or l j 0
before_run [] l i j h = refl
before_run (v ∷ vs) l i j h = before_run vs (set l i v) (suc i) j (omega arith) ∙ get_or-set_other l i j v 0 (λ e. omega arith)

-- a number after a run of stores stays
after_run : (vs l : List ℕ) (i j : ℕ) → i + length vs ≤ j → get_or (sets l i vs) j 0 ≡ get_or l j 0
after_run [] l i j h = refl
after_run (v ∷ vs) l i j h = after_run vs (set l i v) (suc i) j (omega arith) ∙ get_or-set_other l i j v 0 (λ e. omega arith)

-- a run of stores stands there
in_run : (vs l : List ℕ) (i k : ℕ) → i + length vs ≤ length l → k < length vs → get_or (sets l i vs) (i + k) 0 ≡ get_or vs k 0
in_run [] l i k h b = absurd (omega arith)
in_run (v ∷ vs) l i zero h b = rw add-zero (before_run vs (set l i v) (suc i) i (omega arith) ∙ get_or-set_same l i v 0 (omega arith))
in_run (v ∷ vs) l i (suc k) h b =
    let e : i + suc k ≡ suc i + k = omega arith in
    rw e (in_run vs (set l i v) (suc i) k (omega (arith, length-set l i v)) (omega arith))

module _ (l row : List ℕ) (i : ℕ) (nine : length row ≡ 9) where
  -- the other rows stay
  pub row_others : (j k : ℕ) → (j ≡ i → ⊥) → k < 9 → num (sets l (i * 9) row) j k ≡ num l j k
  row_others j k d h =
      ⊎_elim (λ b. before_run row l (i * 9) (j * 9 + k) b) (λ a. after_run row l (i * 9) (j * 9 + k) a) (go (ltb j i) refl)
    where
      go : (t : Bool) → ltb j i ≡ t → (j * 9 + k < i * 9) ⊎ (i * 9 + length row ≤ j * 9 + k)
      go true e = inl (omega (arith, ltb-true j i e))
      go false e = let b : i < j = omega (arith, ltb-false j i e) in inr (omega (arith, nine))

  -- number k of the row is the k-th written
  pub row_written : (k : ℕ) → i * 9 + 9 ≤ length l → k < 9 → num (sets l (i * 9) row) i k ≡ get_or row k 0
  row_written k h b = in_run row l (i * 9) k (omega (arith, nine)) (omega (arith, nine))

  -- what stands past all rows stays
  pub row_past : (j : ℕ) → i * 9 + 9 ≤ j → get_or (sets l (i * 9) row) j 0 ≡ get_or l j 0
  row_past j h = after_run row l (i * 9) j (omega (arith, nine))
