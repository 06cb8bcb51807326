-- Runs of stores. Assumes nothing.
use mathlib.Core.Path.{◌≡◌, refl, ◌∙◌}
use mathlib.Core.List.{List, [], ◌∷◌, ◌++◌}
use Prim.Native.Nat.{ℕ, zero, suc, ◌+◌, ◌≤◌, ◌<◌}
use native.Mathlib.Nat.{add-zero}
use native.Mathlib.Omega.{arith}
use lib.ListN.{length, get_or, set, length-set}
use lib.Seq.{sets, get_or-set_same, get_or-set_other}

module _ {A : Type 0} (d : A) where
  -- what stands before a run of stores stays
  pub before_run : (vs l : List A) (i j : ℕ) → j < i → get_or (sets l i vs) j d ≡ get_or l j d
  before_run [] l i j h = refl
  before_run (v ∷ vs) l i j h = before_run vs (set l i v) (suc i) j (omega arith) ∙ get_or-set_other l i j v d (λ e. omega arith)

  -- what stands after it stays
  pub after_run : (vs l : List A) (i j : ℕ) → i + length vs ≤ j → get_or (sets l i vs) j d ≡ get_or l j d
  after_run [] l i j h = refl
  after_run (v ∷ vs) l i j h = after_run vs (set l i v) (suc i) j (omega arith) ∙ get_or-set_other l i j v d (λ e. omega arith)

  -- the run stands there
  pub in_run : (vs l : List A) (i k : ℕ) → i + length vs ≤ length l → k < length vs → get_or (sets l i vs) (i + k) d ≡ get_or vs k d
  in_run [] l i k h b = absurd (omega arith)
  in_run (v ∷ vs) l i zero h b = rw add-zero (before_run vs (set l i v) (suc i) i (omega arith) ∙ get_or-set_same l i v d (omega arith))
  in_run (v ∷ vs) l i (suc k) h b =
      let e : i + suc k ≡ suc i + k = omega arith in
      rw e (in_run vs (set l i v) (suc i) k (omega (arith, length-set l i v)) (omega arith))

  -- four elements, one by one
  pub four : (xs : List A) → length xs ≡ 4 → xs ≡ get_or xs 0 d ∷ get_or xs 1 d ∷ get_or xs 2 d ∷ get_or xs 3 d ∷ []
  four [] e = absurd (omega arith)
  four (a ∷ []) e = absurd (omega arith)
  four (a ∷ b ∷ []) e = absurd (omega arith)
  four (a ∷ b ∷ c ∷ []) e = absurd (omega arith)
  four (a ∷ b ∷ c ∷ x ∷ []) e = refl
  four (a ∷ b ∷ c ∷ x ∷ y ∷ ys) e = absurd (omega arith)

-- a run of stores after a run of stores
pub two : {A : Type 0} (xs ys l : List A) (i j : ℕ) → j ≡ i + length xs → sets (sets l i xs) j ys ≡ sets l i (xs ++ ys)
two [] ys l i j e = let z : j ≡ i = omega arith in rw z
two (x ∷ xs) ys l i j e = two xs ys (set l i x) (suc i) j (omega arith)
