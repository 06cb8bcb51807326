-- Rows whose readies are so much later. Assumes nothing.
use mathlib.Core.Path.{◌≡◌, refl, sym, ap, ap₂, ◌∙◌}
use mathlib.Core.Bool.{Bool, true, false, cond}
use mathlib.Core.List.{List, ◌∷◌, map}
use Prim.Native.Nat.{ℕ, zero, suc, ◌+◌, ◌-◌, ◌*◌, ◌≤◌, ◌<◌}
use native.Mathlib.Omega.{arith}
use borrow.Author.Tests.{eqb-true, eqb-false, lt-ltb, le-ltb}
use lib.Dec.{eqb}
use lib.ListN.{length, set, length-set}
use lib.Seq.{get_or-set_same, get_or-set_other}
use Rattle.model.specs.Schedule.{Passage}
use Rattle.recurrence.proofs.Turned.{capped}
use Rattle.later_runs.proofs.Front.{delayed}
use Rattle.rows.specs.Rows.{num, row_passage, rows_from, rows_of}
use Rattle.machine.specs.Running.{RowsStand}

-- ## One ready

-- beyond what a row holds
pub later_last : (ready period : ℕ) → period ≤ 4294967295 → 4294967295 - period < ready → 4294967295 ≡ capped (ready + period)
later_last ready period h b = sym (ap (λ (t : Bool). cond t 4294967295 (ready + period)) (lt-ltb 4294967295 (ready + period) (omega arith)))

pub later_held : (ready period : ℕ) → period ≤ 4294967295 → ready ≤ 4294967295 - period → ready + period ≡ capped (ready + period)
later_held ready period h b = sym (ap (λ (t : Bool). cond t 4294967295 (ready + period)) (le-ltb 4294967295 (ready + period) (omega arith)))

-- ## Row by row

-- the readies of the first i rows are so much later
pub record MovedTo (period : ℕ) (l k : List ℕ) (i : ℕ) : Type 0 where
  pub same : length k ≡ length l
  pub ready : (j : ℕ) → j < i → num k j 4 ≡ capped (num l j 4 + period)
  pub rest : (j m : ℕ) → m < 9 → (m ≡ 4 → ⊥) → num k j m ≡ num l j m
  pub ahead : (j : ℕ) → i ≤ j → num k j 4 ≡ num l j 4

pub none_moved : (period : ℕ) (l : List ℕ) → MovedTo period l l 0
none_moved period l = record { same = refl; ready = λ j h. absurd (omega arith); rest = λ j m h d. refl; ahead = λ j h. refl }

module _ (period : ℕ) (l k : List ℕ) (i : ℕ) (p : MovedTo period l k i) where
  -- one more
  pub one_moved : (x : ℕ) → i * 9 + 4 < length k → x ≡ capped (num k i 4 + period) → MovedTo period l (set k (i * 9 + 4) x) (i + 1)
  one_moved x h e =
      record {
        same = length-set k (i * 9 + 4) x ∙ p.same;
        ready = λ j b. at_row j b (eqb j i) refl;
        rest = λ j m b d. get_or-set_other k (i * 9 + 4) (j * 9 + m) x 0 (λ q. d (omega arith)) ∙ p.rest j m b d;
        ahead = λ j a. get_or-set_other k (i * 9 + 4) (j * 9 + 4) x 0 (λ q. omega arith) ∙ p.ahead j (omega arith);
      }
    where
      at_row : (j : ℕ) → j < i + 1 → (t : Bool) → eqb j i ≡ t → num (set k (i * 9 + 4) x) j 4 ≡ capped (num l j 4 + period)
      at_row j b true q =
          let s : j ≡ i = eqb-true j i q in
          rw s (get_or-set_same k (i * 9 + 4) x 0 h ∙ e ∙ ap (λ (y : ℕ). capped (y + period)) (p.ahead i (omega arith)))
      at_row j b false q =
          let d = eqb-false j i q in
          get_or-set_other k (i * 9 + 4) (j * 9 + 4) x 0 (λ q. d (omega arith)) ∙ p.ready j (omega arith)

  row_moved : (j : ℕ) → j < i → row_passage k j ≡ delayed period (row_passage l j)
  row_moved j h =
      rw (
        p.rest j 0 (omega arith) (λ e. omega arith),
        p.rest j 1 (omega arith) (λ e. omega arith),
        p.rest j 2 (omega arith) (λ e. omega arith),
        p.rest j 3 (omega arith) (λ e. omega arith),
        p.ready j h,
        p.rest j 5 (omega arith) (λ e. omega arith),
        p.rest j 6 (omega arith) (λ e. omega arith),
      )

  rows_moved : (j m : ℕ) → j + m ≤ i → rows_from k j m ≡ map (delayed period) (rows_from l j m)
  unfolding rows_from
  rows_moved j zero h = refl
  rows_moved j (suc m) h = ap₂ (λ (v : Passage) (vs : List Passage). v ∷ vs) (row_moved j (omega arith)) (rows_moved (suc j) m (omega arith))

  -- all of them
  pub all_moved : (n : ℕ) → n ≤ i → (rows_of k n ≡ map (delayed period) (rows_of l n)) × (length k ≡ length l)
  all_moved n h = (rows_moved 0 n (omega arith), p.same)

  -- there is room for a row's ready
  pub in_rows : (n : ℕ) → RowsStand l n → i < n → i * 9 + 4 < length k
  in_rows n r h = omega (arith, r.fits, p.same)
