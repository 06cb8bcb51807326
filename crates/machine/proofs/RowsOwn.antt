-- The rows of the schedule that are one component's: the row of its next passage, and that of the one after. Assumes nothing.
use mathlib.Core.Path.{◌≡◌, refl, sym, ap, subst, ◌∙◌}
use mathlib.Core.Bool.{cond}
use mathlib.Core.List.{List, [], ◌∷◌}
use Prim.Native.Nat.{ℕ, suc, ◌+◌, ◌*◌, ◌≤◌, ◌<◌}
use native.Mathlib.Numerals.{add-one}
use native.Mathlib.Omega.{arith}
use borrow.Author.Tests.{lt-ltb, le-ltb}
use lib.ListN.{length, drop, set, drop_of_length-le}
use lib.Seq.{drop-cons, drop-drop}
use Rattle.model.specs.Schedule.{Passage, own}
use Rattle.model.specs.Checks.{no_passage, passage_at}
use Rattle.model.proofs.Schedule.Own.{own_here, own_other}
use Rattle.rows.specs.Rows.{num, row_passage, rows_of}
use Rattle.rows.proofs.Numbered.{rows_length, row_at}
use Rattle.stand.specs.Stands.{never}
use Rattle.registers.specs.Words.{word_in}
use Rattle.registers.proofs.Frames.{put_there, put_beside, put_length, put_others}
use Rattle.machine.specs.Running.{RowIs, ready_at}
use Rattle.machine.specs.Chosen.{RowPassed}

module _ (rows : List ℕ) (n : ℕ) where
  -- the passages from a row on
  row_on : (k : ℕ) → k < n → drop k (rows_of rows n) ≡ row_passage rows k ∷ drop (suc k) (rows_of rows n)
  row_on k h =
      let long : k < length (rows_of rows n) = omega (arith, rows_length rows n) in
      drop-cons (rows_of rows n) k no_passage long ∙ ap (λ (v : Passage). v ∷ drop (suc k) (rows_of rows n)) (row_at rows n k h)

  -- a row of another component is passed over
  pub own_past : (c k : ℕ) → k < n → (num rows k 0 ≡ c → ⊥) → own c (drop (k + 1) (rows_of rows n)) ≡ own c (drop k (rows_of rows n))
  own_past c k h d =
      ap (λ (m : ℕ). own c (drop m (rows_of rows n))) (add-one k)
      ∙ sym (ap (own c) (row_on k h) ∙ own_other c (row_passage rows k) (drop (suc k) (rows_of rows n)) d)

  -- a row of the component is its next passage
  own_next : (c k : ℕ) → k < n → num rows k 0 ≡ c → own c (drop k (rows_of rows n)) ≡ row_passage rows k ∷ own c (drop (suc k) (rows_of rows n))
  own_next c k h e = ap (own c) (row_on k h) ∙ own_here c (row_passage rows k) (drop (suc k) (rows_of rows n)) e

  -- ## The ready of a row

  pub ready_of : (k : ℕ) → k < n → num rows k 4 ≡ ready_at (rows_of rows n) k
  ready_of k h =
      let long : k < length (rows_of rows n) = omega (arith, rows_length rows n) in
      sym (ap (λ t. cond t (passage_at (rows_of rows n) k).ready never) (lt-ltb k (length (rows_of rows n)) long)
      ∙ ap (λ (v : Passage). v.ready) (row_at rows n k h))

  pub no_ready : (k : ℕ) → n ≤ k → never ≡ ready_at (rows_of rows n) k
  no_ready k h =
      let long : length (rows_of rows n) ≤ k = omega (arith, rows_length rows n) in
      sym (ap (λ t. cond t (passage_at (rows_of rows n) k).ready never) (le-ltb k (length (rows_of rows n)) long))

  -- ## The row of the passage after

  -- one passage more
  after : (k : ℕ) (ws : List Passage) {v : Passage} {vs : List Passage} → v ∷ vs ≡ drop k ws → vs ≡ drop (suc k) ws
  after k ws e =
      let s : k + 1 ≡ suc k = add-one k in
      ap (drop 1) e ∙ drop-drop 1 k ws ∙ ap (λ (m : ℕ). drop m ws) s

  pub row_passed : (c k row next : ℕ) → row < n → next ≤ n
      → own c (drop next (rows_of rows n)) ≡ own c (drop (row + 1) (rows_of rows n)) → (next < n → num rows next 0 ≡ c)
      → RowIs (rows_of rows n) c k row → RowIs (rows_of rows n) c (suc k) next
  row_passed c k row next h m e t r =
      let long = rows_length rows n in
      let here : num rows row 0 ≡ c = sym (ap (λ (v : Passage). v.component) (row_at rows n row h)) ∙ r.there (omega arith) in
      let step : own c (drop next (rows_of rows n)) ≡ own c (drop (suc row) (rows_of rows n)) =
      e ∙ ap (λ (i : ℕ). own c (drop i (rows_of rows n))) (add-one row) in
      record {
        among = omega arith;
        rest = step ∙ after k (own c (rows_of rows n)) (sym (own_next c row h here) ∙ r.rest);
        there = λ b.
            let in_rows : next < n = omega arith in
            ap (λ (v : Passage). v.component) (row_at rows n next in_rows) ∙ t in_rows;
      }

  -- past the last row there is none
  pub none_passed : (c k row : ℕ) → n ≤ row → RowIs (rows_of rows n) c k row → RowIs (rows_of rows n) c (suc k) row
  none_passed c k row h r =
      let long : length (rows_of rows n) ≤ row = omega (arith, rows_length rows n) in
      let gone : own c (drop row (rows_of rows n)) ≡ [] = ap (own c) (drop_of_length-le (rows_of rows n) long) in
      record {
        among = r.among;
        rest = gone ∙ ap (drop 1) (sym gone ∙ r.rest) ∙ drop-drop 1 k (own c (rows_of rows n)) ∙ ap (λ (m : ℕ). drop m (own c (rows_of rows n))) (add-one k);
        there = r.there;
      }

-- ## After a sleep

-- the row of the next passage is put
pub next_put : (rows : List ℕ) (n : ℕ) (l : List ℕ) (c row next : ℕ) (l' : List ℕ) → 256 ≤ length l → c < 8 → row ≡ word_in l c 25 → row < n → next ≤ n
    → own c (drop next (rows_of rows n)) ≡ own c (drop (row + 1) (rows_of rows n)) → (next < n → num rows next 0 ≡ c)
    → l' ≡ set l (c * 32 + 25) next → RowPassed rows n l c l'
next_put rows n l c row next l' long h e b m o t s =
    record {
      row = λ k r.
          subst (RowIs (rows_of rows n) c (suc k)) (sym (put_there l c 25 next s long h (omega arith)))
          (row_passed rows n c k row next b m o t (subst (RowIs (rows_of rows n) c k) (sym e) r));
      beside = λ k a d. put_beside l c 25 next s k d;
      others = λ i k d a. (put_others l c 25 next s [] i d (omega arith)).words k a;
      same = put_length l c 25 next s;
    }

-- there is no next passage
pub none_put : (rows : List ℕ) (n : ℕ) (l : List ℕ) (c row : ℕ) → row ≡ word_in l c 25 → n ≤ row → RowPassed rows n l c l
none_put rows n l c row e b =
    record {
      row = λ k r. none_passed rows n c k (word_in l c 25) (omega arith) r;
      beside = λ k a d. refl;
      others = λ i k d a. refl;
      same = refl;
    }
