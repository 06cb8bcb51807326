-- A sweep over the rows that may lie no more than G from row i: what was found before row j, and what is left. Assumes nothing.
use mathlib.Core.Path.{◌≡◌, refl, sym, ap, subst, ◌∙◌}
use mathlib.Core.Bool.{Bool, true, false}
use mathlib.Core.List.{List, [], ◌∷◌, ◌++◌, append_assoc, append-nil}
use Prim.Native.Nat.{ℕ, zero, suc, ◌+◌, ◌-◌, ◌≤◌, ◌<◌}
use native.Mathlib.Numerals.{add-one}
use native.Mathlib.Omega.{arith}
use lib.ListN.{length, length-append}
use Rattle.model.specs.Lists.{only, snoc}
use Rattle.model.specs.Schedule.{Passage}
use Rattle.model.proofs.Basics.Members.{only_append}
use Rattle.rows.specs.Rows.{num, row_passage, rows_from, rows_of, RowsPlaced}
use Rattle.rows.proofs.Sought.{rows_split}

-- ## Rows from row j on

-- those of n rows
abbrev pub rest : List ℕ → ℕ → ℕ → List Passage
rest l n j = rows_from l j (n - j)

pub rest_more : (l : List ℕ) (n j : ℕ) → j < n → rest l n j ≡ row_passage l j ∷ rest l n (j + 1)
unfolding rows_from
rest_more l n j h = let k : n - j ≡ suc (n - suc j) = omega arith in rw (add-one j) (ap (rows_from l j) k)

pub rest_none : (l : List ℕ) (n j : ℕ) → n ≤ j → rest l n j ≡ []
unfolding rows_from
rest_none l n j h = let k : n - j ≡ 0 = omega arith in ap (rows_from l j) k

-- rows of which p does not hold
pub rows_none : (p : Passage → Bool) (l : List ℕ) (i n : ℕ) → ((j : ℕ) → i ≤ j → j < i + n → p (row_passage l j) ≡ false) → only p (rows_from l i n) ≡ []
unfolding rows_from
rows_none p l i zero h = refl
rows_none p l i (suc n) h =
    rw (h i (omega arith) (omega arith)) (rows_none p l (suc i) n (λ j a c. h j (omega arith) (omega arith)))

-- ## The sweep

-- what was found before row j, then what is left, is all
abbrev pub Swept : (Passage → Bool) → List ℕ → ℕ → ℕ → List Passage → Type 0
Swept p l n j found = found ++ only p (rest l n j) ≡ only p (rows_of l n)

module _ (p : Passage → Bool) (l : List ℕ) (n j : ℕ) (found : List Passage) where
  -- row j is found ..
  pub swept_in : (x : Bool) → j < n → x ≡ p (row_passage l j) → x ≡ true → Swept p l n j found → Swept p l n (j + 1) (snoc found (row_passage l j))
  swept_in x h e t q =
      let f : p (row_passage l j) ≡ true = sym e ∙ t in
      let more : only p (rest l n j) ≡ row_passage l j ∷ only p (rest l n (j + 1)) = ap (only p) (rest_more l n j h) ∙ rw f in
      append_assoc found (row_passage l j ∷ []) (only p (rest l n (j + 1))) ∙ ap (λ (vs : List Passage). found ++ vs) (sym more) ∙ q

  -- .. or not
  pub swept_out : (x : Bool) → j < n → x ≡ p (row_passage l j) → x ≡ false → Swept p l n j found → Swept p l n (j + 1) found
  swept_out x h e t q =
      let f : p (row_passage l j) ≡ false = sym e ∙ t in
      let more : only p (rest l n j) ≡ only p (rest l n (j + 1)) = ap (only p) (rest_more l n j h) ∙ rw f in
      ap (λ (vs : List Passage). found ++ vs) (sym more) ∙ q

  swept_all : only p (rest l n j) ≡ [] → Swept p l n j found → found ≡ only p (rows_of l n)
  swept_all e q = sym (append-nil found) ∙ ap (λ (vs : List Passage). found ++ vs) (sym e) ∙ q

  pub swept_done : n ≤ j → Swept p l n j found → found ≡ only p (rows_of l n)
  swept_done h q = swept_all (ap (only p) (rest_none l n j h)) q

-- p is false of a row that lies more than G from row i
pub record Near (G : ℕ) (p : Passage → Bool) (l : List ℕ) (i : ℕ) : Type 0 where
  pub before : (j : ℕ) → num l j 5 + G < num l i 4 → p (row_passage l j) ≡ false
  pub after : (j : ℕ) → num l i 5 + G < num l j 4 → p (row_passage l j) ≡ false

module _ {G : ℕ} (p : Passage → Bool) (bs l : List ℕ) (n i : ℕ) (r : RowsPlaced bs l n) (there : i < n) (near : Near G p l i) where
  -- ## The rows before row i, backward

  -- from row j on all have ended ..
  ended_none : (j m : ℕ) → ((t : ℕ) → j ≤ t → t < j + m → num l t 5 + G < num l i 4) → only p (rows_from l j m) ≡ []
  ended_none j m e = rows_none p l j m (λ t a c. near.before t (e t a c))

  pub back_start : (j : ℕ) → j ≤ i → ((t : ℕ) → j ≤ t → t < i → num l t 5 + G < num l i 4) → only p (rows_from l j (i - j)) ≡ []
  back_start j h e = ended_none j (i - j) (λ t a c. e t a (omega arith))

  module _ (j k : ℕ) (found : List Passage) (h : k < i) (a : j ≤ k) (e : (t : ℕ) → j ≤ t → t < k → num l t 5 + G < num l i 4)
      (q : only p (rows_from l (k + 1) (i - (k + 1))) ≡ found) where
    -- .. row k is looked at, and before it those that ended are left out
    back_on : only p (rows_from l j (i - j)) ≡ only p (row_passage l k ∷ rows_from l (k + 1) (i - (k + 1)))
    unfolding rows_from
    back_on =
        let m : i - j ≡ (k - j) + (i - k) = omega arith in
        let z : j + (k - j) ≡ k = omega arith in
        let u : i - k ≡ suc (i - suc k) = omega arith in
        let split : rows_from l j (i - j) ≡ rows_from l j (k - j) ++ rows_from l k (i - k) =
        ap (rows_from l j) m ∙ rows_split l j (k - j) (i - k) ∙ ap (λ (x : ℕ). rows_from l j (k - j) ++ rows_from l x (i - k)) z in
        let one : rows_from l k (i - k) ≡ row_passage l k ∷ rows_from l (k + 1) (i - (k + 1)) = rw (add-one k) (ap (rows_from l k) u) in
        ap (only p) split
        ∙ only_append p (rows_from l j (k - j)) (rows_from l k (i - k))
        ∙ ap (λ (vs : List Passage). vs ++ only p (rows_from l k (i - k))) (ended_none j (k - j) (λ t x y. e t x (omega arith)))
        ∙ ap (only p) one

    pub back_in : (x : Bool) → x ≡ p (row_passage l k) → x ≡ true → only p (rows_from l j (i - j)) ≡ row_passage l k ∷ found
    back_in x f t =
        let g : p (row_passage l k) ≡ true = sym f ∙ t in
        back_on ∙ rw g (ap (λ (vs : List Passage). row_passage l k ∷ vs) q)

    pub back_out : (x : Bool) → x ≡ p (row_passage l k) → x ≡ false → only p (rows_from l j (i - j)) ≡ found
    back_out x f t =
        let g : p (row_passage l k) ≡ false = sym f ∙ t in
        back_on ∙ rw g q

  -- none is left
  pub back_done : (j : ℕ) (found : List Passage) → j ≤ 0 → only p (rows_from l j (i - j)) ≡ found → only p (rows_of l i) ≡ found
  back_done j found h q =
      let z : j ≡ 0 = omega arith in
      let u : i - 0 ≡ i = omega arith in
      subst (λ (m : ℕ). only p (rows_from l 0 m) ≡ found) u (subst (λ (m : ℕ). only p (rows_from l m (i - m)) ≡ found) z q)

  -- ## From row i on

  -- what was found before row i
  pub swept_at : (found : List Passage) → only p (rows_of l i) ≡ found → Swept p l n i found
  swept_at found q =
      let k : n ≡ i + (n - i) = omega (arith, there) in
      let z : 0 + i ≡ i = omega arith in
      let split : rows_of l n ≡ rows_from l 0 i ++ rest l n i =
      ap (rows_from l 0) k ∙ rows_split l 0 i (n - i) ∙ ap (λ (m : ℕ). rows_from l 0 i ++ rows_from l m (n - i)) z in
      sym (
      ap (only p) split
      ∙ only_append p (rows_from l 0 i) (rest l n i)
      ∙ ap (λ (vs : List Passage). vs ++ only p (rest l n i)) q
      )

  -- the sweep may stop at a row that is entered more than G after row i's end
  pub swept_stop : (j : ℕ) (found : List Passage) → j < n → num l i 5 + G < num l j 3 → Swept p l n j found → found ≡ only p (rows_of l n)
  swept_stop j found h e q =
      swept_all p l n j found
      (rows_none p l j (n - j) (λ t a c. near.after t (omega (arith, r.order j t a (omega arith), (r.row t (omega arith)).early))))
      q

-- ## A sweep that counts

-- k rows were found before row j
pub record Counted (p : Passage → Bool) (l : List ℕ) (n j k : ℕ) : Type 0 where
  pub found : List Passage
  pub swept : Swept p l n j found
  pub count : k ≡ length found

module _ (p : Passage → Bool) (l : List ℕ) (n j k : ℕ) (x : Bool) (h : j < n) (e : x ≡ p (row_passage l j)) (c : Counted p l n j k) where
  pub counted_in : x ≡ true → Counted p l n (j + 1) (k + 1)
  counted_in t =
      record {
        found = snoc c.found (row_passage l j);
        swept = swept_in p l n j c.found x h e t c.swept;
        count = omega (arith, length-append c.found (row_passage l j ∷ []), c.count);
      }

  pub counted_out : x ≡ false → Counted p l n (j + 1) k
  counted_out t = record { found = c.found; swept = swept_out p l n j c.found x h e t c.swept; count = c.count }
