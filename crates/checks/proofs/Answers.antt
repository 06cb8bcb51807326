-- The first row at fault. Assumes nothing.
use mathlib.Core.Path.{◌≡◌, sym, ap, ◌∙◌}
use mathlib.Core.Bool.{Bool, true, false}
use mathlib.Core.List.{List}
use mathlib.Core.Option.{none, some}
use Prim.Native.Nat.{ℕ, ◌+◌, ◌-◌, ◌≤◌, ◌<◌}
use native.Mathlib.Omega.{arith}
use Rattle.model.specs.Lists.{first}
use Rattle.model.specs.Schedule.{Passage}
use Rattle.rows.specs.Rows.{row_passage, rows_from, rows_of}
use Rattle.checks.proofs.Swept.{rest, rest_more, rest_none}

-- ## The first row at fault

-- it is found from row i on
abbrev pub Ahead : (Passage → Bool) → List ℕ → ℕ → ℕ → Type 0
Ahead p l n i = first p (rest l n i) ≡ first p (rows_of l n)

module _ (p : Passage → Bool) (l : List ℕ) (n : ℕ) where
  pub ahead_start : Ahead p l n 0
  ahead_start = let e : n - 0 ≡ n = omega arith in ap (λ (m : ℕ). first p (rows_from l 0 m)) e

  module _ (i : ℕ) where
    -- row i is at fault ..
    pub ahead_at : (x : Bool) → i < n → x ≡ p (row_passage l i) → x ≡ true → Ahead p l n i → some (row_passage l i) ≡ first p (rows_of l n)
    ahead_at x h e t q =
        let f : p (row_passage l i) ≡ true = sym e ∙ t in
        let here : first p (rest l n i) ≡ some (row_passage l i) = ap (first p) (rest_more l n i h) ∙ rw f in
        sym here ∙ q

    -- .. or not
    pub ahead_on : (x : Bool) → i < n → x ≡ p (row_passage l i) → x ≡ false → Ahead p l n i → Ahead p l n (i + 1)
    ahead_on x h e t q =
        let f : p (row_passage l i) ≡ false = sym e ∙ t in
        let on : first p (rest l n i) ≡ first p (rest l n (i + 1)) = ap (first p) (rest_more l n i h) ∙ rw f in
        sym on ∙ q

    pub ahead_none : n ≤ i → Ahead p l n i → none ≡ first p (rows_of l n)
    ahead_none h q = sym (ap (first p) (rest_none l n i h)) ∙ q
