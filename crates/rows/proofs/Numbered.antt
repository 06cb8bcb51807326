-- The rows as a list: passage number k is that of row k. Assumes nothing.
use mathlib.Core.Path.{◌≡◌, refl, sym, ap, ◌∙◌}
use mathlib.Core.List.{List}
use Prim.Native.Nat.{ℕ, zero, suc, ◌+◌, ◌<◌}
use native.Mathlib.Nat.{add-zero}
use native.Mathlib.Omega.{arith}
use lib.ListN.{length}
use Rattle.model.specs.Checks.{passage_at}
use Rattle.rows.specs.Rows.{row_passage, rows_from, rows_of}

from_length : (rows : List ℕ) (i n : ℕ) → length (rows_from rows i n) ≡ n
unfolding rows_from
from_length rows i zero = refl
from_length rows i (suc n) = ap suc (from_length rows (suc i) n)

from_at : (rows : List ℕ) (i n k : ℕ) → k < n → passage_at (rows_from rows i n) k ≡ row_passage rows (i + k)
unfolding rows_from
from_at rows i zero k h = absurd (omega arith)
from_at rows i (suc n) zero h = ap (row_passage rows) (sym (add-zero i))
from_at rows i (suc n) (suc k) h =
    let e : suc i + k ≡ i + suc k = omega arith in
    from_at rows (suc i) n k (omega arith) ∙ ap (row_passage rows) e

-- n rows are n passages
pub rows_length : (rows : List ℕ) (n : ℕ) → length (rows_of rows n) ≡ n
rows_length rows n = from_length rows 0 n

-- passage number k is that of row k
pub row_at : (rows : List ℕ) (n k : ℕ) → k < n → passage_at (rows_of rows n) k ≡ row_passage rows k
row_at rows n k h = let e : 0 + k ≡ k = omega arith in from_at rows 0 n k h ∙ ap (row_passage rows) e
