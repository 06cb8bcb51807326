-- Bytes that show a chart are its definition laid over the front of what was lent. Assumes nothing.
use mathlib.Core.Path.{◌≡◌, refl, sym, ap, subst, ◌∙◌}
use mathlib.Core.Bool.{Bool, true, false}
use mathlib.Core.List.{List, [], ◌∷◌, ◌++◌, map}
use Prim.Native.Nat.{ℕ, zero, suc, ◌+◌, ◌-◌, ◌*◌, ◌/◌, ◌%◌, ◌≤◌, ◌<◌}
use native.Mathlib.Omega.{arith}
use borrow.Author.Tests.{ltb-true, ltb-false}
use lib.Dec.{ltb}
use lib.ListN.{length, get_or, drop, length-append, length-drop, length-map, get_or-append}
use lib.Seq.{get_or-append-add, get_or-drop, ext_get_or}
use Rattle.model.specs.Lists.{from, below, each}
use Rattle.model.specs.Table.{Table, size}
use Rattle.model.specs.Schedule.{Passage}
use Rattle.model.specs.Chart.{cell_from, cell_of, cells, row_of, chart}
use Rattle.model.proofs.Schedule.Charted.{row_length, chart_length}
use Rattle.chart.specs.Drawn.{Frame, Drawn}

-- ## A list of numbers, and parts of one length

from_at : (i n k : ℕ) → k < n → get_or (from i n) k 0 ≡ i + k
from_at i zero k h = absurd (omega arith)
from_at i (suc n) zero h = omega arith
from_at i (suc n) (suc k) h = from_at (suc i) n k (omega arith) ∙ omega arith

from_long : (i n : ℕ) → length (from i n) ≡ n
from_long i zero = refl
from_long i (suc n) = ap suc (from_long (suc i) n)

-- byte j of part k
part_at : (f : ℕ → List ℕ) (w i n k j : ℕ) → ((c : ℕ) → length (f c) ≡ w) → k < n → j < w → get_or (each f (from i n)) (k * w + j) 0 ≡ get_or (f (i + k)) j 0
unfolding each
part_at f w i zero k j long h g = absurd (omega arith)
part_at f w i (suc n) zero j long h g =
    let e : 0 * w + j ≡ j = omega arith in
    let z : i + 0 ≡ i = omega arith in
    rw (e, z) (get_or-append (f i) (each f (from (suc i) n)) 0 j (omega (arith, long i)))
part_at f w i (suc n) (suc k) j long h g =
    let e : suc k * w + j ≡ length (f i) + (k * w + j) = omega (arith, long i) in
    let z : suc i + k ≡ i + suc k = omega arith in
    rw e (get_or-append-add (f i) (each f (from (suc i) n)) (k * w + j) 0) ∙ part_at f w (suc i) n k j long (omega arith) g ∙ ap (λ m. get_or (f m) j 0) z

-- ## A row

module _ (T : Table) (H : ℕ) (S : List Passage) (c : ℕ) where
  abbrev cell : ℕ → ℕ
  cell i = cell_of T S c (cell_from H i) (cell_from H (suc i))

  cells_long : length (cells T H S c) ≡ 64
  cells_long = length-map (below 64) cell ∙ from_long 0 64

  cell_at : (i : ℕ) → i < 64 → get_or (cells T H S c ++ (10 ∷ [])) i 0 ≡ cell i
  cell_at i h =
      let e : i < length (cells T H S c) = omega (arith, cells_long) in
      get_or-append (cells T H S c) (10 ∷ []) 0 i e ∙ inner i (below 64) h (from_long 0 64) ∙ ap cell (from_at 0 64 i h ∙ omega arith)
    where
      inner : (i : ℕ) (l : List ℕ) → i < 64 → length l ≡ 64 → get_or (map cell l) i 0 ≡ cell (get_or l i 0)
      inner i l g e = go i l (omega arith)
        where
          go : (i : ℕ) (l : List ℕ) → i < length l → get_or (map cell l) i 0 ≡ cell (get_or l i 0)
          go i [] k = absurd (omega arith)
          go zero (x ∷ xs) k = refl
          go (suc i) (x ∷ xs) k = go i xs (omega arith)

  end_at : get_or (cells T H S c ++ (10 ∷ [])) 64 0 ≡ 10
  end_at =
      let e : length (cells T H S c) + 0 ≡ 64 = omega (arith, cells_long) in
      subst (λ m. get_or (cells T H S c ++ (10 ∷ [])) m 0 ≡ 10) e (get_or-append-add (cells T H S c) (10 ∷ []) 0 0)

  -- bytes that have the frame and the cells are the row's
  pub row_at : (l : List ℕ) → Frame c l → ((i : ℕ) → i < 64 → get_or l (c * 69 + 4 + i) 0 ≡ cell i) → (j : ℕ) → j < 69 → get_or l (c * 69 + j) 0 ≡ get_or (row_of T H S c) j 0
  row_at l f g zero h = let e : c * 69 + 0 ≡ c * 69 = omega arith in rw e f.0
  row_at l f g (suc zero) h = f.1
  row_at l f g (suc (suc zero)) h = f.2
  row_at l f g (suc (suc (suc zero))) h = f.3
  row_at l f g (suc (suc (suc (suc i)))) h = go (ltb i 64) refl
    where
      e : c * 69 + suc (suc (suc (suc i))) ≡ c * 69 + 4 + i
      e = omega arith

      go : (x : Bool) → ltb i 64 ≡ x → get_or l (c * 69 + suc (suc (suc (suc i)))) 0 ≡ get_or (cells T H S c ++ (10 ∷ [])) i 0
      go true k = let less = ltb-true i 64 k in rw e (g i less ∙ sym (cell_at i less))
      go false k =
          let z : i ≡ 64 = omega (arith, ltb-false i 64 k) in
          rw z (f.4 ∙ sym end_at)

-- ## All rows

pub all_drawn : (T : Table) (H : ℕ) (S : List Passage) (n : ℕ) (old l : List ℕ) → n ≡ size T → n * 69 ≤ length old → Drawn T H S n old l → l ≡ chart T H S ++ drop (n * 69) old
unfolding chart
all_drawn T H S n old l e room p = ext_get_or 0 l (chart T H S ++ drop (n * 69) old) long at
  where
    whole : length (chart T H S) ≡ n * 69
    whole = chart_length T H S ∙ ap (λ m. m * 69) (sym e)

    long : length l ≡ length (chart T H S ++ drop (n * 69) old)
    long = p.same ∙ sym (length-append (chart T H S) (drop (n * 69) old) ∙ omega (arith, whole, length-drop (n * 69) old))

    in_chart : (k : ℕ) → k < n * 69 → get_or l k 0 ≡ get_or (chart T H S) k 0
    in_chart k h =
        let split : k ≡ k / 69 * 69 + k % 69 = omega arith in
        let less : k / 69 < n = omega arith in
        ap (λ m. get_or l m 0) split
        ∙ row_at T H S (k / 69) l (p.frame (k / 69) less) (λ i g. p.cell (k / 69) i less g) (k % 69) (omega arith)
        ∙ sym (part_at (row_of T H S) 69 0 (size T) (k / 69) (k % 69) (row_length T H S) (omega (arith, e, less)) (omega arith) ∙ ap (λ m. get_or (row_of T H S m) (k % 69) 0) (omega arith))
        ∙ ap (λ m. get_or (each (row_of T H S) (below (size T))) m 0) (sym split)

    at : (k : ℕ) → k < length l → get_or l k 0 ≡ get_or (chart T H S ++ drop (n * 69) old) k 0
    at k h = go (ltb k (n * 69)) refl
      where
        go : (x : Bool) → ltb k (n * 69) ≡ x → get_or l k 0 ≡ get_or (chart T H S ++ drop (n * 69) old) k 0
        go true f =
            let less = ltb-true k (n * 69) f in
            in_chart k less ∙ sym (get_or-append (chart T H S) (drop (n * 69) old) 0 k (omega (arith, whole, less)))
        go false f =
            let more = ltb-false k (n * 69) f in
            let z : length (chart T H S) + (k - n * 69) ≡ k = omega (arith, whole, more) in
            let y : n * 69 + (k - n * 69) ≡ k = omega (arith, more) in
            p.rest k more
            ∙ sym (subst (λ m. get_or (chart T H S ++ drop (n * 69) old) m 0 ≡ get_or old k 0) z (get_or-append-add (chart T H S) (drop (n * 69) old) (k - n * 69) 0 ∙ get_or-drop (n * 69) old (k - n * 69) 0 ∙ ap (λ m. get_or old m 0) y))
