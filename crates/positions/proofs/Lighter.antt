-- The rows keep of the passages all that an answer needs. Assumes nothing.
use mathlib.Core.Path.{◌≡◌, refl, sym, ap, ap₂, ◌∙◌}
use mathlib.Core.Bool.{Bool, true, false, cond}
use mathlib.Core.List.{List, [], ◌∷◌, ◌++◌, map}
use Prim.Native.Nat.{ℕ, zero, suc, ◌<◌}
use lib.Dec.{leb}
use lib.ListN.{length}
use Rattle.model.specs.Lists.{each, be16}
use Rattle.model.specs.Schedule.{Passage, light}
use Rattle.model.specs.Checks.{passage_at}
use Rattle.model.specs.Reasons.{passes_at, passage_number}
use Rattle.model.specs.Positions.{Asked, window_byte, position_bytes, entered_by, passages_read}
use Rattle.rows.specs.Rows.{num, rows_of}
use Rattle.schedule.specs.Filled.{AcceptedRows}
use Rattle.schedule.proofs.Accepted.{row_is}

-- ## Passages without clocks and variables at entry

number_light : (c t : ℕ) (S : List Passage) → passage_number (map light S) c t ≡ passage_number S c t
number_light c t [] = refl
number_light c t (v ∷ S) = ap (λ n. cond (passes_at c t v) 0 (suc n)) (number_light c t S)

ready_light : (S : List Passage) (i : ℕ) → (passage_at (map light S) i).ready ≡ (passage_at S i).ready
ready_light [] i = refl
ready_light (v ∷ S) zero = refl
ready_light (v ∷ S) (suc i) = ready_light S i

bytes_light : (S : List Passage) (q : Asked) → position_bytes (map light S) q ≡ position_bytes S q
bytes_light S q =
    let n = number_light q.component q.tick S in
    rw (n, ready_light S (passage_number S q.component q.tick))

pub each_light : (S : List Passage) (qs : List Asked) → each (position_bytes (map light S)) qs ≡ each (position_bytes S) qs
unfolding each
each_light S [] = refl
each_light S (q ∷ qs) = ap₂ ◌++◌ (bytes_light S q) (each_light S qs)

entered_light : (t : ℕ) (S : List Passage) → length (entered_by t (map light S)) ≡ length (entered_by t S)
entered_light t [] = refl
entered_light t (v ∷ S) = go (leb v.entry.tick t) (entered_light t S)
  where
    go : (b : Bool) → length (entered_by t (map light S)) ≡ length (entered_by t S)
        → length (cond b (light v ∷ entered_by t (map light S)) (entered_by t (map light S))) ≡ length (cond b (v ∷ entered_by t S) (entered_by t S))
    go true e = ap suc e
    go false e = e

pub read_light : (S : List Passage) (qs : List Asked) → passages_read (map light S) qs ≡ passages_read S qs
read_light S [] = refl
read_light S (q ∷ []) = entered_light q.tick S
read_light S (q ∷ r ∷ qs) = read_light S (r ∷ qs)

-- ## Rows

module _ (bs l : List ℕ) (n : ℕ) (p : AcceptedRows bs l n) where
  pub row_component : (i : ℕ) → i < n → num l i 0 ≡ (passage_at p.passages i).component
  row_component i h = ap (λ (v : Passage). v.component) (row_is bs l n p i h)

  pub row_entry : (i : ℕ) → i < n → num l i 3 ≡ (passage_at p.passages i).entry.tick
  row_entry i h = ap (λ (v : Passage). v.entry.tick) (row_is bs l n p i h)

  pub row_ready : (i : ℕ) → i < n → num l i 4 ≡ (passage_at p.passages i).ready
  row_ready i h = ap (λ (v : Passage). v.ready) (row_is bs l n p i h)

  -- the bytes from a row
  pub bytes_are : (q : Asked) (row : ℕ) → row < n → row ≡ passage_number p.passages q.component q.tick
      → be16 row ++ (window_byte q.tick (num l row 4) ∷ []) ≡ position_bytes (rows_of l n) q
  bytes_are q row h e =
      let s : position_bytes (rows_of l n) q ≡ position_bytes p.passages q = ap (λ L. position_bytes L q) p.listed ∙ bytes_light p.passages q in
      rw (row_ready row h, e) (sym s)

  -- the passages read, of the rows
  pub entered_rows : (t : ℕ) → length (entered_by t (rows_of l n)) ≡ length (entered_by t p.passages)
  entered_rows t = ap (λ L. length (entered_by t L)) p.listed ∙ entered_light t p.passages
