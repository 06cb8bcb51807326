-- A chart in the making: what each byte of the lent slice says after some passages were drawn.
use Rattle.std.specs.Prelude.{◌≡◌, cond, List, ℕ, suc, ◌+◌, ◌*◌, ◌≤◌, ◌<◌, ltb, eqb, length, get_or}
use Rattle.model.specs.Table.{Table}
use Rattle.model.specs.Schedule.{Passage, passage_arc}
use Rattle.model.specs.Chart.{cell_from, letter_of, cell_of}
use Rattle.chart.specs.declared.Window.{Window}

-- cell i where no window has a tick
abbrev pub empty_cell : ℕ → ℕ → ℕ
empty_cell H i = let dot : ℕ = 46 in cond (ltb (cell_from H i) (cell_from H (suc i))) dot 32

-- what a cell shows with one window more, of that letter
abbrev pub raised_of : ℕ → ℕ → ℕ
raised_of shown letter = cond (eqb shown 32) shown (cond (eqb shown 83) shown (cond (eqb letter 83) letter (cond (eqb shown 82) shown letter)))

-- w is what a chart shows of the passage v
pub record Tells (T : Table) (v : Passage) (w : Window) : Type 0 where
  pub component : w.component ≡ v.component
  pub letter : w.letter ≡ letter_of (passage_arc T v).edge.action
  pub ready : w.ready ≡ v.ready
  pub end : w.end ≡ v.end

-- the bytes from a place on and before another are raised, the others stay
pub record Painted (from until letter : ℕ) (before after : List ℕ) : Type 0 where
  pub same : length after ≡ length before
  pub raised : (k : ℕ) → from ≤ k → k < until → get_or after k 0 ≡ raised_of (get_or before k 0) letter
  pub front : (k : ℕ) → k < from → get_or after k 0 ≡ get_or before k 0
  pub rest : (k : ℕ) → until ≤ k → get_or after k 0 ≡ get_or before k 0

-- the first n cells of a row are without windows, the other bytes stay
pub record EmptyCells (H at n : ℕ) (before after : List ℕ) : Type 0 where
  pub same : length after ≡ length before
  pub cell : (i : ℕ) → i < n → get_or after (at + i) 0 ≡ empty_cell H i
  pub front : (k : ℕ) → k < at → get_or after k 0 ≡ get_or before k 0
  pub rest : (k : ℕ) → at + n ≤ k → get_or after k 0 ≡ get_or before k 0

-- what stands around the cells of component c
abbrev pub Frame : ℕ → List ℕ → Type 0
Frame c l = (get_or l (c * 69) 0 ≡ 67)
    × (get_or l (c * 69 + 1) 0 ≡ 48 + c)
    × (get_or l (c * 69 + 2) 0 ≡ 58)
    × (get_or l (c * 69 + 3) 0 ≡ 32)
    × (get_or l (c * 69 + 68) 0 ≡ 10)

-- component c's row is without windows, the other bytes stay
pub record EmptyRow (H c : ℕ) (before after : List ℕ) : Type 0 where
  pub same : length after ≡ length before
  pub frame : Frame c after
  pub cell : (i : ℕ) → i < 64 → get_or after (c * 69 + 4 + i) 0 ≡ empty_cell H i
  pub front : (k : ℕ) → k < c * 69 → get_or after k 0 ≡ get_or before k 0
  pub rest : (k : ℕ) → c * 69 + 69 ≤ k → get_or after k 0 ≡ get_or before k 0

-- the rows of n components show the passages S, the bytes past them stay
pub record Drawn (T : Table) (H : ℕ) (S : List Passage) (n : ℕ) (before after : List ℕ) : Type 0 where
  pub same : length after ≡ length before
  pub frame : (c : ℕ) → c < n → Frame c after
  pub cell : (c i : ℕ) → c < n → i < 64 → get_or after (c * 69 + 4 + i) 0 ≡ cell_of T S c (cell_from H i) (cell_from H (suc i))
  pub rest : (k : ℕ) → n * 69 ≤ k → get_or after k 0 ≡ get_or before k 0
