-- The schedule as a chart: wish 1 of document 02, one row of 69 bytes for each component.
use Rattle.std.specs.Prelude.{◌≡◌, Bool, cond, ◌&&◌, List, [], ◌∷◌, ◌++◌, map, ℕ, suc, ◌+◌, ◌*◌, ◌/◌, ◌≤◌, ◌<◌, leb, ltb, eqb}
use Rattle.model.specs.declared.Action.{Action}
use Rattle.model.specs.declared.Action.TheVariants.{Internal, Send, Receive}
use Rattle.model.specs.Lists.{any, below, each, ◌∈◌, Answer, accepted, ◌after◌}
use Rattle.model.specs.Table.{Table, Read, size}
use Rattle.model.specs.Reader.{read_table}
use Rattle.model.specs.Schedule.{Passage, passage_arc}
use Rattle.model.specs.Checks.{accepted_schedule, accepted_schedule_of, InWindow}
use Rattle.model.specs.Calls.{Call, bytes_with}

-- ## A cell

-- "Cell i covers the ticks from floor(i × H / 64) up to, but not including, floor((i + 1) × H / 64)."
abbrev pub cell_from : ℕ → ℕ → ℕ
cell_from H i = i * H / 64

-- the window, ready to end, both included, has a tick from a on and before b
abbrev pub tick_in : ℕ → ℕ → Passage → Bool
tick_in a b v = ltb v.ready b && leb a v.end

-- the letter of a window: "`S` if a send .., else `R` for receive, else `W` for internal"
abbrev pub letter_of : Action → ℕ
letter_of (Send k) = 83
letter_of Receive = 82
letter_of Internal = 87

-- the passage is one of component c, and its window has that letter and a tick from a on and before b
abbrev pub shows : Table → ℕ → ℕ → ℕ → ℕ → Passage → Bool
shows T c letter a b v = eqb v.component c && eqb (letter_of (passage_arc T v).edge.action) letter && tick_in a b v

-- "It shows `S` if a send window has a tick there, else `R` for receive, else `W` for internal, else a dot. A cell without ticks is a
-- space.": of a cell with ticks or without, and with a send, a receive, an internal window there or not
abbrev pub shown_for : Bool → Bool → Bool → Bool → ℕ
shown_for ticks send receive internal =
    let else-internal : ℕ = cond internal 87 46 in
    let else-receive : ℕ = cond receive 82 else-internal in
    let else-send : ℕ = cond send 83 else-receive in
    cond ticks else-send 32

-- what the cell of component c shows that covers the ticks from a on and before b
abbrev pub cell_of : Table → List Passage → ℕ → ℕ → ℕ → ℕ
cell_of T S c a b = shown_for (ltb a b) (any (shows T c 83 a b) S) (any (shows T c 82 a b) S) (any (shows T c 87 a b) S)

-- ## The rows

-- "64 cells"
abbrev pub cells : Table → ℕ → List Passage → ℕ → List ℕ
cells T H S c = map (λ i. cell_of T S c (cell_from H i) (cell_from H (suc i))) (below 64)

-- "Each component gets one row of 69 bytes: `C`, its digit, a colon, a space, 64 cells and a line feed."
abbrev pub row_of : Table → ℕ → List Passage → ℕ → List ℕ
row_of T H S c = (67 ∷ (48 + c) ∷ 58 ∷ 32 ∷ []) ++ (cells T H S c ++ (10 ∷ []))

-- the rows of the components, 0 upward, of a schedule S up to horizon H
unfoldable pub chart : Table → ℕ → List Passage → List ℕ
unfolding each
chart T H S = each (row_of T H S) (below (size T))

-- ## The call

-- the chart of an accepted table
abbrev pub chart_in : List ℕ → Answer (List ℕ)
chart_in table = read_table table after λ t. accepted_schedule_of t after λ S. accepted (chart t.table t.horizon S)

-- The call `timing_chart`: the chart's bytes. Its size is their number. 1 to 12, then 13: "A short buffer is 13 as before."
unfoldable pub chart_call : List ℕ → List ℕ → Call
unfolding read_table accepted_schedule chart
chart_call table lent = bytes_with lent (chart_in table)

-- ## What a cell means (the laws are in proofs/Schedule/Charted.antt)

-- tick t is one of cell i's
pub record Covers (H i t : ℕ) : Type 0 where
  pub from : cell_from H i ≤ t
  pub to : t < cell_from H (suc i)

-- a window of component c with that letter has a tick that cell i covers
pub record Shown (T : Table) (H : ℕ) (S : List Passage) (c i letter : ℕ) : Type 0 where
  pub passage : Passage
  pub tick : ℕ
  pub listed : passage ∈ S
  pub component : passage.component ≡ c
  pub kind : letter_of (passage_arc T passage).edge.action ≡ letter
  pub covered : Covers H i tick
  pub in_window : InWindow tick passage
