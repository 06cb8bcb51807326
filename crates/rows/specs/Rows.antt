-- The passages as rows of numbers in a lent slice: what a row says, and what is known of the rows of a schedule.
use Rattle.std.specs.Prelude.{◌≡◌, Bool, cond, ◌&&◌, List, [], ◌∷◌, ℕ, zero, suc, ◌+◌, ◌*◌, ◌≤◌, ◌<◌, eqb, ltb, length, get_or}
use Rattle.std.proofs.Math.Option.{Option, none, some}
use Rattle.std.specs.declared.option.Option.{Option as Found}
use Rattle.std.specs.declared.option.Option.TheVariants.{Some, None}
use Rattle.model.specs.declared.Action.TheVariants.{Send}
use Rattle.model.specs.Table.{size}
use Rattle.model.specs.Places.{arc_length, arc_at, arc_place, start_of, Valid, read_of, component_in}
use Rattle.model.specs.Schedule.{Passage, others, ends_sooner, message_in}

-- number k of row i. A row has nine: component, edge, location, entry, ready, end, message (255: none), the place of the edge in the
-- table's bytes, and its link: a row from which on, up to this one, no row ends later than this one.
abbrev pub num : List ℕ → ℕ → ℕ → ℕ
num l i k = get_or l (i * 9 + k) 0

-- 255 is no message
abbrev pub message_of : ℕ → Option ℕ
message_of m = cond (eqb m 255) none (some m)

-- the passage of row i; clocks and variables at entry are not kept there
abbrev pub row_passage : List ℕ → ℕ → Passage
row_passage l i =
    record {
      component = num l i 0;
      edge = num l i 1;
      entry = record { location = num l i 2; tick = num l i 3; clocks = []; values = [] };
      ready = num l i 4;
      end = num l i 5;
      message = message_of (num l i 6);
    }

-- n rows from row i on
unfoldable pub rows_from : List ℕ → ℕ → ℕ → List Passage
rows_from l i zero = []
rows_from l i (suc n) = row_passage l i ∷ rows_from l (suc i) n

abbrev pub rows_of : List ℕ → ℕ → List Passage
rows_of l n = rows_from l 0 n

-- row i speaks of an edge of the table, and knows its place
pub record RowPlaced (bs l : List ℕ) (i : ℕ) : Type 0 where
  pub present : num l i 0 < size (read_of bs).table
  pub there : num l i 1 < length (component_in bs (num l i 0)).arcs
  pub place : num l i 7 ≡ arc_place bs (start_of bs (num l i 0)) (num l i 1)
  pub early : num l i 3 ≤ num l i 4
  pub window : num l i 4 < num l i 5
  pub small : num l i 5 ≤ 200000

-- the links of n rows: who walks backward and meets a row that ended too early may go on at its link
pub record Linked (l : List ℕ) (n : ℕ) : Type 0 where
  pub few : n ≤ 1024
  pub fits : n * 9 ≤ length l
  pub back : (j : ℕ) → j < n → num l j 8 ≤ j
  pub skips : (j i : ℕ) → j < n → num l j 8 ≤ i → i < j → num l i 5 ≤ num l j 5

-- n rows of a schedule, in the order of opening
pub record RowsPlaced (bs l : List ℕ) (n : ℕ) : Type 0 where
  pub valid : Valid bs
  pub few : n ≤ 1024
  pub fits : n * 9 ≤ length l
  pub row : (i : ℕ) → i < n → RowPlaced bs l i
  pub order : (i j : ℕ) → i ≤ j → j < n → num l i 3 ≤ num l j 3
  pub back : (j : ℕ) → j < n → num l j 8 ≤ j
  pub skips : (j i : ℕ) → j < n → num l j 8 ≤ i → i < j → num l i 5 ≤ num l j 5

-- row i has the message that is found among n rows
abbrev pub Told : List ℕ → ℕ → List ℕ → ℕ → ℕ → Type 0
Told bs H l n i = message_of (num l i 6) ≡ message_in (read_of bs).table H (rows_of l n) (row_passage l i)

-- after: each of n rows has the message that is found among the rows before, all else stays
pub record MessagesPut (bs : List ℕ) (H n : ℕ) (before after : List ℕ) : Type 0 where
  pub same : length after ≡ length before
  pub message : (i : ℕ) → i < n → message_of (num after i 6) ≡ message_in (read_of bs).table H (rows_of before n) (row_passage before i)
  pub rest : (i k : ℕ) → i < n → k < 9 → (k ≡ 6 → ⊥) → num after i k ≡ num before i k
  pub past : (j : ℕ) → n * 9 ≤ j → get_or after j 0 ≡ get_or before j 0

-- ## Seeking a message

-- an edge stands at the front, whole; a send's channel is not the number that stands for none
pub record EdgeStands (b : Bool) (h : List ℕ) : Type 0 where
  pub head : 7 ≤ length h
  pub whole : arc_length b h ≤ length h
  pub channel : (k : ℕ) → Send k ≡ (arc_at b h).edge.action → k < 255

-- what is known of one row of a valid table's passages
pub record RowKnown (bs l : List ℕ) (i : ℕ) : Type 0 where
  pub valid : Valid bs
  pub row : RowPlaced bs l i
  pub fits : i * 9 + 9 ≤ length l

-- what `heard_by` asks of the numbers: "of another component .. starting after its ready and before H, and ending before its end"
abbrev pub in_time : ℕ → Passage → Passage → Bool
in_time H v s = others v s && (ltb v.ready s.ready && ltb s.ready H && ltb s.end v.end)

-- what a function found, as the model has it
abbrev pub option_of : Found ℕ → Option ℕ
option_of None = none
option_of (Some k) = some k

-- a row that was found, as the passage that it is
abbrev pub found_passage : List ℕ → Found ℕ → Option Passage
found_passage l None = none
found_passage l (Some i) = some (row_passage l i)

-- of an earlier passage and a later one, that which ends sooner: "on a tie" the first stays
abbrev pub sooner_of : Option Passage → Option Passage → Option Passage
sooner_of none b = b
sooner_of (some v) none = some v
sooner_of (some v) (some w) = cond (ends_sooner w v) (some w) (some v)
