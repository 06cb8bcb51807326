-- The rows of an accepted table's schedule, walked with what is known of each component's next passage in hand.
use Rattle.std.specs.Prelude.{◌≡◌, List, [], ℕ, ◌+◌, ◌≤◌, ◌<◌, length, get_or, take}
use Rattle.model.specs.Lists.{All, Answer, accepted, refused}
use Rattle.model.specs.Table.{size}
use Rattle.model.specs.Places.{read_of, component_in}
use Rattle.model.specs.Schedule.{Passage}
use Rattle.model.specs.Checks.{accepted_schedule_of}
use Rattle.window.specs.declared.Entry.{Entry}
use Rattle.window.specs.Views.{entry_of}
use Rattle.rows.specs.Rows.{num}
use Rattle.replay.specs.Growing.{relocated}
use Rattle.schedule.specs.Going.{cut}
use Rattle.recurrence.proofs.Upcoming.{Upcoming}
use Rattle.period.specs.declared.Walker.{Walker}

-- the passages of a table's schedule, none where it is refused
abbrev pub passages_of : Answer (List Passage) → List Passage
passages_of (accepted S) = S
passages_of (refused n c) = []

abbrev pub schedule_in : List ℕ → List Passage
schedule_in bs = passages_of (accepted_schedule_of (read_of bs))

-- what an index past the end reads
abbrev pub no_entry : Entry
no_entry = record { location = 0; tick = 0; clocks = []; values = [] }

abbrev pub entry_at : Walker → ℕ → Entry
entry_at w c = get_or w.entries c no_entry

-- component c's next passage from row i on, if it has one, is entered so, but for its location
pub record Next (bs : List ℕ) (i c : ℕ) (at : Entry) : Type 0 where
  pub here : ℕ
  pub ahead : Upcoming (read_of bs).horizon c (component_in bs c) (schedule_in bs) i (cut (component_in bs c) (relocated here (entry_of at)))
  pub young : All (λ x. x ≤ at.tick) at.clocks

-- before the walker's row, it has for each component what is known of its next passage
pub record On (bs : List ℕ) (n : ℕ) (w : Walker) : Type 0 where
  pub eight : length w.entries ≡ 8
  pub among : w.row ≤ n
  pub each : (c : ℕ) → c < size (read_of bs).table → Next bs w.row c (entry_at w c)

-- from row i on stand all components, in their order, entered at one tick
abbrev pub Joins : List ℕ → ℕ → ℕ → ℕ → Type 0
Joins l n components i = (c : ℕ) → c < components → (i + c < n) × (num l (i + c) 0 ≡ c) × (num l (i + c) 3 ≡ num l i 3)

-- the first row from i on at which they do, n where there is none
pub record Stops (l : List ℕ) (n components i r : ℕ) : Type 0 where
  pub from : i ≤ r
  pub among : r ≤ n
  pub there : r < n → Joins l n components r
  pub before : (j : ℕ) → i ≤ j → j < r → Joins l n components j → ⊥

-- two entries have that many clocks and variables in common
abbrev pub SameNumbers : ℕ → ℕ → Entry → Entry → Type 0
SameNumbers m n p q = (take m p.clocks ≡ take m q.clocks) × (take n p.values ≡ take n q.values)

-- all components have their clocks and variables in common at both places
abbrev pub NumbersAgree : List ℕ → ℕ → Walker → Walker → Type 0
NumbersAgree bs components p q = (c : ℕ) → c < components → SameNumbers (component_in bs c).clocks (component_in bs c).variables (entry_at p c) (entry_at q c)

-- the locations of the rows from i and from j on are the same
abbrev pub PlacesAgree : List ℕ → ℕ → ℕ → ℕ → Type 0
PlacesAgree l components i j = (c : ℕ) → c < components → num l (i + c) 2 ≡ num l (j + c) 2
