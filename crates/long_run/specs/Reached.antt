-- What is known of a table and a horizon that 29 does not refuse, and what its run leaves.
use Rattle.std.specs.Prelude.{◌≡◌, true, List, ℕ, ◌*◌, ◌≤◌, ◌<◌, length, Option}
use Rattle.std.specs.Option.{is_some}
use Rattle.model.specs.Lists.{accepted}
use Rattle.model.specs.Places.{read_of}
use Rattle.model.specs.Schedule.{Passage}
use Rattle.model.specs.Run.{setting_to, observation_width}
use Rattle.schedule.specs.Filled.{AcceptedRows}
use Rattle.recurrence.specs.declared.Pair.{Pair}
use Rattle.recurrence.specs.Recurrence.{recurrence, accepted_schedule_to}
use Rattle.period.specs.Walking.{schedule_in}
use Rattle.period.specs.Searching.{PairIs}
use Rattle.run.specs.declared.Ended.{Ended}
use Rattle.run.specs.Ends.{EndsAs}

-- the pair of a table, or none
abbrev pub PairOf : List ℕ → Option Pair → Type 0
PairOf table pair = PairIs (recurrence (read_of table).table (read_of table).horizon (schedule_in table)) pair

-- the rows are the table's schedule; where the horizon lies beyond the table's own there is a pair, and it is this one
pub record Reached (table l : List ℕ) (n : ℕ) (p : Option Pair) (X : ℕ) : Type 0 where
  pub rows : AcceptedRows table l n
  pub least : 1 ≤ X
  pub pair : (read_of table).horizon < X → PairOf table p
  pub found : (read_of table).horizon < X → is_some p ≡ true

-- 36 bytes for each passage of the schedule to the horizon
abbrev pub RoomTo : List ℕ → ℕ → ℕ → Type 0
RoomTo table horizon room = (L : List Passage) → accepted_schedule_to (read_of table).table horizon ≡ accepted L → length L * observation_width ≤ room

-- a run ends as that of the schedule to the horizon
abbrev pub EndsTo : List ℕ → ℕ → List ℕ → List ℕ → Ended → List ℕ → Type 0
EndsTo table horizon choices out e out' =
    (L : List Passage) → accepted_schedule_to (read_of table).table horizon ≡ accepted L → EndsAs (setting_to (read_of table) horizon L) choices out e out'
