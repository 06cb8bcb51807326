-- What the rows say after the schedule was made.
use Rattle.std.specs.Prelude.{◌≡◌, List, map, ℕ, length}
use Rattle.model.specs.Lists.{Answer, accepted, refused}
use Rattle.model.specs.Places.{read_of}
use Rattle.model.specs.Schedule.{Passage, schedule, light}
use Rattle.model.specs.Checks.{limit, accepted_schedule}
use Rattle.model.specs.Calls.{verdict_of}
use Rattle.rows.specs.Rows.{rows_of, RowsPlaced}
use Rattle.schedule.specs.declared.Scheduled.{Scheduled}

-- the verdict of an answer, and on success the rows are its passages; after a refusal there are none
pub record Filled (bs : List ℕ) (a : Answer (List Passage)) (r : Scheduled) (after : List ℕ) : Type 0 where
  pub verdict : r.verdict ≡ verdict_of a
  pub count : (S : List Passage) → a ≡ accepted S → r.count ≡ length S
  pub rows : (S : List Passage) → a ≡ accepted S → rows_of after (length S) ≡ map light S
  pub placed : (S : List Passage) → a ≡ accepted S → RowsPlaced bs after (length S)
  pub none : (k c : ℕ) → a ≡ refused k c → r.count ≡ 0

-- the schedule, and the schedule with checks 10 to 12 at a spread
abbrev pub schedule_of : List ℕ → Answer (List Passage)
schedule_of bs = schedule limit (read_of bs).table (read_of bs).horizon

abbrev pub accepted_schedule_in : ℕ → List ℕ → Answer (List Passage)
accepted_schedule_in G bs = accepted_schedule limit G (read_of bs).table (read_of bs).horizon

-- n rows are the passages of the table's schedule, and checks 10 to 12 accept it at the spread 0
pub record AcceptedRows (bs l : List ℕ) (n : ℕ) : Type 0 where
  pub passages : List Passage
  pub accepted_schedule : accepted_schedule_in 0 bs ≡ accepted passages
  pub count : n ≡ length passages
  pub listed : rows_of l n ≡ map light passages
  pub placed : RowsPlaced bs l n
