-- The rows of a schedule, as the search for the largest spread takes them.
use Rattle.std.specs.Prelude.{◌≡◌, List, map, ℕ}
use Rattle.model.specs.Lists.{accepted}
use Rattle.model.specs.Schedule.{Passage, light}
use Rattle.rows.specs.Rows.{rows_of, RowsPlaced}
use Rattle.schedule.specs.Filled.{accepted_schedule_in}

-- each stands where its edge does, and they are the passages of the schedule that is accepted without a spread
pub record ScheduleRows (bs rows : List ℕ) (count : ℕ) : Type 0 where
  pub placed : RowsPlaced bs rows count
  pub passages : (S : List Passage) → accepted_schedule_in 0 bs ≡ accepted S → rows_of rows count ≡ map light S
