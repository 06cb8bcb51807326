-- A round of a pair: from a tick at which all components enter to one, a period or more later, at which they enter alike; that much later again lies at the
-- horizon or beyond it.
use Rattle.std.specs.Prelude.{◌≡◌, List, ℕ, ◌+◌, ◌≤◌, ◌<◌}
use Rattle.model.specs.Places.{read_of}
use Rattle.recurrence.specs.Recurrence.{Recurs}
use Rattle.recurrence.proofs.Count.{entered_before}
use Rattle.period.specs.declared.counting.Round.{Round}
use Rattle.period.specs.Walking.{schedule_in}

pub record RoundOf (table : List ℕ) (r : Round) : Type 0 where
  pub from : ℕ
  pub longer : 0 < r.period
  pub until : r.until ≡ from + r.period
  pub recurs : Recurs (read_of table).table (read_of table).horizon (schedule_in table) from (from + r.period)
  pub final : (read_of table).horizon ≤ from + r.period + r.period
  pub first : r.first ≡ entered_before (schedule_in table) from
  pub second : r.second ≡ entered_before (schedule_in table) (from + r.period)
