-- The checks that are left after one of them.
use Rattle.std.specs.Prelude.{List, ℕ, ◌+◌, ◌*◌, ◌≤◌, ◌<◌, length}
use Rattle.model.specs.Lists.{first, Answer, accepted}
use Rattle.model.specs.Table.{Table}
use Rattle.model.specs.Schedule.{Passage}
use Rattle.model.specs.Checks.{unheard_number, unheard, crowded, fault_of, fault_by}
use Rattle.rows.specs.Rows.{num}

-- row i is one of the list, and its component's number is below the most that there are
pub record RowStands (l : List ℕ) (i : ℕ) : Type 0 where
  pub fits : i * 9 + 9 ≤ length l
  pub small : num l i 0 < 8

-- `checked` from question 12 on, and from question 11 on
abbrev pub from12 : ℕ → Table → ℕ → List Passage → Answer (List Passage)
from12 G T H S = fault_of 12 (first (crowded G T H S) S) (accepted S)

abbrev pub from11 : ℕ → Table → ℕ → List Passage → Answer (List Passage)
from11 G T H S = fault_by (unheard_number G T S) (first (unheard G T H S) S) (from12 G T H S)
