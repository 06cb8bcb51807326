-- `period::first_like` meets its contract. Assumes nothing.
use Prim.Native.Nat.{◌+◌, ◌-◌, ◌≤◌, ◌<◌}
use Rattle.period.specs.Walking.{On, Joins}
use Rattle.period.proofs.Searches.{Tried}
use Rattle.period.proofs.first_like.Given as goal

abbrev pub invariant-loop-late : goal.invariant-loop-late
invariant-loop-late l =
    On l.table l.count l.early × On l.table l.count l.late × Joins l.rows l.count l.components l.early.row × (l.late.row < l.count → Joins l.rows l.count l.components l.late.row)
    × (l.early.row ≤ l.late.row) × Tried l.table l.rows l.count l.components l.distance l.early.row l.late.row

abbrev pub decreases-loop-late : goal.decreases-loop-late
decreases-loop-late l = (l.count - l.early.row) + (l.count - l.late.row)
