-- `period::last_like` meets its contract. Assumes nothing.
use Prim.Native.Nat.{◌-◌, ◌≤◌}
use Rattle.period.specs.Walking.{On, Joins}
use Rattle.period.specs.Searching.{LastBefore, Like}
use Rattle.period.proofs.last_like.Given as goal

abbrev pub invariant-loop-here : goal.invariant-loop-here
invariant-loop-here l =
    On l.table l.count l.here × (l.here.row ≤ l.last.row) × Joins l.rows l.count l.components l.here.row × LastBefore (Like l.table l.rows l.count l.components l.last.row) l.here.row l.like

abbrev pub decreases-loop-here : goal.decreases-loop-here
decreases-loop-here l = l.last.row - l.here.row
