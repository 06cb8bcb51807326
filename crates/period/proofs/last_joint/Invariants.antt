-- `period::last_joint` meets its contract. Assumes nothing.
use Prim.Native.Nat.{ℕ, ◌≤◌, ◌<◌}
use Rattle.period.specs.Walking.{Joins}
use Rattle.period.proofs.last_joint.Given as goal

abbrev pub invariant-loop-row : goal.invariant-loop-row
invariant-loop-row l = (1 ≤ l.row) × (l.row ≤ l.count) × ((j : ℕ) → l.row ≤ j → j < l.count → Joins l.rows l.count l.components j → ⊥)
