-- `period::to_joint` meets its contract. Assumes nothing.
use Prim.Native.Nat.{ℕ, ◌≤◌, ◌<◌}
use Rattle.period.specs.Walking.{Joins}
use Rattle.period.proofs.to_joint.Given as goal

abbrev pub invariant-loop-row : goal.invariant-loop-row
invariant-loop-row l = (l.from ≤ l.row) × (l.row ≤ l.count) × ((j : ℕ) → l.from ≤ j → j < l.row → Joins l.rows l.count l.components j → ⊥)
