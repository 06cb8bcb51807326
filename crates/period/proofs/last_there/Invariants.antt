-- `period::last_there` meets its contract. Assumes nothing.
use Prim.Native.Nat.{ℕ, ◌≤◌, ◌<◌}
use Rattle.period.specs.Searching.{There}
use Rattle.period.proofs.last_there.Given as goal

abbrev pub invariant-loop-row : goal.invariant-loop-row
invariant-loop-row l = (l.row ≤ l.last) × ((j : ℕ) → l.row ≤ j → j < l.last → There l.rows l.count l.components l.last j → ⊥)
