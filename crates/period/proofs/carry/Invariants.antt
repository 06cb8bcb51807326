-- `period::carry` meets its contract. Assumes nothing.
use mathlib.Core.List.{List}
use Prim.Native.Nat.{ℕ, ◌≤◌}
use Rattle.window.specs.declared.Entry.{Entry}
use Rattle.period.specs.declared.Walker.{Walker}
use Rattle.period.specs.Walking.{On}
use Rattle.period.proofs.carry.Given as goal

-- what the loop has in hand
abbrev pub walker : ℕ → List Entry → Walker
walker row entries = record { row = row; entries = entries }

abbrev pub invariant-loop-row : goal.invariant-loop-row
invariant-loop-row l = On l.table l.count (walker l.row l.entries) × (l.row ≤ l.until)
