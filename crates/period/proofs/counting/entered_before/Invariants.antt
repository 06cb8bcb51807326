-- `period::counting::entered_before` meets its contract. Assumes nothing.
use Prim.Native.Nat.{ℕ, ◌≤◌, ◌<◌}
use Rattle.rows.specs.Rows.{num}
use Rattle.period.proofs.counting.entered_before.Given as goal

abbrev pub invariant-loop-i : goal.invariant-loop-i
invariant-loop-i l = (l.i ≤ l.count) × ((j : ℕ) → j < l.i → num l.rows j 3 < l.tick)
