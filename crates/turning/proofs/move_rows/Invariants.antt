-- `turning::move_rows` meets its contract. Assumes nothing.
use Prim.Native.Nat.{◌≤◌}
use Rattle.turning.proofs.Moved.{MovedTo}
use Rattle.turning.proofs.move_rows.Given as goal

abbrev pub invariant-loop-i : goal.invariant-loop-i
invariant-loop-i l = (l.i ≤ l.passages) × MovedTo l.period l.initial.rows l.rows l.i
