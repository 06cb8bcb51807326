-- `rows::put_messages` meets its contract. Assumes nothing.
use Prim.Native.Nat.{◌≤◌}
use Rattle.rows.proofs.Relabelled.{PutBelow}
use Rattle.rows.proofs.put_messages.Given as goal

abbrev pub invariant-loop-i : goal.invariant-loop-i
invariant-loop-i l = (l.i ≤ l.count) × PutBelow l.table l.horizon l.count l.initial.rows l.rows l.i
