-- `checks::crowded::is_crowded` meets its contract. Assumes nothing.
use Prim.Native.Nat.{◌≤◌}
use Rattle.model.specs.Places.{read_of}
use Rattle.rows.specs.Rows.{row_passage}
use Rattle.checks.proofs.Swept.{Counted}
use Rattle.checks.proofs.Questions.{heard_send}
use Rattle.checks.proofs.crowded.is_crowded.Given as goal

abbrev pub invariant-loop-j : goal.invariant-loop-j
invariant-loop-j l = (l.sends ≤ 1) × Counted (heard_send l.spread (read_of l.table).table l.horizon (row_passage l.rows l.i)) l.rows l.count l.j l.sends
