-- `checks::crowded::sends_before` meets its contract. Assumes nothing.
use mathlib.Core.Path.{◌≡◌}
use Prim.Native.Nat.{◌+◌, ◌-◌, ◌≤◌}
use lib.ListN.{length}
use Rattle.model.specs.Lists.{only}
use Rattle.model.specs.Places.{read_of}
use Rattle.rows.specs.Rows.{row_passage, rows_from}
use Rattle.checks.proofs.Questions.{heard_send}
use Rattle.checks.proofs.crowded.sends_before.Given as goal

abbrev pub invariant-loop-j : goal.invariant-loop-j
invariant-loop-j l =
    (l.j ≤ l.i) × (l.sends + l.j ≤ l.i) × (l.sends ≡ length (only (heard_send l.spread (read_of l.table).table l.horizon (row_passage l.rows l.i)) (rows_from l.rows l.j (l.i - l.j))))

abbrev pub decreases-loop-j : goal.decreases-loop-j
decreases-loop-j l = l.j
