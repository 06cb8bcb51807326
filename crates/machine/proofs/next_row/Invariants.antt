-- `machine::next_row` meets its contract. Assumes nothing.
use mathlib.Core.Path.{◌≡◌}
use Prim.Native.Nat.{◌≤◌}
use lib.ListN.{drop}
use Rattle.model.specs.Schedule.{own}
use Rattle.rows.specs.Rows.{rows_of}
use Rattle.machine.proofs.next_row.Given as goal

abbrev pub invariant-loop-i : goal.invariant-loop-i
invariant-loop-i l = (l.i ≤ l.passages) × (own l.c (drop l.i (rows_of l.rows l.passages)) ≡ own l.c (drop l.from (rows_of l.rows l.passages)))
