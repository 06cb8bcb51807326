-- `meetings::count_met` meets its contract. Assumes nothing.
use Prim.Native.Nat.{◌≤◌}
use Rattle.model.specs.Places.{read_of}
use Rattle.rows.specs.Rows.{row_passage}
use Rattle.checks.proofs.Swept.{Counted}
use Rattle.meetings.specs.Asked.{met_by}
use Rattle.meetings.proofs.count_met.Given as goal

abbrev pub invariant-loop-j : goal.invariant-loop-j
invariant-loop-j l = (l.met ≤ l.j) × Counted (met_by l.spread l.question (read_of l.table).table l.horizon (row_passage l.rows l.i)) l.rows l.count l.j l.met
