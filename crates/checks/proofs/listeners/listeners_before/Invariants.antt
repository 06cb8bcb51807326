-- `checks::listeners::listeners_before` meets its contract. Assumes nothing.
use Prim.Native.Nat.{◌≤◌}
use Rattle.model.specs.Places.{read_of}
use Rattle.rows.specs.Rows.{row_passage}
use Rattle.checks.proofs.Questions.{hearing}
use Rattle.checks.proofs.Listening.{ListenedBack}
use Rattle.checks.proofs.listeners.listeners_before.Given as goal

abbrev pub invariant-loop-j : goal.invariant-loop-j
invariant-loop-j l =
    (l.j ≤ l.i) × ListenedBack (hearing l.spread (read_of l.table).table (row_passage l.rows l.i)) l.rows l.count l.i l.j l.listeners.listening l.listeners.repeated l.listeners.row

abbrev pub decreases-loop-j : goal.decreases-loop-j
decreases-loop-j l = l.j
