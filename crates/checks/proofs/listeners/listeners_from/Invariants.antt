-- `checks::listeners::listeners_from` meets its contract. Assumes nothing.
use Rattle.model.specs.Places.{read_of}
use Rattle.rows.specs.Rows.{row_passage}
use Rattle.checks.proofs.Questions.{hearing}
use Rattle.checks.proofs.Listening.{Listened}
use Rattle.checks.proofs.listeners.listeners_from.Given as goal

abbrev pub invariant-loop-j : goal.invariant-loop-j
invariant-loop-j l =
    Listened (hearing l.spread (read_of l.table).table (row_passage l.rows l.i)) l.rows l.count l.j l.listeners.listening l.listeners.repeated l.listeners.row
