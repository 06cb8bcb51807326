-- `checks::first_crowded` meets its contract. Assumes nothing.
use Rattle.model.specs.Places.{read_of}
use Rattle.model.specs.Checks.{crowded}
use Rattle.rows.specs.Rows.{rows_of}
use Rattle.checks.proofs.Answers.{Ahead}
use Rattle.checks.proofs.first_crowded.Given as goal

abbrev pub invariant-loop-i : goal.invariant-loop-i
invariant-loop-i l = Ahead (crowded l.spread (read_of l.table).table l.horizon (rows_of l.rows l.count)) l.rows l.count l.i
