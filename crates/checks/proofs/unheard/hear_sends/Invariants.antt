-- `checks::unheard::hear_sends` meets its contract. Assumes nothing.
use Rattle.model.specs.Places.{read_of}
use Rattle.model.specs.Checks.{unheard}
use Rattle.rows.specs.Rows.{rows_of}
use Rattle.checks.proofs.Answers.{Ahead}
use Rattle.checks.proofs.Single.{Marked}
use Rattle.checks.proofs.unheard.hear_sends.Given as goal

abbrev pub invariant-loop-send : goal.invariant-loop-send
invariant-loop-send l =
    Ahead (unheard l.spread (read_of l.table).table l.horizon (rows_of l.rows l.count)) l.rows l.count l.send × Marked l.spread (read_of l.table).table l.horizon l.rows l.count l.send l.apart l.listens
