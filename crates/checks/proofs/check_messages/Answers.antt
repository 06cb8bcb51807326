-- `checks::check_messages` meets its contract. Assumes nothing.
use borrow.Author.Rules.{rules}
use Rattle.model.specs.Checks.{checked}
use Rattle.checks.proofs.Sending.{row_stands}
use Rattle.checks.proofs.check_messages.Goals as goal

pub refused-requires : goal.refused-requires
refused-requires c =
    let e = c in
    let a = e.args in
    row_stands a.table.now a.rows.now a.count _ c.type_inv.table e.requires c.in-Some.ensures.1

pub returns-in-None : goal.returns-in-None
unfolding checked
returns-in-None c = search rules

pub returns-in-Some : goal.returns-in-Some
unfolding checked
returns-in-Some c = search rules
