-- `refused_opening::locate` meets its contract. Assumes nothing.
use mathlib.Core.Path.{◌∙◌}
use Rattle.table.proofs.Answered.{was_valid, its_starts, read_refused}
use Rattle.refused_opening.proofs.Telling.{told_read, told_unread}
use Rattle.refused_opening.proofs.locate.Goals as goal

pub locate_read-requires : goal.locate_read-requires
locate_read-requires c =
    let bs = c.args.table.now in
    (was_valid bs c.read-r.result c.read-r.ensures c.in-Accepted.is, its_starts bs c.read-r.result c.read-r.ensures c.in-Accepted.is)

pub returns-in-Refused : goal.returns-in-Refused
returns-in-Refused c =
    let bs = c.args.table.now in
    c.no_opening.ensures ∙ told_unread bs (read_refused bs c.read-r.result c.read-r.ensures c.in-Refused.is)

pub returns-in-Accepted : goal.returns-in-Accepted
returns-in-Accepted c =
    let bs = c.args.table.now in
    c.locate_read.ensures ∙ told_read bs (was_valid bs c.read-r.result c.read-r.ensures c.in-Accepted.is)
