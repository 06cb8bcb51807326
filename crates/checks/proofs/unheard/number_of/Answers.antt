-- `checks::unheard::number_of` meets its contract. Assumes nothing.
-- It is found without this file too. Written out, it has a wrong number fail here and not in a caller.
use mathlib.Core.Path.{sym, ap}
use Rattle.model.specs.Checks.{hearing_number}
use Rattle.checks.proofs.unheard.number_of.Goals as goal

pub returns-in-Well : goal.returns-in-Well
returns-in-Well c = ap hearing_number (sym c.in-Well.is)

pub returns-in-Nobody : goal.returns-in-Nobody
returns-in-Nobody c = ap hearing_number (sym c.in-Nobody.is)

pub returns-in-Several : goal.returns-in-Several
returns-in-Several c = ap hearing_number (sym c.in-Several.is)

pub returns-in-LateStart : goal.returns-in-LateStart
returns-in-LateStart c = ap hearing_number (sym c.in-LateStart.is)

pub returns-in-EarlyEnd : goal.returns-in-EarlyEnd
returns-in-EarlyEnd c = ap hearing_number (sym c.in-EarlyEnd.is)
