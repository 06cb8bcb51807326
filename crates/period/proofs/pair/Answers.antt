-- `period::pair` meets its contract. Assumes nothing.
use Rattle.table.proofs.Answered.{was_valid, its_starts, read_refused}
use Rattle.recurrence.proofs.Calls.{pair_true}
use Rattle.period.proofs.Telling.{not_read}
use Rattle.period.proofs.pair.Goals as goal

pub pair_read-requires : goal.pair_read-requires
pair_read-requires c =
    let bs = c.args.table.now in
    (was_valid bs c.read-r.result c.read-r.ensures c.in-Accepted.is, its_starts bs c.read-r.result c.read-r.ensures c.in-Accepted.is)

pub returns-in-Refused : goal.returns-in-Refused
returns-in-Refused c =
    let bs = c.args.table.now in record { tells = not_read bs c.refused.result (read_refused bs c.read-r.result c.read-r.ensures c.in-Refused.is) c.refused.ensures; pair_true = pair_true bs }

pub returns-in-Accepted : goal.returns-in-Accepted
returns-in-Accepted c = record { tells = c.pair_read.ensures; pair_true = pair_true c.args.table.now }
