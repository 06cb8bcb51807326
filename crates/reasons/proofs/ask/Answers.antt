-- `reasons::ask` meets its contract. Assumes nothing.
use Rattle.table.proofs.Answered.{was_valid, its_starts, read_refused}
use Rattle.reasons.proofs.Naming.{not_read}
use Rattle.reasons.proofs.ask.Goals as goal

pub ask_read-requires : goal.ask_read-requires
ask_read-requires c =
    let bs = c.args.table.now in
    (was_valid bs c.read-r.result c.read-r.ensures c.in-Accepted.is, its_starts bs c.read-r.result c.read-r.ensures c.in-Accepted.is)

pub returns-in-Refused : goal.returns-in-Refused
returns-in-Refused c =
    let s = c in
    not_read s.args.table.now s.args.component s.args.tick c.nothing.result (read_refused s.args.table.now c.read-r.result c.read-r.ensures c.in-Refused.is) c.nothing.ensures
