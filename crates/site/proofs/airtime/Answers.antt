-- `site::airtime` meets its contract. Assumes nothing.
use Rattle.table.proofs.Answered.{was_valid, its_starts, read_refused}
use Rattle.model.specs.Lists.{refused}
use Rattle.site.proofs.Loading.{load_of, load_unread}
use Rattle.site.proofs.airtime.Goals as goal

pub airtime_read-requires : goal.airtime_read-requires
airtime_read-requires c =
    let bs = c.args.table.now in
    (was_valid bs c.read-r.result c.read-r.ensures c.in-Accepted.is, its_starts bs c.read-r.result c.read-r.ensures c.in-Accepted.is)

pub returns-in-Refused : goal.returns-in-Refused
returns-in-Refused c =
    let bs = c.args.table.now in
    load_of bs c.refused_table.result (refused _ _) (load_unread bs (read_refused bs c.read-r.result c.read-r.ensures c.in-Refused.is)) c.refused_table.ensures.0 c.refused_table.ensures.1 c.refused_table.ensures.2
