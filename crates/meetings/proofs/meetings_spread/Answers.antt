-- `meetings::meetings_spread` meets its contract. Assumes nothing.
use mathlib.Core.Path.{sym, subst}
use Rattle.model.specs.Meetings.{MeetingsCall}
use Rattle.table.proofs.Answered.{refused_at, narrow, valid_at, starts_at}
use Rattle.meetings.specs.Asked.{Says}
use Rattle.meetings.proofs.Listing.{says_none, read_not}
use Rattle.meetings.proofs.meetings_spread.Goals as goal

pub list_meetings-requires : goal.list_meetings-requires
list_meetings-requires c =
    let bs = c.args.table.now in
    let G = c.args.spread in
    (valid_at G bs c.read_at-read.result c.read_at-read.ensures c.in-Accepted.is, starts_at G bs c.read_at-read.result c.read_at-read.ensures c.in-Accepted.is, narrow G bs c.read_at-read.result c.read_at-read.ensures c.in-Accepted.is)

pub returns-in-Refused : goal.returns-in-Refused
returns-in-Refused c =
    let a = c.args in
    let k = subst (λ (k : MeetingsCall). Says k c.nothing.result a.list.now) (sym (read_not a.spread a.table.now a.list.now (refused_at a.spread a.table.now c.read_at-read.result c.read_at-read.ensures c.in-Refused.is)))
    (says_none _ a.list.now c.nothing.result c.nothing.ensures.0 c.nothing.ensures.1 c.nothing.ensures.2) in
    (k.table, k.verdict, k.size, k.lent)
