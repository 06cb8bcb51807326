-- `meetings::list_meetings` meets its contract. Assumes nothing.
use mathlib.Core.Path.{sym, subst}
use Rattle.model.specs.Meetings.{MeetingsCall}
use Rattle.schedule.proofs.Whole.{rows_placed}
use Rattle.meetings.specs.Asked.{Says}
use Rattle.meetings.proofs.Listing.{says_none, scheduled_not, of_rows}
use Rattle.meetings.proofs.list_meetings.Goals as goal

pub list_concerned-requires : goal.list_concerned-requires
list_concerned-requires c =
    rows_placed c.args.table.now c.schedule_rows-scheduled.result c.schedule_rows-scheduled.new.rows c.schedule_rows-scheduled.ensures c.in-Accepted.is

pub returns-in-Refused : goal.returns-in-Refused
returns-in-Refused c =
    let e = c in
    let a = e.args in
    subst (λ (k : MeetingsCall). Says k c.nothing.result a.list.now) (sym (scheduled_not a.spread e.requires.2 a.table.now a.list.now e.requires.0 c.schedule_rows-scheduled.result c.schedule_rows-scheduled.new.rows c.schedule_rows-scheduled.ensures c.in-Refused.is))
    (says_none _ a.list.now c.nothing.result c.nothing.ensures.0 c.nothing.ensures.1 c.nothing.ensures.2)

pub returns-in-Accepted : goal.returns-in-Accepted
returns-in-Accepted c =
    let e = c in
    let a = e.args in
    subst (λ (k : MeetingsCall). Says k c.list_concerned.result c.list_concerned.new.list) (of_rows a.spread e.requires.2 a.table.now a.list.now e.requires.0 c.schedule_rows-scheduled.result c.schedule_rows-scheduled.new.rows c.schedule_rows-scheduled.ensures c.in-Accepted.is c.horizon-horizon.result c.horizon-horizon.ensures) c.list_concerned.ensures
