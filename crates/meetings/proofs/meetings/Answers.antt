-- `meetings::meetings` meets its contract. Assumes nothing.
use mathlib.Core.Path.{ap, ◌∙◌}
use Rattle.model.specs.Meetings.{MeetingsCall}
use Rattle.model.proofs.Run.CallsApart.{meetings_together}
use Rattle.meetings.proofs.meetings.Goals as goal

pub returns : goal.returns
returns c =
    let a = c.args in
    let e = meetings_together a.table.now a.list.now in
    (c.meetings_spread.ensures.0 ∙ ap (λ (k : MeetingsCall). k.table) e, c.meetings_spread.ensures.1 ∙ ap (λ (k : MeetingsCall). k.verdict) e, c.meetings_spread.ensures.2 ∙ ap (λ (k : MeetingsCall). k.size) e, c.meetings_spread.ensures.3 ∙ ap (λ (k : MeetingsCall). k.lent) e)
