-- `timed_network::timed_network_meetings` meets its contract. Assumes nothing.
use mathlib.Core.Path.{refl, ap, ◌∙◌, sym}
use native.Mathlib.Omega.{arith}
use Rattle.model.specs.Calls.{number_of, concerned_of}
use Rattle.model.specs.Meetings.{MeetingsCall, meetings_call}
use Rattle.meetings.proofs.Bounds.{size_few}
use Rattle.timed_network.proofs.Header.{no_meetings}
use Rattle.table.proofs.Whole.{asks}
use Rattle.timed_network.proofs.Whole.{whole}
use Rattle.timed_network.proofs.timed_network_meetings.Goals as goal

pub returns-in-Err : goal.returns-in-Err
returns-in-Err c =
    let a = c.args in
    rw (no_meetings a.table.now c.from.result (c.from.ensures ∙ c.in-Err.ensures) (λ z. asks c.in-Err.fault (sym c.from.ensures ∙ z)) a.list.now) (c.header_meetings.ensures.0, c.header_meetings.ensures.1, c.header_meetings.ensures.2, c.header_meetings.ensures.3, c.header_meetings.ensures.4, refl)

pub meetings_numbers-requires : goal.meetings_numbers-requires
meetings_numbers-requires c =
    let a = c.args in
    let w = ap (λ t. (meetings_call t a.list.now).size) (whole a.table.now) in
    omega (arith, c.meetings-m.ensures.2, w, size_few a.table.now a.list.now)

pub returns : goal.returns
returns c =
    let a = c.args in
    let w = ap (λ t. meetings_call t a.list.now) (whole a.table.now) in (
      c.meetings_numbers.ensures.0 ∙ ap number_of (c.meetings-m.ensures.1 ∙ ap (λ (k : MeetingsCall). k.verdict) w),
      c.meetings_numbers.ensures.1 ∙ ap concerned_of (c.meetings-m.ensures.1 ∙ ap (λ (k : MeetingsCall). k.verdict) w),
      c.meetings_numbers.ensures.2 ∙ ap number_of (c.meetings-m.ensures.0 ∙ ap (λ (k : MeetingsCall). k.table) w),
      c.meetings_numbers.ensures.3 ∙ ap concerned_of (c.meetings-m.ensures.0 ∙ ap (λ (k : MeetingsCall). k.table) w),
      c.meetings_numbers.ensures.4 ∙ c.meetings-m.ensures.2 ∙ ap (λ (k : MeetingsCall). k.size) w,
      c.meetings-m.ensures.3 ∙ ap (λ (k : MeetingsCall). k.lent) w,
    )
