-- `schedule_words::put_printed` meets its contract. Assumes nothing.
use mathlib.Core.Path.{sym, ◌∙◌}
use Rattle.passages.proofs.Planning.{slice_bytes}
use Rattle.schedule_words.proofs.ScheduleCalled.{printed_accepted, printed_refused}
use Rattle.schedule_words.proofs.put_printed.Goals as goal

pub returns-in-Accepted-clause-out_after : goal.returns-in-Accepted-clause-out_after
returns-in-Accepted-clause-out_after c =
    let table = c.args.table.now in
    let bytes = slice_bytes table c.type_inv.table in
    let call = c.schedule_into-called in
    c.put_schedule.ensures.0 ∙ printed_accepted table bytes (sym call.ensures.0 ∙ c.in-Accepted.is) call.new.list call.result.size call.ensures.2 call.ensures.1

pub returns-in-Refused-clause-out_after : goal.returns-in-Refused-clause-out_after
returns-in-Refused-clause-out_after c =
    let table = c.args.table.now in
    let bytes = slice_bytes table c.type_inv.table in
    c.put_refusal.ensures.0.text ∙ printed_refused table bytes _ _ (sym c.schedule_into-called.ensures.0 ∙ c.in-Refused.is)
