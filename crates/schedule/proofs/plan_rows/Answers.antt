-- `schedule::plan_rows` meets its contract. Assumes nothing.
use mathlib.Core.Path.{◌∙◌}
use native.Mathlib.Omega.{arith}
use Rattle.schedule.proofs.Tables.{header, horizon_is}
use Rattle.schedule.proofs.Whole.{rows_placed, plan_refused, plan_faulty, plan_accepted}
use Rattle.schedule.proofs.plan_rows.Goals as goal

pub word_at-requires : goal.word_at-requires
word_at-requires c = let e = c in omega (arith, header e.args.table.now c.type_inv.table e.requires.0)

pub check_messages-checked-requires : goal.check_messages-checked-requires
check_messages-checked-requires c = rows_placed c.args.table.now c.schedule_rows-r.result c.schedule_rows-r.new.rows c.schedule_rows-r.ensures c.in-Accepted.is

pub returns-in-Refused : goal.returns-in-Refused
returns-in-Refused c = plan_refused c.args.table.now c.schedule_rows-r.result c.schedule_rows-r.new.rows c.schedule_rows-r.ensures c.args.spread c.in-Refused.is

pub returns-in-Refused-checked : goal.returns-in-Refused-checked
returns-in-Refused-checked c =
    let e = c in
    let s = e.args.table.now in
    plan_faulty s c.schedule_rows-r.result c.schedule_rows-r.new.rows c.schedule_rows-r.ensures c.in-Accepted.is e.args.spread c.word32.result
    (c.word32.ensures.0 ∙ c.word_at.ensures ∙ horizon_is s c.type_inv.table e.requires.0) c.check_messages-checked.result c.check_messages-checked.ensures c.in-Refused-checked.is

pub returns-in-Accepted-checked : goal.returns-in-Accepted-checked
returns-in-Accepted-checked c =
    let e = c in
    let s = e.args.table.now in
    plan_accepted s c.schedule_rows-r.result c.schedule_rows-r.new.rows c.schedule_rows-r.ensures c.in-Accepted.is e.args.spread c.word32.result
    (c.word32.ensures.0 ∙ c.word_at.ensures ∙ horizon_is s c.type_inv.table e.requires.0) c.check_messages-checked.result c.check_messages-checked.ensures c.in-Accepted-checked.is
