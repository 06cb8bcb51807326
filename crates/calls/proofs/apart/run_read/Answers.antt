-- `calls::apart::run_read` meets its contract. Assumes nothing.
use mathlib.Core.Path.{sym, ◌∙◌}
use Rattle.table.proofs.Answered.{verdict_refused}
use Rattle.schedule.specs.Filled as filled
use Rattle.calls.proofs.Answering.{is_planned}
use Rattle.calls.proofs.RunCalls.{plan_not_run}
use Rattle.calls.proofs.apart.run_read.Goals as goal

pub run_planned-requires : goal.run_planned-requires
run_planned-requires c =
    let s = c in
    (s.requires.0, s.requires.1, is_planned s.args.spread s.args.table.now c.plan_rows-r.result _ c.plan_rows-r.ensures c.in-Accepted.is s.requires.2)

pub returns-in-Refused : goal.returns-in-Refused
returns-in-Refused c =
    let s = c in
    let a = s.args in
    let e = verdict_refused (filled.accepted_schedule_in a.spread a.table.now) (sym c.plan_rows-r.ensures.verdict ∙ c.in-Refused.is) in
    rw (plan_not_run a.spread a.table.now a.offsets.now a.choices.now a.observations.now s.requires.0 s.requires.2 e) (c.not_run.ensures a.observations.now)
