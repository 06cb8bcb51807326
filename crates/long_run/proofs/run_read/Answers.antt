-- `long_run::run_read` meets its contract. Assumes nothing.
use mathlib.Core.Path.{sym, ◌∙◌}
use Rattle.table.proofs.Answered.{verdict_refused}
use Rattle.schedule.specs.Filled.{accepted_schedule_in}
use Rattle.schedule.proofs.Accepted.{accepted_rows}
use Rattle.long_run.proofs.Answering.{plan_not_run}
use Rattle.long_run.proofs.run_read.Goals as goal

pub run_planned-requires : goal.run_planned-requires
run_planned-requires c =
    let p = c.requires in
    (p.0, p.1, accepted_rows c.args.table.now _ c.plan_rows-r.result c.plan_rows-r.ensures c.in-Accepted.is)

pub returns-in-Refused : goal.returns-in-Refused
returns-in-Refused c =
    let a = c.args in
    let e = verdict_refused (accepted_schedule_in 0 a.table.now) (sym c.plan_rows-r.ensures.verdict ∙ c.in-Refused.is) in
    rw (plan_not_run a.table.now a.horizon a.choices.now a.observations.now c.requires.0 e) (c.not_run.ensures a.observations.now)
