-- `simulated_runs::call::simulate_read` meets its contract. Assumes nothing.
use mathlib.Core.Path.{sym, ◌∙◌}
use native.Mathlib.Omega.{arith}
use Rattle.table.proofs.Answered.{verdict_refused}
use Rattle.schedule.specs.Filled as filled
use Rattle.calls.proofs.Answering.{is_planned}
use Rattle.simulated_runs.proofs.Calling.{answered, plan_not_simulated}
use Rattle.simulated_runs.proofs.call.simulate_read.Goals as goal

pub simulate_planned-requires : goal.simulate_planned-requires
simulate_planned-requires c =
    let s = c in
    (s.requires.0, s.requires.1, is_planned 0 s.args.table.now c.plan_rows-r.result _ c.plan_rows-r.ensures c.in-Accepted.is (omega arith))

pub returns-in-Refused : goal.returns-in-Refused
returns-in-Refused c =
    let s = c in
    let a = s.args in
    let e = verdict_refused (filled.accepted_schedule_in 0 a.table.now) (sym c.plan_rows-r.ensures.verdict ∙ c.in-Refused.is) in
    answered (plan_not_simulated a.table.now a.lo a.hi a.runs a.seed s.requires.0 e) c.not_simulated.ensures
