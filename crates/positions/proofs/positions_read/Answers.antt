-- `positions::positions_read` meets its contract. Assumes nothing.
use mathlib.Core.Path.{sym, ◌∙◌}
use native.Mathlib.Omega.{arith}
use Rattle.table.proofs.Answered.{verdict_refused}
use Rattle.schedule.proofs.Accepted.{accepted_rows}
use Rattle.positions.proofs.Calling.{not_planned}
use Rattle.positions.proofs.positions_read.Goals as goal

pub answer-requires : goal.answer-requires
answer-requires c =
    accepted_rows c.args.table.now _ c.plan_rows-planned.result c.plan_rows-planned.ensures c.in-Accepted.is

pub returns-in-Refused : goal.returns-in-Refused
returns-in-Refused c =
    let s = c in
    (not_planned s.args.table.now s.args.pairs.now s.args.answers.now s.requires.0 c.refused.result (verdict_refused _ (sym c.plan_rows-planned.ensures.verdict ∙ c.in-Refused.is)) c.refused.ensures, omega (arith, c.refused.ensures.1))
