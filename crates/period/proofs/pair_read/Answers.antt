-- `period::pair_read` meets its contract. Assumes nothing.
use mathlib.Core.Path.{refl, sym, ◌∙◌}
use Rattle.table.proofs.Answered.{verdict_refused}
use Rattle.schedule.proofs.Accepted.{accepted_rows}
use Rattle.period.proofs.Telling.{not_planned, pair_told}
use Rattle.period.proofs.pair_read.Goals as goal

pub pair_in-pair-requires : goal.pair_in-pair-requires
pair_in-pair-requires c =
    let s = c in
    (accepted_rows s.args.table.now _ c.plan_rows-planned.result c.plan_rows-planned.ensures c.in-Accepted.is, s.requires.1)

pub returns-in-Refused : goal.returns-in-Refused
returns-in-Refused c =
    let s = c in
    not_planned s.args.table.now s.requires.0 c.refused.result (verdict_refused _ (sym c.plan_rows-planned.ensures.verdict ∙ c.in-Refused.is)) c.refused.ensures

pub returns-in-Accepted : goal.returns-in-Accepted
returns-in-Accepted c =
    let s = c in
    pair_told s.args.table.now _ _ (accepted_rows s.args.table.now _ c.plan_rows-planned.result c.plan_rows-planned.ensures c.in-Accepted.is) c.pair_in-pair.result c.pair_in-pair.ensures _ refl refl
