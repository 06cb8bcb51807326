-- `planner::plan` meets its contract. Assumes nothing.
use mathlib.Core.Path.{sym, ap, subst, ◌∙◌}
use mathlib.Core.List.{List}
use Prim.Native.Nat.{ℕ, ◌+◌, ◌*◌, ◌≤◌}
use native.Mathlib.Omega.{arith}
use lib.ListN.{length, take, drop}
use Rattle.model.specs.Calls.{Call}
use Rattle.slot_plan.specs.PlanSchedule.{PlanAccepted}
use Rattle.slot_plan.proofs.Planned.{fits_is, not_plannable, too_short, written, plan_accepted_in}
use Rattle.planner.proofs.Ranges.{passed, failed}
use Rattle.planner.proofs.Answers.{refused_not_accepted, front}
use Rattle.planner.proofs.plan.Goals as goal

pub returns-then-not-can_plan : goal.returns-then-not-can_plan
returns-then-not-can_plan c =
    let e = c in
    let k = not_plannable e.args.slots e.args.table.now (failed c.can_plan.result c.can_plan.ensures c.if-not-can_plan.true-raw) in
    (c.refused.ensures.0 ∙ sym (ap (λ (x : Call). x.verdict) k), c.refused.ensures.1 ∙ sym (ap (λ (x : Call). x.size) k), sym (ap (λ (x : Call). x.lent) k), omega (arith, c.refused.ensures.1), λ a. refused_not_accepted c.refused.ensures.0 a)

pub returns-then-table-size : goal.returns-then-table-size
returns-then-table-size c =
    let e = c in
    let f = (fits_is e.args.slots).0 (passed c.can_plan.result c.can_plan.ensures c.if-not-can_plan.false-raw) in
    let k = too_short e.args.slots e.args.table.now f (omega (arith, c.if-table-size.true)) in
    (c.refused-then-table-size.ensures.0 ∙ sym (ap (λ (x : Call). x.verdict) k), c.refused-then-table-size.ensures.1 ∙ sym (ap (λ (x : Call). x.size) k), sym (ap (λ (x : Call). x.lent) k), omega (arith, c.refused-then-table-size.ensures.1), λ a. refused_not_accepted c.refused-then-table-size.ensures.0 a)

pub put_table-requires : goal.put_table-requires
put_table-requires c =
    let e = c in
    ((fits_is e.args.slots).0 (passed c.can_plan.result c.can_plan.ensures c.if-not-can_plan.false-raw), omega (arith, c.if-table-size.false))

pub returns : goal.returns
returns c =
    let e = c in
    let f = (fits_is e.args.slots).0 (passed c.can_plan.result c.can_plan.ensures c.if-not-can_plan.false-raw) in
    let r : 29 + 55 * e.args.slots.probes ≤ length e.args.table.now = omega (arith, c.if-table-size.false) in
    let k = written e.args.slots e.args.table.now f r in
    let n = front e.args.slots f c.put_table.ensures r in
    (sym (ap (λ (x : Call). x.verdict) k), sym (ap (λ (x : Call). x.size) k), n ∙ sym (ap (λ (x : Call). x.lent) k), omega (arith, f.most_probes), λ a. subst (λ (l : List ℕ). PlanAccepted e.args.slots (take (29 + 55 * e.args.slots.probes) l)) (sym n) (plan_accepted_in e.args.slots f (drop (29 + 55 * e.args.slots.probes) e.args.table.now)))
