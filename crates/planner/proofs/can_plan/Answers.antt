-- `planner::can_plan` meets its contract. Assumes nothing.
use native.Mathlib.Omega.{arith}
use Rattle.planner.proofs.Ranges.{passed, failed, probes_out, slot_out, guard_out, period_out, period_in, twice_small, width_small, product_small}
use Rattle.planner.proofs.can_plan.Goals as goal

pub returns-then-not-in_range : goal.returns-then-not-in_range
returns-then-not-in_range c =
    let slots = c.args.slots in
    probes_out slots (failed c.in_range.result c.in_range.ensures c.if-not-in_range.true-raw)

pub returns-then-not-in_range-2 : goal.returns-then-not-in_range-2
returns-then-not-in_range-2 c =
    let slots = c.args.slots in
    let probes = passed c.in_range.result c.in_range.ensures c.if-not-in_range.false-raw in
    slot_out slots probes (failed c.in_range-2.result c.in_range-2.ensures c.if-not-in_range-2.true-raw)

pub returns-then-not-in_range-3 : goal.returns-then-not-in_range-3
returns-then-not-in_range-3 c =
    let slots = c.args.slots in
    let probes = passed c.in_range.result c.in_range.ensures c.if-not-in_range.false-raw in
    let slot = passed c.in_range-2.result c.in_range-2.ensures c.if-not-in_range-2.false-raw in
    guard_out slots probes slot (failed c.in_range-3.result c.in_range-3.ensures c.if-not-in_range-3.true-raw)

pub returns-then-slots-gt30000 : goal.returns-then-slots-gt30000
returns-then-slots-gt30000 c =
    let slots = c.args.slots in
    let probes = passed c.in_range.result c.in_range.ensures c.if-not-in_range.false-raw in
    let slot = passed c.in_range-2.result c.in_range-2.ensures c.if-not-in_range-2.false-raw in
    let guard = passed c.in_range-3.result c.in_range-3.ensures c.if-not-in_range-3.false-raw in
    period_out slots probes slot guard c.if-slots-gt30000.true

pub overflow_mul-result : goal.overflow_mul-result
overflow_mul-result c =
    let slots = c.args.slots in
    let probes = passed c.in_range.result c.in_range.ensures c.if-not-in_range.false-raw in
    let slot = passed c.in_range-2.result c.in_range-2.ensures c.if-not-in_range-2.false-raw in
    let guard = passed c.in_range-3.result c.in_range-3.ensures c.if-not-in_range-3.false-raw in
    omega (arith, twice_small slots probes slot guard)

pub overflow_add-result : goal.overflow_add-result
overflow_add-result c =
    let slots = c.args.slots in
    let probes = passed c.in_range.result c.in_range.ensures c.if-not-in_range.false-raw in
    let slot = passed c.in_range-2.result c.in_range-2.ensures c.if-not-in_range-2.false-raw in
    let guard = passed c.in_range-3.result c.in_range-3.ensures c.if-not-in_range-3.false-raw in
    omega (arith, width_small slots probes slot guard)

pub overflow_mul-result-2 : goal.overflow_mul-result-2
overflow_mul-result-2 c =
    let slots = c.args.slots in
    let probes = passed c.in_range.result c.in_range.ensures c.if-not-in_range.false-raw in
    let slot = passed c.in_range-2.result c.in_range-2.ensures c.if-not-in_range-2.false-raw in
    let guard = passed c.in_range-3.result c.in_range-3.ensures c.if-not-in_range-3.false-raw in
    omega (arith, product_small slots probes slot guard)

pub returns : goal.returns
returns c =
    let slots = c.args.slots in
    let probes = passed c.in_range.result c.in_range.ensures c.if-not-in_range.false-raw in
    let slot = passed c.in_range-2.result c.in_range-2.ensures c.if-not-in_range-2.false-raw in
    let guard = passed c.in_range-3.result c.in_range-3.ensures c.if-not-in_range-3.false-raw in
    period_in slots probes slot guard c.if-slots-gt30000.false
