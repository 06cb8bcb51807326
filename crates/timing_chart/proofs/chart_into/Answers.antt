-- `timing_chart::chart_into` meets its contract. Assumes nothing.
use mathlib.Core.Path.{◌≡◌, sym, ap, ◌∙◌}
use native.Mathlib.Omega.{arith}
use borrow.Author.Rules.{rules}
use Rattle.model.specs.Calls.{Call}
use Rattle.schedule.proofs.Tables.{counted, few_components, horizon_is, horizon_small, header}
use Rattle.timing_chart.proofs.Charting.{plan_refused, call_refused, placed, too_short, written}
use Rattle.timing_chart.proofs.chart_into.Goals as goal

pub bounds-table-3 : goal.bounds-table-3
bounds-table-3 c =
    let e = c in
    omega (arith, header e.args.table.now c.type_inv.table e.requires.0)

pub word_at-requires : goal.word_at-requires
word_at-requires c =
    let e = c in
    omega (arith, header e.args.table.now c.type_inv.table e.requires.0)

pub returns-then-chart-components : goal.returns-then-chart-components
returns-then-chart-components c =
    let e = c in
    let bs = e.args.table.now in
    let k = too_short bs e.requires.0 c.plan_rows-r.result _ c.plan_rows-r.ensures c.in-Accepted.is e.args.chart.now c.wide-components.result (c.wide-components.ensures.0 ∙ counted bs c.type_inv.table e.requires.0) c.if-chart-components.true in
    (c.refused-then-chart-components.ensures.0 ∙ sym (ap (λ (x : Call). x.verdict) k), c.refused-then-chart-components.ensures.1 ∙ sym (ap (λ (x : Call). x.size) k), sym (ap (λ (x : Call). x.lent) k), omega (arith, c.refused-then-chart-components.ensures.1))

pub put_chart-requires : goal.put_chart-requires
put_chart-requires c =
    let e = c in
    let bs = e.args.table.now in
    let count = c.wide-components.ensures.0 ∙ counted bs c.type_inv.table e.requires.0 in
    let h = c.word32-horizon.ensures.0 ∙ c.word_at.ensures ∙ horizon_is bs c.type_inv.table e.requires.0 in (
      placed bs e.requires.0 c.plan_rows-r.result _ c.plan_rows-r.ensures c.in-Accepted.is,
      count,
      omega (arith, count, few_components bs c.type_inv.table e.requires.0),
      omega (arith, h, horizon_small bs c.type_inv.table e.requires.0),
      omega (arith, c.if-chart-components.false),
    )

pub returns-in-Refused : goal.returns-in-Refused
returns-in-Refused c =
    let e = c in
    let bs = e.args.table.now in
    let k = call_refused bs e.args.chart.now (plan_refused bs e.requires.0 c.plan_rows-r.result _ c.plan_rows-r.ensures c.in-Refused.is) in
    (c.refused.ensures.0 ∙ sym (ap (λ (x : Call). x.verdict) k), c.refused.ensures.1 ∙ sym (ap (λ (x : Call). x.size) k), sym (ap (λ (x : Call). x.lent) k), omega (arith, c.refused.ensures.1))

pub returns-else-chart-components : goal.returns-else-chart-components
returns-else-chart-components c =
    let e = c in
    let bs = e.args.table.now in
    let count = c.wide-components.ensures.0 ∙ counted bs c.type_inv.table e.requires.0 in
    let h = c.word32-horizon.ensures.0 ∙ c.word_at.ensures ∙ horizon_is bs c.type_inv.table e.requires.0 in
    let k = written bs e.requires.0 c.plan_rows-r.result _ c.plan_rows-r.ensures c.in-Accepted.is e.args.chart.now c.wide-components.result count c.word32-horizon.result h (omega (arith, c.if-chart-components.false)) in
    (sym (ap (λ (x : Call). x.verdict) k), sym (ap (λ (x : Call). x.size) k), c.put_chart.ensures ∙ sym (ap (λ (x : Call). x.lent) k), omega (arith, count, few_components bs c.type_inv.table e.requires.0))
