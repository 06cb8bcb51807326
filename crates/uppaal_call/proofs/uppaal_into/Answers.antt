-- `uppaal_call::uppaal_into` meets its contract. Assumes nothing.
use mathlib.Core.Path.{sym, ap, ◌∙◌}
use borrow.Author.Tests.{not-true, not-false}
use Rattle.model.specs.Calls.{Call}
use Rattle.uppaal_call.proofs.Exporting.{plan_refused, call_refused, works, rests}
use native.Mathlib.Omega.{arith}
use Rattle.uppaal_call.proofs.uppaal_into.Goals as goal

pub returns-then-not-are_budgetless : goal.returns-then-not-are_budgetless
returns-then-not-are_budgetless c =
    let a = c.args in
    let k = works a.table.now a.text.now c.requires.0 (sym c.planned-v.ensures ∙ c.in-Accepted.is) c.are_budgetless.result c.are_budgetless.ensures (not-true c.are_budgetless.result c.if-not-are_budgetless.true-raw) in
    (c.refused-then-not-are_budgetless.ensures.0 ∙ sym (ap (λ (x : Call). x.verdict) k), c.refused-then-not-are_budgetless.ensures.1 ∙ sym (ap (λ (x : Call). x.size) k), sym (ap (λ (x : Call). x.lent) k), omega (arith, c.refused-then-not-are_budgetless.ensures.1))

pub returns-in-Refused : goal.returns-in-Refused
returns-in-Refused c =
    let a = c.args in
    let k = call_refused a.table.now a.text.now (plan_refused a.table.now (sym c.planned-v.ensures ∙ c.in-Refused.is)) in
    (c.refused.ensures.0 ∙ sym (ap (λ (x : Call). x.verdict) k), c.refused.ensures.1 ∙ sym (ap (λ (x : Call). x.size) k), sym (ap (λ (x : Call). x.lent) k), omega (arith, c.refused.ensures.1))

pub returns-else-not-are_budgetless : goal.returns-else-not-are_budgetless
returns-else-not-are_budgetless c =
    let a = c.args in
    let k = rests a.table.now a.text.now c.requires.0 (sym c.planned-v.ensures ∙ c.in-Accepted.is) c.are_budgetless.result c.are_budgetless.ensures (not-false c.are_budgetless.result c.if-not-are_budgetless.false-raw) in
    (c.write_text.ensures.0 ∙ sym (ap (λ (x : Call). x.verdict) k), c.write_text.ensures.1 ∙ sym (ap (λ (x : Call). x.size) k), c.write_text.ensures.2 ∙ sym (ap (λ (x : Call). x.lent) k), c.write_text.ensures.3)
