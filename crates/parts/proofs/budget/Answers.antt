-- `parts::budget` meets its contract. Assumes nothing.
use native.Mathlib.Omega.{arith}
use borrow.Author.Tests.{not-true, not-false}
use Rattle.parts.proofs.Sequence.{no_budget, budget_short, budget_bad, budget_good}
use Rattle.parts.proofs.budget.Goals as goal

pub returns-then-not-sizes : goal.returns-then-not-sizes
returns-then-not-sizes c =
    let a = c.args in
    record { says = no_budget a.sizes.budgets a.component.now a.at (not-true _ c.if-not-sizes.true); within = (omega arith, omega arith) }

pub returns-then-component-at-lt-BUDGET_WIDTH : goal.returns-then-component-at-lt-BUDGET_WIDTH
returns-then-component-at-lt-BUDGET_WIDTH c =
    let a = c.args in
    record { says = budget_short a.sizes.budgets a.component.now a.at (not-false _ c.if-not-sizes.false) c.if-component-at-lt-BUDGET_WIDTH.true; within = tt }

pub returns-then-word_at-gt-MOST_BUDGET : goal.returns-then-word_at-gt-MOST_BUDGET
returns-then-word_at-gt-MOST_BUDGET c =
    let a = c.args in
    record { says = budget_bad a.sizes.budgets a.component.now a.at (not-false _ c.if-not-sizes.false) (omega (arith, c.if-component-at-lt-BUDGET_WIDTH.false)) (omega (arith, c.if-word_at-gt-MOST_BUDGET.true, c.word_at.ensures)); within = tt }

pub returns : goal.returns
returns c =
    let a = c.args in
    record { says = budget_good a.sizes.budgets a.component.now a.at (not-false _ c.if-not-sizes.false) (omega (arith, c.if-component-at-lt-BUDGET_WIDTH.false)) (omega (arith, c.if-word_at-gt-MOST_BUDGET.false, c.word_at.ensures)); within = (omega arith, omega (arith, c.if-component-at-lt-BUDGET_WIDTH.false)) }
