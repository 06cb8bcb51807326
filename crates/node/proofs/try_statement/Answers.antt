-- `node::try_statement` meets its contract. Assumes nothing.
use mathlib.Core.Path.{ap, ◌∙◌}
use Rattle.node.specs.After.{met_by, spans_by}
use Rattle.node.proofs.Moves.{below_keep}
use Rattle.node.proofs.Effects.{budget_is, keep_is}
use borrow.Author.Rules.{rules}
use Rattle.node.proofs.try_statement.Goals as goal

pub returns-then-statement-eq-BUDGET : goal.returns-then-statement-eq-BUDGET
returns-then-statement-eq-BUDGET c =
    let a = c.args in
    budget_is a.statement.now a.held a.registers c.met-met.result c.if-statement-eq-BUDGET.true
    (c.met-met.ensures ∙ ap (met_by a.registers.tried) (c.spans.ensures ∙ ap (spans_by a.registers.tried) c.word_at-budget.ensures))

pub tried-trial-requires : goal.tried-trial-requires
tried-trial-requires c =
    let s = c in
    (s.requires.0, s.requires.1, below_keep _ s.requires.2 c.if-statement-eq-KEEP.false c.if-statement-eq-BUDGET.false, s.requires.3)

pub returns-then-statement-eq-KEEP : goal.returns-then-statement-eq-KEEP
returns-then-statement-eq-KEEP c =
    let a = c.args in
    keep_is a.statement.now a.held a.registers c.keeps-kept.result c.if-statement-eq-KEEP.true c.keeps-kept.ensures
