-- `lent_node::stepped` meets its contract. Assumes nothing.
use mathlib.Core.Path.{sym, ◌∙◌}
use Rattle.lent_node.specs.Step.{held_of}
use Rattle.lent_node.proofs.Tests.{may, taken, left_out}
use borrow.Author.Rules.{rules}
use Rattle.lent_node.proofs.stepped.Goals as goal

pub finish-requires : goal.finish-requires
finish-requires c =
    let a = c.args in
    may a.part.now (held_of a.clocks a.variables) a.registers (sym c.may_step.ensures ∙ c.if-may_step.true)

pub returns-then-may_step : goal.returns-then-may_step
returns-then-may_step c =
    let a = c.args in
    taken a.part.now (held_of a.clocks a.variables) a.registers c.finish.result (sym c.may_step.ensures ∙ c.if-may_step.true) c.finish.ensures

pub returns : goal.returns
returns c =
    let a = c.args in
    left_out a.part.now (held_of a.clocks a.variables) a.registers (sym c.may_step.ensures ∙ c.if-may_step.false)
