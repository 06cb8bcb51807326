-- `node::enter_statement` meets its contract. Assumes nothing.
use mathlib.Core.Bool.{true, false}
use Rattle.node.proofs.Effects.{enter_is}
use borrow.Author.Rules.{rules}
use Rattle.node.proofs.enter_statement.Goals as goal

pub returns-then-registers : goal.returns-then-registers
returns-then-registers c =
    let s = c in
    let a = s.args in
    enter_is a.statement.now a.held a.registers true s.requires.1 c.if-registers.true

pub returns-else-registers : goal.returns-else-registers
returns-else-registers c =
    let s = c in
    let a = s.args in
    enter_is a.statement.now a.held a.registers false s.requires.1 c.if-registers.false
