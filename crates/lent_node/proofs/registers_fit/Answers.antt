-- `lent_node::registers_fit` meets its contract. Assumes nothing.
use Rattle.lent_node.proofs.Tests.{two_by_two}
use borrow.Author.Rules.{rules}
use Rattle.lent_node.proofs.registers_fit.Goals as goal

pub returns : goal.returns
returns c =
    let d = c in
    two_by_two d.args.registers (search rules) d.both-low.ensures d.both-high.ensures c.both-times.ensures c.both.ensures c.both-2.ensures
