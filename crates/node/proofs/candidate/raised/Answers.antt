-- `node::candidate::raised` meets its contract. Assumes nothing.
use borrow.Author.Rules.{rules}
use Rattle.node.proofs.candidate.raised.Goals as goal

pub returns : goal.returns
returns c = rw (c.max.ensures, c.left_of.ensures)
