-- `node::candidate::lowered` meets its contract. Assumes nothing.
use borrow.Author.Rules.{rules}
use Rattle.node.proofs.candidate.lowered.Goals as goal

pub returns : goal.returns
returns c = rw (c.lowest.ensures, c.both-good.ensures, c.wide64.ensures.0, c.left_of-left.ensures)
