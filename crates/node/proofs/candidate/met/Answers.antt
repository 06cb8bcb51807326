-- `node::candidate::met` meets its contract. Assumes nothing.
use borrow.Author.Rules.{rules}
use Rattle.node.proofs.candidate.met.Goals as goal

pub returns : goal.returns
returns c = rw c.both.ensures
