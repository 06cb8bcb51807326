-- `node::candidate::lowest` meets its contract. Assumes nothing.
use borrow.Author.Rules.{rules}
use Rattle.node.proofs.candidate.lowest.Goals as goal

pub returns-then-trial : goal.returns-then-trial
returns-then-trial c = rw c.if-trial.true c.min.ensures
