-- `node::candidate::spans` meets its contract. Assumes nothing.
use borrow.Author.Tests.{not-true, not-false}
use borrow.Author.Rules.{rules}
use Rattle.node.proofs.candidate.spans.Goals as goal

pub returns-then-not-trial : goal.returns-then-not-trial
returns-then-not-trial c = rw (not-true c.args.trial.ended c.if-not-trial.true)

pub returns : goal.returns
returns c =
    let a = c.args in
    rw (not-false a.trial.ended c.if-not-trial.false, c.word32.ensures.0, c.word32-2.ensures.0, c.word32-3.ensures.0)
