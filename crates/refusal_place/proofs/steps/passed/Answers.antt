-- `refusal_place::steps::passed` meets its contract. Assumes nothing.
use Rattle.refusal_place.specs.Walk.{passed}
use Rattle.refusal_place.proofs.steps.passed.Goals as goal

pub returns-then-going : goal.returns-then-going
unfolding passed
returns-then-going c = rw (← c.going.ensures, c.if-going.true)

pub returns : goal.returns
unfolding passed
returns c = rw (← c.going.ensures, c.if-going.false)
