-- `refusal_place::steps::ranged` meets its contract. Assumes nothing.
use Rattle.refusal_place.specs.Walk.{ranged}
use Rattle.refusal_place.proofs.steps.ranged.Goals as goal

pub returns : goal.returns
unfolding ranged
returns c = (rw (c.judged.ensures.0, c.number_at-value.ensures), c.judged.ensures.1)
