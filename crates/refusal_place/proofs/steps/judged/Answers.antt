-- `refusal_place::steps::judged` meets its contract. Assumes nothing.
use Rattle.refusal_place.proofs.steps.judged.Goals as goal

pub returns : goal.returns
returns c = (rw (c.stops_if.ensures.0, c.allowed.ensures), c.stops_if.ensures.1)
