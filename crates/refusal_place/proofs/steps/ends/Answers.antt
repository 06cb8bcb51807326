-- `refusal_place::steps::ends` meets its contract. Assumes nothing.
use Rattle.refusal_place.proofs.steps.ends.Goals as goal

pub returns : goal.returns
returns c = (rw (c.judged.ensures.0, c.bytes_field.ensures), c.judged.ensures.1)
