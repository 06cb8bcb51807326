-- `refusal_place::contents::data_bound` meets its contract. Assumes nothing.
use Rattle.refusal_place.specs.Walk.{contents}
use Rattle.refusal_place.proofs.contents.data_bound.Goals as goal

pub returns : goal.returns
unfolding contents
returns c = (rw (c.byte_range.ensures.0, c.from-variables.ensures), c.byte_range.ensures.1)
