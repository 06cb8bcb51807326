-- `refusal_place::contents::budget` meets its contract. Assumes nothing.
use Rattle.refusal_place.specs.Walk.{contents}
use Rattle.refusal_place.proofs.contents.budget.Goals as goal

pub returns : goal.returns
unfolding contents
returns c = (c.bound_range.ensures.0, c.bound_range.ensures.1)
