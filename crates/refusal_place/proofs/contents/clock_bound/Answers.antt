-- `refusal_place::contents::clock_bound` meets its contract. Assumes nothing.
use mathlib.Core.Path.{◌∙◌}
use Rattle.refusal_place.specs.Walk.{contents}
use Rattle.refusal_place.proofs.contents.clock_bound.Goals as goal

pub returns : goal.returns
unfolding contents
returns c = (
  rw (c.bound_range.ensures.0, c.bound_range-low.ensures.0, c.byte_range-clock.ensures.0, c.from-clocks.ensures),
  c.bound_range.ensures.1 ∙ c.bound_range-low.ensures.1 ∙ c.byte_range-clock.ensures.1,
)
