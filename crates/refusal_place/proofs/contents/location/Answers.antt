-- `refusal_place::contents::location` meets its contract. Assumes nothing.
use mathlib.Core.Path.{◌∙◌}
use Rattle.refusal_place.specs.Walk.{contents}
use Rattle.refusal_place.proofs.contents.location.Goals as goal

pub returns : goal.returns
unfolding contents
returns c = (
  rw (c.bound_range.ensures.0, c.byte_range-clock.ensures.0, c.from-clocks.ensures),
  c.bound_range.ensures.1 ∙ c.byte_range-clock.ensures.1,
)
