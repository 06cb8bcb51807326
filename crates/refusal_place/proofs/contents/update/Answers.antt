-- `refusal_place::contents::update` meets its contract. Assumes nothing.
use mathlib.Core.Path.{◌∙◌}
use Rattle.refusal_place.specs.Walk.{contents}
use Rattle.refusal_place.proofs.contents.update.Goals as goal

pub returns : goal.returns
unfolding contents
returns c = (
  rw (c.byte_range.ensures.0, c.byte_range-variable.ensures.0, c.from-variables.ensures),
  c.byte_range.ensures.1 ∙ c.byte_range-variable.ensures.1,
)
