-- `refusal_place::contents::pair` meets its contract. Assumes nothing.
use mathlib.Core.Path.{◌∙◌}
use Rattle.refusal_place.specs.Walk.{contents}
use Rattle.refusal_place.proofs.contents.pair.Goals as goal

pub returns : goal.returns
unfolding contents
returns c = (
  rw (c.byte_range.ensures.0, c.from-locations.ensures, c.channel-first.ensures.0),
  c.byte_range.ensures.1 ∙ c.channel-first.ensures.1,
)
