-- `refusal_place::contents::channel` meets its contract. Assumes nothing.
use Rattle.refusal_place.specs.Walk.{contents}
use Rattle.refusal_place.proofs.contents.channel.Goals as goal

pub returns : goal.returns
unfolding contents
returns c = (rw (c.byte_range.ensures.0, c.from-channels.ensures), c.byte_range.ensures.1)
