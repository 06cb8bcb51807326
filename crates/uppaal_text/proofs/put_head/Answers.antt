-- `uppaal_text::put_head` meets its contract. Assumes nothing.
use Rattle.uppaal_parts.proofs.Turns.{put_four}
use native.Mathlib.Omega.{arith}
use Rattle.uppaal_text.proofs.put_head.Goals as goal

pub returns : goal.returns
returns c = (put_four c.put_field-first.ensures.0 c.put_words-second.ensures c.put_names-third.ensures.0 c.put_names.ensures.0, omega (arith, c.put_field-first.ensures.1, c.put_words-second.ensures.next, c.put_names-third.ensures.1, c.put_names.ensures.1))
