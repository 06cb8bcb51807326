-- `uppaal_steps::heard::put_kept_out` meets its contract. Assumes nothing.
use Rattle.uppaal_parts.proofs.Turns.{put_three}
use native.Mathlib.Omega.{arith}
use Rattle.uppaal_steps.proofs.heard.put_kept_out.Goals as goal

pub returns : goal.returns
returns c = (put_three c.put_words-first.ensures c.put_arrow_out-second.ensures.0 c.put_words.ensures, omega (arith, c.put_words.ensures.next, c.put_arrow_out-second.ensures.1, c.put_words-first.ensures.next))
