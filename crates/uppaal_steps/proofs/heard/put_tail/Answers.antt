-- `uppaal_steps::heard::put_tail` meets its contract. Assumes nothing.
use Rattle.uppaal_parts.proofs.Turns.{put_three}
use native.Mathlib.Omega.{arith}
use Rattle.uppaal_steps.proofs.heard.put_tail.Goals as goal

pub returns : goal.returns
returns c = (put_three c.put_guard_out-first.ensures.0 c.put_assign-second.ensures.0 c.put_words.ensures, omega arith)
