-- `uppaal_steps::names::put_arrow_out` meets its contract. Assumes nothing.
use Rattle.uppaal_parts.proofs.Turns.{put_three}
use native.Mathlib.Omega.{arith}
use Rattle.uppaal_steps.proofs.names.put_arrow_out.Goals as goal

pub returns : goal.returns
returns c = (put_three c.put_waiting_name-first.ensures.0 c.put_field-second.ensures.0 c.put_words.ensures, omega arith)
