-- `uppaal_text::put_init` meets its contract. Assumes nothing.
use Rattle.blocks.proofs.Runs.{put_join}
use native.Mathlib.Omega.{arith}
use Rattle.uppaal_text.proofs.put_init.Goals as goal

pub overflow_cast-initial : goal.overflow_cast-initial
overflow_cast-initial c = omega (arith, c.type_inv.component 3)

pub returns : goal.returns
returns c = (put_join c.put_field-first.ensures.0 c.put_words.ensures, omega arith)
