-- `uppaal_steps::names::put_arrow_in` meets its contract. Assumes nothing.
use Rattle.uppaal_parts.proofs.Turns.{put_four}
use native.Mathlib.Omega.{arith}
use Rattle.uppaal_steps.proofs.names.put_arrow_in.Goals as goal

pub returns : goal.returns
returns c = (search put_four, omega arith)
