-- `uppaal_steps::names::put_waiting_invariant` meets its contract. Assumes nothing.
use Rattle.uppaal_parts.proofs.Turns.{put_three}
use native.Mathlib.Omega.{arith}
use Rattle.uppaal_steps.proofs.names.put_waiting_invariant.Goals as goal

pub returns : goal.returns
returns c = (search put_three, omega arith)
