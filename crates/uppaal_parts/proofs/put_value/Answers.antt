-- `uppaal_parts::put_value` meets its contract. Assumes nothing.
use native.Mathlib.Omega.{arith}
use Rattle.blocks.proofs.Runs.{put_join}
use Rattle.uppaal_parts.proofs.put_value.Goals as goal

pub returns : goal.returns
returns c = (search put_join, omega arith)
