-- `uppaal_text::put_further_name` meets its contract. Assumes nothing.
use native.Mathlib.Omega.{arith}
use Rattle.blocks.proofs.Runs.{put_join}
use Rattle.uppaal_text.proofs.put_further_name.Goals as goal

pub returns : goal.returns
returns c = (search put_join, omega arith)
