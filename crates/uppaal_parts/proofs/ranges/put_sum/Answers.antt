-- `uppaal_parts::ranges::put_sum` meets its contract. Assumes nothing.
use native.Mathlib.Omega.{arith}
use Rattle.uppaal_parts.proofs.Turns.{put_three}
use Rattle.uppaal_parts.proofs.ranges.put_sum.Goals as goal

pub returns : goal.returns
returns c = (search put_three, omega arith)
