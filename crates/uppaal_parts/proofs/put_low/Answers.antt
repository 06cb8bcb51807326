-- `uppaal_parts::put_low` meets its contract. Assumes nothing.
use Rattle.uppaal_parts.proofs.Marked.{low_told}
use native.Mathlib.Omega.{arith}
use Rattle.blocks.proofs.Runs.{put_is, put_join}
use Rattle.uppaal_parts.proofs.put_low.Goals as goal

pub returns : goal.returns
returns c = (put_is (low_told c.clock_guard_at-g.ensures) (search put_join), omega arith)
