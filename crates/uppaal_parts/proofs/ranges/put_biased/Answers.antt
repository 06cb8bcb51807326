-- `uppaal_parts::ranges::put_biased` meets its contract. Assumes nothing.
use native.Mathlib.Omega.{arith}
use Rattle.blocks.proofs.Runs.{put_is}
use Rattle.uppaal_parts.proofs.Totals.{biased_high, biased_low}
use Rattle.uppaal_parts.proofs.ranges.put_biased.Goals as goal

pub returns-then-sum-ge16777216 : goal.returns-then-sum-ge16777216
returns-then-sum-ge16777216 c = (put_is (biased_high c.args.sum (omega arith)) (search), omega arith)

pub returns : goal.returns
returns c = (put_is (biased_low c.args.sum (omega arith)) (search), omega arith)
