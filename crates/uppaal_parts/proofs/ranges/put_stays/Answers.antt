-- `uppaal_parts::ranges::put_stays` meets its contract. Assumes nothing.
use native.Mathlib.Omega.{arith}
use Rattle.blocks.proofs.Runs.{put_is, put_join}
use mathlib.Core.Path.{refl}
use mathlib.Core.Bool.{true, false}
use Rattle.uppaal_parts.specs.Marks.{less_bias}
use Rattle.uppaal_parts.proofs.Totals.{stays_more, known_as}
use Rattle.uppaal_parts.proofs.ranges.put_stays.Goals as goal

pub returns-then-t : goal.returns-then-t
returns-then-t c = (put_is (known_as c.args.variable c.args.t.sum c.args.t.known true c.if-t.true refl) (c.put_known.ensures.0 c.args.variable), omega arith)

pub returns : goal.returns
returns c = (put_is (known_as c.args.variable c.args.t.sum c.args.t.known false c.if-t.false (stays_more c.args.variable (less_bias c.args.t.sum))) (put_join c.put_sum-first.ensures.0 c.put_sum.ensures.0), omega arith)
