-- `uppaal_parts::ranges::put_ranges` meets its contract. Assumes nothing.
use native.Mathlib.Omega.{arith}
use Rattle.uppaal_parts.proofs.Turns.{ranges_on, ranges_done}
use Rattle.uppaal_parts.proofs.ranges.put_ranges.Goals as goal

pub loop-i-preserved : goal.loop-i-preserved
loop-i-preserved c =
    let l = c.loop-i in
    (omega (arith, c.put_range-next.ensures.1), ranges_on c.args.bytes.now l.i c.args.count (omega arith) l.invariant.1 c.put_range-next.ensures.0)

pub returns : goal.returns
returns c = (ranges_done c.args.bytes.now c.loop-i.i c.args.count (omega arith) c.loop-i.invariant.1, omega arith)
