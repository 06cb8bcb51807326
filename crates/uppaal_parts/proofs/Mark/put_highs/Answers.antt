-- `uppaal_parts::Mark::put_highs` meets its contract. Assumes nothing.
use native.Mathlib.Omega.{arith}
use Rattle.uppaal_parts.proofs.Turns.{highs_on, highs_done}
use Rattle.uppaal_parts.proofs.Mark.put_highs.Goals as goal

pub loop-k-preserved : goal.loop-k-preserved
loop-k-preserved c =
    let a = c.args in
    let l = c.loop-k in
    (omega (arith, c.put_high-mark.ensures.2), highs_on a.bytes.now l.mark.tight l.k a.count c.put_high-mark.result.tight (omega arith) l.invariant.1 c.put_high-mark.ensures.0 c.put_high-mark.ensures.1)

pub returns : goal.returns
returns c = (highs_done c.args.bytes.now c.loop-k.mark.tight c.loop-k.k c.args.count (omega arith) c.loop-k.invariant.1, omega arith)
