-- `uppaal_steps::heard::keep_tails` meets its contract. Assumes nothing.
use mathlib.Core.Path.{◌∙◌}
use native.Mathlib.Omega.{arith}
use lib.ListN.{length-set}
use Rattle.uppaal_steps.proofs.Keeping.{one_more}
use Rattle.uppaal_steps.proofs.heard.keep_tails.Goals as goal

pub loop-tight-preserved : goal.loop-tight-preserved
loop-tight-preserved c =
    let l = c.loop-tight in
    let placed = rw c.from.ensures at c.put_tail-end.ensures.0 in
    rw c.from-in-loop-tight.ensures (length-set l.ends l.tight c.put_tail-end.result ∙ l.invariant.0, one_more l.invariant.1 l.invariant.0 (omega arith) placed (omega arith) (omega arith))
