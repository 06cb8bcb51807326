-- `uppaal_steps::heard::put_all` meets its contract. Assumes nothing.
use mathlib.Core.Path.{ap}
use mathlib.Core.Bool.{true}
use native.Mathlib.Omega.{arith}
use Rattle.model.specs.declared.Pair.{Pair}
use Rattle.model.specs.Reader.{pair_at}
use Rattle.blocks.proofs.Runs.{put_is}
use Rattle.uppaal_parts.proofs.Turns.{told_on, told_done}
use Rattle.uppaal_steps.specs.Steps.{outcome_told}
use Rattle.uppaal_steps.proofs.heard.put_all.Goals as goal

pub loop-k-preserved : goal.loop-k-preserved
loop-k-preserved c =
    let a = c.args in
    let l = c.loop-k in
    let here = put_is (ap (λ (x : Pair). outcome_told true a.origin a.edge.now x.channel) c.pair_at-message.ensures) c.put_message-next.ensures.0 in
    (omega (arith, c.put_message-next.ensures.1), told_on (λ x. outcome_told true a.origin a.edge.now (pair_at x).channel) 2 a.pairs.now l.k a.count (omega arith) l.invariant.1 here)

pub returns : goal.returns
returns c =
    let a = c.args in
    (told_done (λ x. outcome_told true a.origin a.edge.now (pair_at x).channel) 2 a.pairs.now c.loop-k.k a.count (omega arith) c.loop-k.invariant.1, omega arith)
