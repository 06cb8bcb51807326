-- `uppaal_steps::put_step_out` meets its contract. Assumes nothing.
use Rattle.uppaal_steps.proofs.Keeping.{out_told}
use mathlib.Core.Path.{refl}
use native.Mathlib.Omega.{arith}
use Rattle.uppaal_parts.proofs.Turns.{put_three}
use Rattle.blocks.proofs.Runs.{put_is}
use Rattle.uppaal_steps.proofs.put_step_out.Goals as goal

pub returns : goal.returns
returns c =
    let a = c.args in
    (put_is (out_told a.origin a.edge.now a.message a.tight c.leads_to-target.result c.leads_to-target.ensures refl) (put_three c.put_words-start.ensures c.put_arrow_out-first.ensures.0 c.put_tail.ensures.0), omega arith)
