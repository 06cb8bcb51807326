-- `uppaal_steps::put_step_in` meets its contract. Assumes nothing.
use Rattle.uppaal_parts.proofs.Turns.{put_five}
use Rattle.uppaal_steps.proofs.Keeping.{in_told}
use mathlib.Core.Path.{refl}
use native.Mathlib.Omega.{arith}
use Rattle.blocks.proofs.Runs.{put_is}
use Rattle.uppaal_steps.proofs.put_step_in.Goals as goal

pub returns : goal.returns
returns c =
    let a = c.args in
    (put_is (in_told a.origin a.edge.now a.message a.tight refl) (put_five c.put_words-start.ensures c.put_arrow_in-first.ensures.0 c.put_guard_in-second.ensures.0 c.put_sync-third.ensures.0 c.put_words.ensures), omega arith)
