-- `uppaal_steps::conditions::put_guard_out` meets its contract. Assumes nothing.
use Rattle.model.specs.Places.{arc_at}
use Rattle.uppaal_parts.proofs.Turns.{put_three}
use Rattle.uppaal_steps.proofs.Guarding.{guard_out_told}
use native.Mathlib.Omega.{arith}
use Rattle.blocks.proofs.Runs.{put_is}
use Rattle.uppaal_steps.proofs.conditions.put_guard_out.Goals as goal

pub returns : goal.returns
returns c =
    let a = c.args in
    (put_is (guard_out_told a.tight a.location (arc_at a.budgets a.edge.now)) (put_three c.put_words-first.ensures c.put_uppers-second.ensures.0 c.put_words.ensures), omega arith)
