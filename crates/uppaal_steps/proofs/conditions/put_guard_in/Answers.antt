-- `uppaal_steps::conditions::put_guard_in` meets its contract. Assumes nothing.
use Rattle.model.specs.Places.{arc_at}
use Rattle.uppaal_parts.proofs.Turns.{put_four}
use Rattle.uppaal_steps.proofs.Guarding.{guard_in_told}
use native.Mathlib.Omega.{arith}
use Rattle.blocks.proofs.Runs.{put_is}
use Rattle.uppaal_steps.proofs.conditions.put_guard_in.Goals as goal

pub returns : goal.returns
returns c =
    let a = c.args in
    (put_is (guard_in_told a.tight a.location (arc_at a.budgets a.edge.now)) (put_four c.put_words-first.ensures c.put_uppers-second.ensures.0 c.put_conditions-third.ensures.0 c.put_words.ensures), omega arith)
