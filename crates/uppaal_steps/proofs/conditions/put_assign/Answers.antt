-- `uppaal_steps::conditions::put_assign` meets its contract. Assumes nothing.
use Rattle.uppaal_steps.proofs.Guarding.{assign_there}
use native.Mathlib.Omega.{arith}
use Rattle.blocks.proofs.Runs.{put_is, put_join}
use Rattle.uppaal_steps.proofs.conditions.put_assign.Goals as goal

pub returns : goal.returns
returns c =
    let a = c.args in
    (put_is (assign_there a.budgets a.edge.now a.clocks c.put_edge_updates-led.result.first c.put_edge_updates-led.ensures.1) (put_join c.put_edge_updates-led.ensures.0 c.put_resets_closed.ensures.0), omega arith)
