-- `uppaal_steps::names::put_waiting` meets its contract. Assumes nothing.
use Rattle.model.specs.Places.{arc_at}
use Rattle.window.specs.Views.{message_of}
use Rattle.uppaal.specs.Xta.{waiting}
use Rattle.uppaal_steps.proofs.Naming.{location_told}
use native.Mathlib.Omega.{arith}
use Rattle.blocks.proofs.Runs.{put_is, put_join}
use Rattle.uppaal_steps.proofs.names.put_waiting.Goals as goal

pub returns : goal.returns
returns c =
    let a = c.args in
    (put_is (location_told (waiting a.number (message_of a.message)) a.location (arc_at a.budgets a.edge.now)) (put_join c.put_waiting_name-first.ensures.0 c.put_waiting_invariant.ensures.0), omega arith)
