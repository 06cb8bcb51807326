-- `calls::run` meets its contract. Assumes nothing.
use Rattle.model.proofs.Observations.All.{observations_read}
use Rattle.model.proofs.Run.CallsApart.{run_together}
use Rattle.model.proofs.Run.Finished.{finishes_together}
use Rattle.model.proofs.Run.Promise.{promised}
use Rattle.calls.proofs.run.Goals as goal

pub returns : goal.returns
returns c =
    let a = c.args in (
      rw (← run_together a.table.now a.choices.now a.observations.now) c.run_apart.ensures.0,
      λ t S e q. promised a.table.now t S e q a.choices.now,
      observations_read a.table.now a.choices.now a.observations.now,
      finishes_together a.table.now a.choices.now,
    )
