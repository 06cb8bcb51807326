-- `timed_network::timed_network_run` meets its contract. Assumes nothing.
use mathlib.Core.Path.{ap, sym, ◌∙◌}
use Rattle.model.specs.Calls.{run_call}
use Rattle.model.proofs.Observations.All.{observations_read}
use Rattle.model.proofs.Run.Finished.{finishes_together}
use Rattle.model.proofs.Run.Promise.{promised}
use Rattle.timed_network.proofs.Header.{no_run}
use Rattle.table.proofs.Whole.{asks}
use Rattle.timed_network.proofs.Whole.{whole}
use Rattle.timed_network.proofs.Numbered.{numbers_by}
use Rattle.timed_network.proofs.timed_network_run.Goals as goal

pub returns-in-Err : goal.returns-in-Err
returns-in-Err c =
    let a = c.args in (
      rw (no_run a.table.now c.from.result (c.from.ensures ∙ c.in-Err.ensures) (λ z. asks c.in-Err.fault (sym c.from.ensures ∙ z)) a.choices.now a.observations.now) (c.header_run.ensures a.observations.now),
      λ t S e q. promised a.table.now t S e q a.choices.now,
      observations_read a.table.now a.choices.now a.observations.now,
      finishes_together a.table.now a.choices.now,
    )

pub returns : goal.returns
returns c =
    let a = c.args in (
      numbers_by _ _ c.run-r.result c.run_numbers.result _ (ap (λ t. run_call t a.choices.now a.observations.now) (whole a.table.now)) c.run-r.ensures.0 c.run_numbers.ensures,
      λ t S e q. promised a.table.now t S e q a.choices.now,
      observations_read a.table.now a.choices.now a.observations.now,
      finishes_together a.table.now a.choices.now,
    )
