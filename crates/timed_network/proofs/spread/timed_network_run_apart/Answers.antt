-- `timed_network::spread::timed_network_run_apart` meets its contract. Assumes nothing.
use mathlib.Core.Path.{ap, sym, ◌∙◌}
use Rattle.model.specs.Calls.{run_call_at}
use Rattle.model.proofs.Observations.All.{observations_read_at}
use Rattle.model.proofs.Run.CallsApart.{demanded_apart}
use Rattle.model.proofs.Run.Finished.{finishes_apart}
use Rattle.timed_network.proofs.Header.{no_run_apart}
use Rattle.table.proofs.Whole.{asks}
use Rattle.timed_network.proofs.Whole.{whole}
use Rattle.timed_network.proofs.Numbered.{numbers_by}
use Rattle.timed_network.proofs.spread.timed_network_run_apart.Goals as goal

pub returns-in-Err : goal.returns-in-Err
returns-in-Err c =
    let a = c.args in (
      rw (no_run_apart a.table.now c.from.result (c.from.ensures ∙ c.in-Err.ensures) (λ z. asks c.in-Err.fault (sym c.from.ensures ∙ z)) a.spread a.offsets.now a.choices.now a.observations.now) (c.header_run.ensures a.observations.now),
      demanded_apart a.spread a.table.now a.offsets.now a.choices.now,
      observations_read_at a.spread a.table.now a.offsets.now a.choices.now a.observations.now,
      finishes_apart a.spread a.table.now a.offsets.now a.choices.now,
    )

pub returns : goal.returns
returns c =
    let a = c.args in (
      numbers_by _ _ c.run_apart-ran.result c.run_numbers.result _ (ap (λ t. run_call_at a.spread t a.offsets.now a.choices.now a.observations.now) (whole a.table.now)) c.run_apart-ran.ensures.0 c.run_numbers.ensures,
      demanded_apart a.spread a.table.now a.offsets.now a.choices.now,
      observations_read_at a.spread a.table.now a.offsets.now a.choices.now a.observations.now,
      finishes_apart a.spread a.table.now a.offsets.now a.choices.now,
    )
