-- `calls::apart::run_apart` meets its contract. Assumes nothing.
use Rattle.model.proofs.Observations.All.{observations_read_at}
use Rattle.model.proofs.Run.CallsApart.{demanded_apart}
use Rattle.model.proofs.Run.Finished.{finishes_apart}
use Rattle.table.proofs.Answered.{refused_at, narrow, valid_at, starts_at}
use Rattle.calls.proofs.RunCalls.{run_refused}
use Rattle.calls.proofs.apart.run_apart.Goals as goal

pub run_read-requires : goal.run_read-requires
run_read-requires c =
    let a = c.args in (
      valid_at a.spread a.table.now c.read_at-r.result c.read_at-r.ensures c.in-Accepted.is,
      starts_at a.spread a.table.now c.read_at-r.result c.read_at-r.ensures c.in-Accepted.is,
      narrow a.spread a.table.now c.read_at-r.result c.read_at-r.ensures c.in-Accepted.is,
    )

pub returns-in-Refused : goal.returns-in-Refused
returns-in-Refused c =
    let a = c.args in
    let k = run_refused a.spread a.table.now a.offsets.now a.choices.now a.observations.now (refused_at a.spread a.table.now c.read_at-r.result c.read_at-r.ensures c.in-Refused.is) in (
      rw k (c.not_run.ensures a.observations.now),
      demanded_apart a.spread a.table.now a.offsets.now a.choices.now,
      observations_read_at a.spread a.table.now a.offsets.now a.choices.now a.observations.now,
      finishes_apart a.spread a.table.now a.offsets.now a.choices.now,
    )

pub returns-in-Accepted : goal.returns-in-Accepted
returns-in-Accepted c =
    let a = c.args in (
      c.run_read.ensures,
      demanded_apart a.spread a.table.now a.offsets.now a.choices.now,
      observations_read_at a.spread a.table.now a.offsets.now a.choices.now a.observations.now,
      finishes_apart a.spread a.table.now a.offsets.now a.choices.now,
    )
