-- `simulated_runs::call::simulate_from` meets its contract. Assumes nothing.
use Rattle.table.proofs.Answered.{was_valid, its_starts, read_refused}
use Rattle.simulation.proofs.Counts.{late_adds}
use Rattle.simulation.proofs.Enough.{simulation_holds}
use Rattle.simulated_runs.proofs.Calling.{answered, read_not_simulated}
use Rattle.simulated_runs.proofs.call.simulate_from.Goals as goal

pub simulate_read-requires : goal.simulate_read-requires
simulate_read-requires c =
    let table = c.args.table.now in
    (was_valid table c.read-r.result c.read-r.ensures c.in-Accepted.is, its_starts table c.read-r.result c.read-r.ensures c.in-Accepted.is)

pub returns-in-Refused : goal.returns-in-Refused
returns-in-Refused c =
    let a = c.args in
    let k = read_not_simulated a.table.now a.lo a.hi a.runs a.seed (read_refused a.table.now c.read-r.result c.read-r.ensures c.in-Refused.is) in (
      answered k c.not_simulated.ensures,
      late_adds a.table.now a.lo a.hi a.runs a.seed,
      simulation_holds a.table.now a.lo a.hi a.runs a.seed,
    )

pub returns-in-Accepted : goal.returns-in-Accepted
returns-in-Accepted c =
    let a = c.args in (
      c.simulate_read.ensures,
      late_adds a.table.now a.lo a.hi a.runs a.seed,
      simulation_holds a.table.now a.lo a.hi a.runs a.seed,
    )
