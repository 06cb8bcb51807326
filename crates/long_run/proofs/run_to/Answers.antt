-- `long_run::run_to` meets its contract. Assumes nothing.
use Rattle.table.proofs.Answered.{was_valid, its_starts, read_refused}
use Rattle.later_runs.proofs.Promised.{run_to_true}
use Rattle.long_run.proofs.Answering.{read_not_run}
use Rattle.long_run.proofs.run_to.Goals as goal

pub run_read-requires : goal.run_read-requires
run_read-requires c =
    let bs = c.args.table.now in
    (was_valid bs c.read-r.result c.read-r.ensures c.in-Accepted.is, its_starts bs c.read-r.result c.read-r.ensures c.in-Accepted.is)

pub returns-in-Refused : goal.returns-in-Refused
returns-in-Refused c =
    let a = c.args in
    let bs = a.table.now in
    let k = read_not_run bs a.horizon a.choices.now a.observations.now (read_refused bs c.read-r.result c.read-r.ensures c.in-Refused.is) in
    (rw k (c.not_run.ensures a.observations.now), run_to_true bs a.horizon a.choices.now a.observations.now)

pub returns-in-Accepted : goal.returns-in-Accepted
returns-in-Accepted c =
    let a = c.args in
    (c.run_read.ensures, run_to_true a.table.now a.horizon a.choices.now a.observations.now)
