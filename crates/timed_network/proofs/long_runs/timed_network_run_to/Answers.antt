-- `timed_network::long_runs::timed_network_run_to` meets its contract. Assumes nothing.
use Rattle.later_runs.proofs.Refuses.{run_to_refuses}
use Rattle.timed_network.proofs.long_runs.timed_network_run_to.Goals as goal

pub returns : goal.returns
returns c =
    (c.run_to_numbers.ensures _ _ c.run_to-ran.ensures.0, c.run_to-ran.ensures.1, run_to_refuses _ _ _ _)
