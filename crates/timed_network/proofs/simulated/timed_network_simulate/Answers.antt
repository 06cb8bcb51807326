-- `timed_network::simulated::timed_network_simulate` meets its contract. Assumes nothing.
use Rattle.timed_network.proofs.simulated.timed_network_simulate.Goals as goal

pub returns : goal.returns
returns c =
    (c.simulation_numbers.ensures _ c.simulate.ensures.0, c.simulate.ensures.1, c.simulate.ensures.2)
