-- `timed_network::simulated::timed_network_simulate_from` meets its contract. Assumes nothing.
use Rattle.timed_network.proofs.simulated.timed_network_simulate_from.Goals as goal

pub returns : goal.returns
returns c =
    (c.simulation_numbers.ensures _ c.simulate_from.ensures.0, c.simulate_from.ensures.1, c.simulate_from.ensures.2)
