-- `timed_network::simulated::simulation_numbers` meets its contract. Assumes nothing.
use mathlib.Core.Path.{ap, ◌∙◌}
use Rattle.model.specs.Calls.{number_of, concerned_of}
use Rattle.timed_network.proofs.simulated.simulation_numbers.Goals as goal

pub returns : goal.returns
returns c =
    λ call is.
    record { number = c.verdict_numbers-numbers.ensures.0 ∙ ap number_of is.verdict; component = c.verdict_numbers-numbers.ensures.1 ∙ ap concerned_of is.verdict; late = is.late; nodes = is.nodes; state = is.state }
