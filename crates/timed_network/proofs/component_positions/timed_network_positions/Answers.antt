-- `timed_network::component_positions::timed_network_positions` meets its contract. Assumes nothing.
use mathlib.Core.Path.{ap, ◌∙◌}
use Rattle.model.specs.Calls.{number_of, concerned_of}
use Rattle.timed_network.proofs.component_positions.timed_network_positions.Goals as goal

pub returns : goal.returns
returns c =
    (record { number = c.verdict_numbers-numbers.ensures.0 ∙ ap number_of c.positions-answer.ensures.gives.verdict; component = c.verdict_numbers-numbers.ensures.1 ∙ ap concerned_of c.positions-answer.ensures.gives.verdict; read = c.positions-answer.ensures.gives.read; lent = c.positions-answer.ensures.gives.lent }, c.positions-answer.ensures.positions_true.0)
