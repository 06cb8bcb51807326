-- `timed_network::long_runs::run_to_numbers` meets its contract. Assumes nothing.
use mathlib.Core.Path.{ap, ◌∙◌}
use Rattle.model.specs.Calls.{number_of, concerned_of, end_number, end_node}
use Rattle.timed_network.proofs.long_runs.run_to_numbers.Goals as goal

pub returns : goal.returns
returns c =
    λ call later is.
    record {
      number = c.verdict_numbers-answer.ensures.0 ∙ ap number_of is.verdict;
      component = c.verdict_numbers-answer.ensures.1 ∙ ap concerned_of is.verdict;
      end = c.end_numbers-ended.ensures.0 ∙ ap end_number is.end;
      node = c.end_numbers-ended.ensures.1 ∙ ap end_node is.end;
      tick = is.tick;
      used = is.used;
      size = is.size;
      lent = is.lent;
    }
