-- `timed_network::timed_network_edge_choice` meets its contract. Assumes nothing.
use mathlib.Core.Path.{ap, ◌∙◌}
use Rattle.model.specs.Calls.{number_of, concerned_of}
use Rattle.model.specs.EdgeChoice.{EdgeChoiceCall}
use Rattle.timed_network.proofs.timed_network_edge_choice.Goals as goal

pub returns : goal.returns
returns c =
    record {
      number = c.verdict_numbers-answer.ensures.0 ∙ ap (λ (k : EdgeChoiceCall). number_of k.verdict) c.edge_choice-chosen.ensures;
      component = c.verdict_numbers-answer.ensures.1 ∙ ap (λ (k : EdgeChoiceCall). concerned_of k.verdict) c.edge_choice-chosen.ensures;
      taken = ap (λ (k : EdgeChoiceCall). k.taken) c.edge_choice-chosen.ensures;
      edge = ap (λ (k : EdgeChoiceCall). k.edge) c.edge_choice-chosen.ensures;
      ready = ap (λ (k : EdgeChoiceCall). k.ready) c.edge_choice-chosen.ensures;
      end = ap (λ (k : EdgeChoiceCall). k.end) c.edge_choice-chosen.ensures;
      looked = ap (λ (k : EdgeChoiceCall). k.looked) c.edge_choice-chosen.ensures;
    }
