-- What the call answers, in the words of its definition.
use Rattle.model.specs.EdgeChoice.{EdgeChoiceCall}
use Rattle.edge_choice.specs.declared.EdgeChoice.{EdgeChoice}

abbrev pub call_of : EdgeChoice → EdgeChoiceCall
call_of r = record { verdict = r.verdict; taken = r.taken; edge = r.edge; ready = r.ready; end = r.end; looked = r.looked }
