-- `timed_network::uppaal_export::timed_network_uppaal` meets its contract. Assumes nothing.
use mathlib.Core.Path.{sym, ap, ◌∙◌}
use native.Mathlib.Omega.{arith}
use Rattle.model.specs.Calls.{number_of, concerned_of}
use Rattle.timed_network.proofs.Accepting.{zero_accepts}
use Rattle.timed_network.proofs.Named.{names_apart}
use Rattle.timed_network.proofs.uppaal_export.timed_network_uppaal.Goals as goal

pub overflow_cast-result : goal.overflow_cast-result
overflow_cast-result c = omega (arith, c.uppaal-answer.ensures.3)

pub returns : goal.returns
returns c =
    (c.verdict_numbers-numbers.ensures.0 ∙ ap number_of c.uppaal-answer.ensures.0, c.verdict_numbers-numbers.ensures.1 ∙ ap concerned_of c.uppaal-answer.ensures.0, c.uppaal-answer.ensures.1, c.uppaal-answer.ensures.2, c.uppaal-answer.ensures.4, c.uppaal-answer.ensures.5, λ h. c.uppaal-answer.ensures.6 (c.uppaal-answer.ensures.0 ∙ zero_accepts _ _ (sym (c.verdict_numbers-numbers.ensures.0 ∙ ap number_of c.uppaal-answer.ensures.0) ∙ h)), names_apart _)
