-- `timed_network::spread::timed_network_largest_spread` meets its contract. Assumes nothing.
use mathlib.Core.Path.{refl, sym, ap, subst, ◌∙◌}
use Rattle.model.specs.Calls.{check_call, LargestSpread, number_of, concerned_of}
use Rattle.calls.proofs.Spreading.{no_spread}
use Rattle.timed_network.proofs.Header.{no_check}
use Rattle.table.proofs.Whole.{asks}
use Rattle.timed_network.proofs.Whole.{whole}
use Rattle.timed_network.proofs.spread.timed_network_largest_spread.Goals as goal

pub returns-in-Err : goal.returns-in-Err
returns-in-Err c =
    let bs = c.args.table.now in
    let e = no_check bs c.from.result (c.from.ensures ∙ c.in-Err.ensures) (λ z. asks c.in-Err.fault (sym c.from.ensures ∙ z)) in
    (sym (ap number_of e), sym (ap concerned_of e), λ a. (no_spread bs (sym e)).1 (sym e ∙ a), λ a. refl)

pub returns : goal.returns
returns c =
    let bs = c.args.table.now in
    let w = whole bs in
    let e = c.largest_spread-largest.ensures.0 ∙ ap check_call w in (
      c.verdict_numbers-answer.ensures.0 ∙ ap number_of e,
      c.verdict_numbers-answer.ensures.1 ∙ ap concerned_of e,
      λ a. subst (λ t. LargestSpread t c.largest_spread-largest.result.spread) w (c.largest_spread-largest.ensures.1 (e ∙ a)),
      λ a. c.largest_spread-largest.ensures.2 (λ b. a (sym e ∙ b)),
    )
