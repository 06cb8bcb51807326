-- `timed_network::repetition::timed_network_period` meets its contract. Assumes nothing.
use mathlib.Core.Path.{◌≡◌, sym, ap, ◌∙◌}
use Rattle.std.specs.Prelude.{Option, Some, None}
use Rattle.std.specs.Option.{is_some, unwrap_or}
use Rattle.model.specs.Calls.{number_of, concerned_of}
use Rattle.recurrence.specs.declared.Pair.{Pair}
use Rattle.recurrence.specs.Recurrence.{RecurrenceCall, recurrence_call}
use Rattle.period.specs.Telling.{PairTold}
use Rattle.timed_network.proofs.repetition.timed_network_period.Goals as goal

abbrev none : Pair
none = record { from = 0; to = 0 }

told : (call : RecurrenceCall) (pair : Option Pair) → PairTold call pair
    → (is_some pair ≡ call.found) × ((unwrap_or pair none).from ≡ call.from) × ((unwrap_or pair none).to ≡ call.to)
told call None h = (sym h.0, sym h.1, sym h.2)
told call (Some pair) h = (sym h.0, sym h.1, sym h.2)

pub returns : goal.returns
returns c =
    let tells = c.pair-answer.ensures.tells in
    let t = told (recurrence_call c.args.table.now) c.pair-answer.result.pair tells.pair in (
      record {
        number = c.verdict_numbers-numbers.ensures.0 ∙ ap number_of tells.verdict;
        component = c.verdict_numbers-numbers.ensures.1 ∙ ap concerned_of tells.verdict;
        found = c.is_some-found.ensures ∙ t.0;
        from = ap (λ (p : Pair). p.from) c.unwrap_or-pair.ensures ∙ t.1;
        to = ap (λ (p : Pair). p.to) c.unwrap_or-pair.ensures ∙ t.2;
      },
      c.pair-answer.ensures.pair_true,
    )
