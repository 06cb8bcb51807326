-- `timed_network::edge_reasons::timed_network_reasons` meets its contract. Assumes nothing.
use mathlib.Core.Path.{refl, ap, ◌∙◌, sym}
use Rattle.model.specs.Calls.{number_of, concerned_of}
use Rattle.model.specs.Reasons.{ReasonsCall, reasons_call}
use Rattle.model.proofs.Schedule.Answered.{reasons_true}
use Rattle.rows.proofs.Placed.{known_bytes}
use Rattle.timed_network.proofs.Header.{no_reasons}
use Rattle.table.proofs.Whole.{asks}
use Rattle.timed_network.proofs.Whole.{whole}
use Rattle.timed_network.proofs.edge_reasons.timed_network_reasons.Goals as goal

pub returns-in-Err : goal.returns-in-Err
returns-in-Err c =
    let a = c.args in (
      rw (no_reasons a.table.now c.from.result (c.from.ensures ∙ c.in-Err.ensures) (λ z. asks c.in-Err.fault (sym c.from.ensures ∙ z)) a.component a.tick a.told.now) (record { number = refl; component = refl; passage = refl; size = refl; lent = refl }),
      reasons_true a.table.now (known_bytes a.table.now c.type_inv.table) a.component a.tick,
    )

pub returns : goal.returns
returns c =
    let a = c.args in
    let w = ap (λ t. reasons_call t a.component a.tick a.told.now) (whole a.table.now) in (
      record {
        number = c.verdict_numbers-numbers.ensures.0 ∙ ap number_of (c.reasons-answer.ensures.tells.verdict ∙ ap (λ (k : ReasonsCall). k.verdict) w);
        component = c.verdict_numbers-numbers.ensures.1 ∙ ap concerned_of (c.reasons-answer.ensures.tells.verdict ∙ ap (λ (k : ReasonsCall). k.verdict) w);
        passage = c.reasons-answer.ensures.tells.passage ∙ ap (λ (k : ReasonsCall). k.passage) w;
        size = c.reasons-answer.ensures.tells.size ∙ ap (λ (k : ReasonsCall). k.size) w;
        lent = c.reasons-answer.ensures.tells.lent ∙ ap (λ (k : ReasonsCall). k.lent) w;
      },
      reasons_true a.table.now (known_bytes a.table.now c.type_inv.table) a.component a.tick,
    )
