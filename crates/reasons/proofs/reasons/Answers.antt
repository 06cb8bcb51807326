-- `reasons::reasons` meets its contract. Assumes nothing.
use native.Mathlib.Omega.{arith}
use Rattle.model.specs.Reasons.{asked}
use Rattle.model.proofs.Schedule.Answered.{reasons_true}
use Rattle.rows.proofs.Placed.{known_bytes}
use Rattle.reasons.proofs.Laying.{was_refused, was_named, call_refused, call_told}
use Rattle.reasons.proofs.reasons.Goals as goal

pub tell-requires : goal.tell-requires
tell-requires c =
    let s = c in
    (was_named s.args.table.now c.ask-asked.result (asked s.args.table.now s.args.component s.args.tick) c.ask-asked.ensures c.in-Accepted.is).1

pub returns-in-Refused : goal.returns-in-Refused
returns-in-Refused c =
    let s = c in
    let bs = s.args.table.now in record { tells = call_refused bs s.args.component s.args.tick s.args.told.now c.refused.result (was_refused bs c.ask-asked.result (asked bs s.args.component s.args.tick) c.ask-asked.ensures c.in-Refused.is) (c.refused.ensures.0, c.refused.ensures.1, c.refused.ensures.2); reasons_true = (reasons_true bs (known_bytes bs c.type_inv.table) s.args.component s.args.tick, omega (arith, c.refused.ensures.1), omega (arith, c.refused.ensures.2)) }

pub returns-in-Accepted : goal.returns-in-Accepted
returns-in-Accepted c =
    let s = c in
    let bs = s.args.table.now in record { tells = call_told bs s.args.component s.args.tick s.args.told.now c.ask-asked.result c.tell.result _ (was_named bs c.ask-asked.result (asked bs s.args.component s.args.tick) c.ask-asked.ensures c.in-Accepted.is).0 c.tell.ensures.0; reasons_true = (reasons_true bs (known_bytes bs c.type_inv.table) s.args.component s.args.tick, c.tell.ensures.1, c.tell.ensures.2) }
