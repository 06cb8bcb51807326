-- `reason_words::put_printed` meets its contract. Assumes nothing.
use native.Mathlib.Omega.{arith}
use Rattle.model.specs.Reasons.{asked}
use Rattle.reasons.proofs.Laying.{was_refused, was_named}
use Rattle.text.proofs.Appended.{counts}
use Rattle.reason_words.proofs.Printed.{printed}
use borrow.Author.Rules.{rules}
use Rattle.reason_words.proofs.put_printed.Goals as goal

pub put_reasons_text-requires : goal.put_reasons_text-requires
put_reasons_text-requires c =
    let s = c in
    (s.requires, (was_named s.args.table.now c.ask-asked.result (asked s.args.table.now s.args.component s.args.tick) c.ask-asked.ensures c.in-Accepted.is).1)

pub returns-in-Refused : goal.returns-in-Refused
returns-in-Refused c =
    let s = c in
    let bs = s.args.table.now in
    let e = was_refused bs c.ask-asked.result (asked bs s.args.component s.args.tick) c.ask-asked.ensures c.in-Refused.is in record { prefix_len = counts c.put_refusal_text.result c.put_refusal_text.new.out (omega (arith, c.put_refusal_text.ensures.1, c.put_refusal_text.auto.out, s.requires)); out_after = printed bs s.args.component s.args.tick _ e c.put_refusal_text.ensures.0.text }

pub returns-in-Accepted : goal.returns-in-Accepted
returns-in-Accepted c =
    let s = c in
    let bs = s.args.table.now in
    let e = (was_named bs c.ask-asked.result (asked bs s.args.component s.args.tick) c.ask-asked.ensures c.in-Accepted.is).0 in record { prefix_len = counts c.put_reasons_text.result c.put_reasons_text.new.out (omega (arith, c.put_reasons_text.ensures.1, c.put_reasons_text.auto.out, s.requires)); out_after = printed bs s.args.component s.args.tick _ e c.put_reasons_text.ensures.0.text }
