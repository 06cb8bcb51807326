-- `refusal_text::put_question_on_further_calls` meets its contract. Assumes nothing.
use native.Mathlib.Omega.{arith}
use Rattle.refusal_text.specs.RefusalText.{question}
use Rattle.refusal_text.proofs.Questions.{asked, not_asked}
use Rattle.refusal_text.proofs.put_question_on_further_calls.Goals as goal

pub returns-in-24 : goal.returns-in-24
unfolding question
returns-in-24 c =
    let p = c.put in
    (asked c.args.number 24 c.in-24.is p.ensures.0, omega (arith, p.ensures.1))

pub returns-in-25 : goal.returns-in-25
unfolding question
returns-in-25 c =
    let p = c.put-in-25 in
    (asked c.args.number 25 c.in-25.is p.ensures.0, omega (arith, p.ensures.1))

pub returns-in-26 : goal.returns-in-26
unfolding question
returns-in-26 c =
    let p = c.put-in-26 in
    (asked c.args.number 26 c.in-26.is p.ensures.0, omega (arith, p.ensures.1))

pub returns-in-27 : goal.returns-in-27
unfolding question
returns-in-27 c =
    let p = c.put-in-27 in
    (asked c.args.number 27 c.in-27.is p.ensures.0, omega (arith, p.ensures.1))

pub returns-in-28 : goal.returns-in-28
unfolding question
returns-in-28 c =
    let p = c.put-in-28 in
    (asked c.args.number 28 c.in-28.is p.ensures.0, omega (arith, p.ensures.1))

pub returns-in-29 : goal.returns-in-29
unfolding question
returns-in-29 c =
    let p = c.put-in-29 in
    (asked c.args.number 29 c.in-29.is p.ensures.0, omega (arith, p.ensures.1))

pub returns-in_default : goal.returns-in_default
returns-in_default c =
    let p = c.put-in_default in
    (not_asked c.args.number (omega (arith, c.requires)) p.ensures.0, omega (arith, p.ensures.1))
