-- `refusal_text::put_question_on_numbers` meets its contract. Assumes nothing.
use mathlib.Core.Path.{◌≡◌}
use native.Mathlib.Omega.{arith}
use Rattle.refusal_text.specs.RefusalText.{question}
use Rattle.refusal_text.proofs.Questions.{asked}
use Rattle.refusal_text.proofs.put_question_on_numbers.Goals as goal

pub returns-in-18 : goal.returns-in-18
unfolding question
returns-in-18 c =
    let p = c.put in
    (asked c.args.number 18 c.in-18.is p.ensures.0, omega (arith, p.ensures.1))

pub returns-in-19 : goal.returns-in-19
unfolding question
returns-in-19 c =
    let p = c.put-in-19 in
    (asked c.args.number 19 c.in-19.is p.ensures.0, omega (arith, p.ensures.1))

pub returns-in-20 : goal.returns-in-20
unfolding question
returns-in-20 c =
    let p = c.put-in-20 in
    (asked c.args.number 20 c.in-20.is p.ensures.0, omega (arith, p.ensures.1))

pub returns-in-21 : goal.returns-in-21
unfolding question
returns-in-21 c =
    let p = c.put-in-21 in
    (asked c.args.number 21 c.in-21.is p.ensures.0, omega (arith, p.ensures.1))

pub returns-in-22 : goal.returns-in-22
unfolding question
returns-in-22 c =
    let p = c.put-in-22 in
    (asked c.args.number 22 c.in-22.is p.ensures.0, omega (arith, p.ensures.1))

pub returns-in_default : goal.returns-in_default
unfolding question
returns-in_default c =
    let p = c.put-in_default in
    let known : c.args.number ≡ 23 = omega (arith, c.requires) in
    (asked c.args.number 23 known p.ensures.0, omega (arith, p.ensures.1))
