-- `refusal_text::put_question_on_time` meets its contract. Assumes nothing.
use mathlib.Core.Path.{◌≡◌}
use native.Mathlib.Omega.{arith}
use Rattle.refusal_text.specs.RefusalText.{question}
use Rattle.refusal_text.proofs.Questions.{asked}
use Rattle.refusal_text.proofs.put_question_on_time.Goals as goal

pub returns-in-7 : goal.returns-in-7
unfolding question
returns-in-7 c =
    let p = c.put in
    (asked c.args.number 7 c.in-7.is p.ensures.0, omega (arith, p.ensures.1))

pub returns-in-8 : goal.returns-in-8
unfolding question
returns-in-8 c =
    let p = c.put-in-8 in
    (asked c.args.number 8 c.in-8.is p.ensures.0, omega (arith, p.ensures.1))

pub returns-in-9 : goal.returns-in-9
unfolding question
returns-in-9 c =
    let p = c.put-in-9 in
    (asked c.args.number 9 c.in-9.is p.ensures.0, omega (arith, p.ensures.1))

pub returns-in-10 : goal.returns-in-10
unfolding question
returns-in-10 c =
    let p = c.put-in-10 in
    (asked c.args.number 10 c.in-10.is p.ensures.0, omega (arith, p.ensures.1))

pub returns-in-11 : goal.returns-in-11
unfolding question
returns-in-11 c =
    let p = c.put-in-11 in
    (asked c.args.number 11 c.in-11.is p.ensures.0, omega (arith, p.ensures.1))

pub returns-in_default : goal.returns-in_default
unfolding question
returns-in_default c =
    let p = c.put-in_default in
    let known : c.args.number ≡ 12 = omega (arith, c.requires) in
    (asked c.args.number 12 known p.ensures.0, omega (arith, p.ensures.1))
