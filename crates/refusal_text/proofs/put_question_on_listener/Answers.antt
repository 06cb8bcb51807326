-- `refusal_text::put_question_on_listener` meets its contract. Assumes nothing.
use mathlib.Core.Path.{◌≡◌}
use native.Mathlib.Omega.{arith}
use Rattle.refusal_text.specs.RefusalText.{question}
use Rattle.refusal_text.proofs.Questions.{asked}
use Rattle.refusal_text.proofs.put_question_on_listener.Goals as goal

pub returns-in-15 : goal.returns-in-15
unfolding question
returns-in-15 c =
    let p = c.put in
    (asked c.args.number 15 c.in-15.is p.ensures.0, omega (arith, p.ensures.1))

pub returns-in-16 : goal.returns-in-16
unfolding question
returns-in-16 c =
    let p = c.put-in-16 in
    (asked c.args.number 16 c.in-16.is p.ensures.0, omega (arith, p.ensures.1))

pub returns-in_default : goal.returns-in_default
unfolding question
returns-in_default c =
    let p = c.put-in_default in
    let known : c.args.number ≡ 17 = omega (arith, c.requires) in
    (asked c.args.number 17 known p.ensures.0, omega (arith, p.ensures.1))
