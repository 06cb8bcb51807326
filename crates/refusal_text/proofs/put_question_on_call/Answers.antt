-- `refusal_text::put_question_on_call` meets its contract. Assumes nothing.
use mathlib.Core.Path.{◌≡◌}
use native.Mathlib.Omega.{arith}
use Rattle.refusal_text.specs.RefusalText.{question}
use Rattle.refusal_text.proofs.Questions.{asked}
use Rattle.refusal_text.proofs.put_question_on_call.Goals as goal

pub returns-in-13 : goal.returns-in-13
unfolding question
returns-in-13 c =
    let p = c.put in
    (asked c.args.number 13 c.in-13.is p.ensures.0, omega (arith, p.ensures.1))

pub returns-in_default : goal.returns-in_default
unfolding question
returns-in_default c =
    let p = c.put-in_default in
    let known : c.args.number ≡ 14 = omega (arith, c.requires) in
    (asked c.args.number 14 known p.ensures.0, omega (arith, p.ensures.1))
