-- `refusal_text::put_question_on_bytes` meets its contract. Assumes nothing.
use mathlib.Core.Path.{◌≡◌}
use native.Mathlib.Omega.{arith}
use Rattle.refusal_text.specs.RefusalText.{question}
use Rattle.refusal_text.proofs.Questions.{asked}
use Rattle.refusal_text.proofs.put_question_on_bytes.Goals as goal

pub returns-in-0 : goal.returns-in-0
unfolding question
returns-in-0 c =
    let p = c.put in
    (asked c.args.number 0 c.in-0.is p.ensures.0, omega (arith, p.ensures.1))

pub returns-in-1 : goal.returns-in-1
unfolding question
returns-in-1 c =
    let p = c.put-in-1 in
    (asked c.args.number 1 c.in-1.is p.ensures.0, omega (arith, p.ensures.1))

pub returns-in-2 : goal.returns-in-2
unfolding question
returns-in-2 c =
    let p = c.put-in-2 in
    (asked c.args.number 2 c.in-2.is p.ensures.0, omega (arith, p.ensures.1))

pub returns-in-3 : goal.returns-in-3
unfolding question
returns-in-3 c =
    let p = c.put-in-3 in
    (asked c.args.number 3 c.in-3.is p.ensures.0, omega (arith, p.ensures.1))

pub returns-in-4 : goal.returns-in-4
unfolding question
returns-in-4 c =
    let p = c.put-in-4 in
    (asked c.args.number 4 c.in-4.is p.ensures.0, omega (arith, p.ensures.1))

pub returns-in-5 : goal.returns-in-5
unfolding question
returns-in-5 c =
    let p = c.put-in-5 in
    (asked c.args.number 5 c.in-5.is p.ensures.0, omega (arith, p.ensures.1))

pub returns-in_default : goal.returns-in_default
unfolding question
returns-in_default c =
    let p = c.put-in_default in
    let known : c.args.number ≡ 6 = omega arith in
    (asked c.args.number 6 known p.ensures.0, omega (arith, p.ensures.1))
