-- `refusal_text::put_refusal_text` meets its contract. Assumes nothing.
use Rattle.refusal_text.specs.RefusalText.{refusal_text}
use native.Mathlib.Omega.{arith}
use Rattle.text.proofs.Appended.{next}
use Rattle.refusal_text.proofs.put_refusal_text.Goals as goal

pub returns : goal.returns
unfolding refusal_text
returns c =
    let p1 = c.put_refusal-second in
    let p2 = c.put-asked in
    let p3 = c.put_question-last in
    let p4 = c.put_concern in
    (next (next (next p1.ensures.0 p2.ensures.0) p3.ensures.0) p4.ensures.0, omega (arith, p1.ensures.1, p2.ensures.1, p3.ensures.1, p4.ensures.1))
