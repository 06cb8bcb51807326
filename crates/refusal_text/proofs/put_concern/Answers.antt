-- `refusal_text::put_concern` meets its contract. Assumes nothing.
use native.Mathlib.Omega.{arith}
use borrow.Author.Tests.{eq-eqb, ne_eqb}
use Rattle.text.proofs.Appended.{next}
use Rattle.refusal_text.proofs.put_concern.Goals as goal

pub returns-then-component-eq255 : goal.returns-then-component-eq255
returns-then-component-eq255 c =
    let p = c.put in
    rw (eq-eqb c.args.component 255 c.if-component-eq255.true) (p.ensures.0, omega (arith, p.ensures.1))

pub returns : goal.returns
returns c =
    let p1 = c.put_field-last in
    let p2 = c.put-2 in
    rw (ne_eqb c.args.component 255 c.if-component-eq255.false) (next p1.ensures.0 p2.ensures.0, omega (arith, p1.ensures.1, p2.ensures.1))
