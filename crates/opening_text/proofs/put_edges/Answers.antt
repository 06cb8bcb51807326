-- `opening_text::put_edges` meets its contract. Assumes nothing.
use native.Mathlib.Omega.{arith}
use Rattle.text.proofs.Appended.{next}
use borrow.Author.Tests.{eq-eqb, ne_eqb}
use Rattle.opening_text.proofs.put_edges.Goals as goal

pub returns-then-opening-eq0 : goal.returns-then-opening-eq0
returns-then-opening-eq0 c =
    rw (eq-eqb c.args.opening.leaving 0 c.if-opening-eq0.true) (c.put.ensures.0, omega (arith, c.put.ensures.1))

pub put-requires-2 : goal.put-requires-2
put-requires-2 c =
    omega (arith, c.put_field-blocked.ensures.1, c.put_field-windowless.ensures.1, c.put_field-stop.ensures.1, c.put_field-blocked.auto.out, c.put_field-windowless.auto.out, c.put_field-stop.auto.out, c.requires)

pub returns : goal.returns
returns c =
    rw (ne_eqb c.args.opening.leaving 0 c.if-opening-eq0.false)
    (next (next (next c.put_field-blocked.ensures.0 c.put_field-windowless.ensures.0) c.put_field-stop.ensures.0) c.put-2.ensures.0, omega (arith, c.put_field-blocked.ensures.1, c.put_field-windowless.ensures.1, c.put_field-stop.ensures.1, c.put-2.ensures.1))
