-- `place_text::put_index` meets its contract. Assumes nothing.
use native.Mathlib.Omega.{arith}
use borrow.Author.Tests.{eq-eqb, ne_eqb}
use Rattle.place_text.proofs.put_index.Goals as goal

pub returns-then-index-eq255 : goal.returns-then-index-eq255
returns-then-index-eq255 c =
    rw (eq-eqb c.args.index 255 c.if-index-eq255.true) (c.put.ensures.0, omega (arith, c.put.ensures.1))

pub returns : goal.returns
returns c =
    rw (ne_eqb c.args.index 255 c.if-index-eq255.false) (c.put_field.ensures.0, omega (arith, c.put_field.ensures.1))
