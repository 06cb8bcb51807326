-- `place_text::put_edge` meets its contract. Assumes nothing.
use native.Mathlib.Omega.{arith}
use borrow.Author.Tests.{eq-eqb, ne_eqb}
use Rattle.place_text.proofs.put_edge.Goals as goal

pub returns-then-edge-eq255 : goal.returns-then-edge-eq255
returns-then-edge-eq255 c =
    rw (eq-eqb c.args.edge 255 c.if-edge-eq255.true) (c.put.ensures.0, omega (arith, c.put.ensures.1))

pub returns : goal.returns
returns c =
    rw (ne_eqb c.args.edge 255 c.if-edge-eq255.false) (c.put_field.ensures.0, omega (arith, c.put_field.ensures.1))
