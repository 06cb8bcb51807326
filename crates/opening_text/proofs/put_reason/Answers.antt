-- `opening_text::put_reason` meets its contract. Assumes nothing.
use native.Mathlib.Omega.{arith}
use borrow.Author.Tests.{eq-eqb, ne_eqb}
use Rattle.opening_text.proofs.put_reason.Goals as goal

pub returns-then-opening-eq8 : goal.returns-then-opening-eq8
returns-then-opening-eq8 c =
    rw (eq-eqb c.args.opening.number 8 c.if-opening-eq8.true) (c.put_edges.ensures.0, omega (arith, c.put_edges.ensures.1))

pub returns-then-opening-eq9 : goal.returns-then-opening-eq9
returns-then-opening-eq9 c =
    let a = c.args in
    rw (ne_eqb a.opening.number 8 c.if-opening-eq8.false, eq-eqb a.opening.number 9 c.if-opening-eq9.true) (c.put_update.ensures.0, omega (arith, c.put_update.ensures.1))

pub returns : goal.returns
returns c =
    let a = c.args in
    rw (ne_eqb a.opening.number 8 c.if-opening-eq8.false, ne_eqb a.opening.number 9 c.if-opening-eq9.false) (c.put.ensures.0, omega (arith, c.put.ensures.1))
