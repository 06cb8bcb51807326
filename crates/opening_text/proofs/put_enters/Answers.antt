-- `opening_text::put_enters` meets its contract. Assumes nothing.
use native.Mathlib.Omega.{arith}
use borrow.Author.Tests.{eq-eqb, ne_eqb}
use Rattle.opening_text.proofs.put_enters.Goals as goal

pub returns-then-number-eq7 : goal.returns-then-number-eq7
returns-then-number-eq7 c =
    rw (eq-eqb c.args.number 7 c.if-number-eq7.true) (c.put.ensures.0, omega (arith, c.put.ensures.1))

pub returns : goal.returns
returns c =
    rw (ne_eqb c.args.number 7 c.if-number-eq7.false) (c.put-2.ensures.0, omega (arith, c.put-2.ensures.1))
