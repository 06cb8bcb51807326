-- `spread_text::put_ticks` meets its contract. Assumes nothing.
use native.Mathlib.Omega.{arith}
use borrow.Author.Tests.{eq-eqb, ne_eqb}
use Rattle.text.proofs.Appended.{next}
use Rattle.spread_text.proofs.put_ticks.Goals as goal

pub returns-then-n-eq1 : goal.returns-then-n-eq1
returns-then-n-eq1 c =
    let p1 = c.put_number-unit in
    let p2 = c.put in
    rw (eq-eqb c.args.n 1 c.if-n-eq1.true) (next p1.ensures.0 p2.ensures.0, omega (arith, p1.ensures.1, p2.ensures.1))

pub returns-else-n-eq1 : goal.returns-else-n-eq1
returns-else-n-eq1 c =
    let p1 = c.put_number-unit in
    let p2 = c.put-else-n-eq1 in
    rw (ne_eqb c.args.n 1 c.if-n-eq1.false) (next p1.ensures.0 p2.ensures.0, omega (arith, p1.ensures.1, p2.ensures.1))
