-- `spread_words::put_spread` meets its contract. Assumes nothing.
use native.Mathlib.Omega.{arith}
use borrow.Author.Tests.{eq-eqb, ne_eqb}
use Rattle.text.proofs.Appended.{next}
use Rattle.spread_words.proofs.put_spread.Goals as goal

pub returns-then-spread-eq1 : goal.returns-then-spread-eq1
returns-then-spread-eq1 c =
    let a = c.args in
    rw (eq-eqb a.spread 1 c.if-spread-eq1.true) (next c.put_field-at.ensures.0 c.put.ensures.0, omega (arith, c.put_field-at.ensures.1, c.put.ensures.1))

pub returns : goal.returns
returns c =
    let a = c.args in
    rw (ne_eqb a.spread 1 c.if-spread-eq1.false) (next c.put_field-at.ensures.0 c.put-2.ensures.0, omega (arith, c.put_field-at.ensures.1, c.put-2.ensures.1))
