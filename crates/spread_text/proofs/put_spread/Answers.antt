-- `spread_text::put_spread` meets its contract. Assumes nothing.
use native.Mathlib.Omega.{arith}
use borrow.Author.Tests.{eq-eqb, ne_eqb}
use Rattle.text.proofs.Appended.{nothing}
use Rattle.spread_text.proofs.put_spread.Goals as goal

pub returns-then-spread-eq0 : goal.returns-then-spread-eq0
returns-then-spread-eq0 c =
    let a = c.args in
    rw (eq-eqb a.spread 0 c.if-spread-eq0.true) (nothing a.out.now a.at, omega arith)

pub returns : goal.returns
returns c =
    let p1 = c.put_distance in
    rw (ne_eqb c.args.spread 0 c.if-spread-eq0.false) (p1.ensures.0, omega (arith, p1.ensures.1))
