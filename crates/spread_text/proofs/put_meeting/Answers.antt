-- `spread_text::put_meeting` meets its contract. Assumes nothing.
use native.Mathlib.Omega.{arith}
use borrow.Author.Tests.{eq-eqb, ne_eqb}
use Rattle.spread_text.proofs.put_meeting.Goals as goal

pub returns-then-spread-eq0 : goal.returns-then-spread-eq0
returns-then-spread-eq0 c =
    let p1 = c.put in
    rw (eq-eqb c.args.spread 0 c.if-spread-eq0.true) (p1.ensures.0, omega (arith, p1.ensures.1))

pub returns : goal.returns
returns c =
    let p1 = c.put_distance in
    rw (ne_eqb c.args.spread 0 c.if-spread-eq0.false) (p1.ensures.0, omega (arith, p1.ensures.1))
