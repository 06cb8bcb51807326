-- `place_text::put_fault` meets its contract. Assumes nothing.
use native.Mathlib.Omega.{arith}
use Rattle.text.proofs.Appended.{next}
use borrow.Author.Tests.{eq-eqb, ne_eqb}
use Rattle.place_text.proofs.put_fault.Goals as goal

pub returns-then-p-eq6 : goal.returns-then-p-eq6
returns-then-p-eq6 c =
    rw (eq-eqb c.args.p.number 6 c.if-p-eq6.true) (next c.put_counted-channel.ensures.0 c.put.ensures.0, omega (arith, c.put_counted-channel.ensures.1, c.put.ensures.1))

pub returns-then-p-eq0 : goal.returns-then-p-eq0
returns-then-p-eq0 c =
    let a = c.args in
    rw (ne_eqb a.p.number 6 c.if-p-eq6.false, eq-eqb a.p.width 0 c.if-p-eq0.true) (c.put_bytes.ensures.0, omega (arith, c.put_bytes.ensures.1))

pub returns : goal.returns
returns c =
    let a = c.args in
    rw (ne_eqb a.p.number 6 c.if-p-eq6.false, ne_eqb a.p.width 0 c.if-p-eq0.false) (c.put_value.ensures.0, omega (arith, c.put_value.ensures.1))
