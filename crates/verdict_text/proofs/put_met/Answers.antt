-- `verdict_text::put_met` meets its contract. Assumes nothing.
use native.Mathlib.Omega.{arith}
use borrow.Author.Tests.{eq-eqb, ne_eqb}
use Rattle.verdict_text.specs.VerdictText.{met_line}
use Rattle.verdict_text.proofs.put_met.Goals as goal

pub returns-then-number-eq10 : goal.returns-then-number-eq10
unfolding met_line
returns-then-number-eq10 c =
    rw (eq-eqb c.args.number 10 c.if-number-eq10.true) (c.put_send_line.ensures.0, omega (arith, c.put_send_line.ensures.1))

pub returns-then-number-eq12 : goal.returns-then-number-eq12
unfolding met_line
returns-then-number-eq12 c =
    let a = c.args in
    rw (ne_eqb a.number 10 c.if-number-eq10.false, eq-eqb a.number 12 c.if-number-eq12.true) (c.put_send_line-then-number-eq12.ensures.0, omega (arith, c.put_send_line-then-number-eq12.ensures.1))

pub returns-else-number-eq12 : goal.returns-else-number-eq12
unfolding met_line
returns-else-number-eq12 c =
    let a = c.args in
    rw (ne_eqb a.number 10 c.if-number-eq10.false, ne_eqb a.number 12 c.if-number-eq12.false) (c.put_listener.ensures.0, omega (arith, c.put_listener.ensures.1))
