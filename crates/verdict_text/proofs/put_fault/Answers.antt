-- `verdict_text::put_fault` meets its contract. Assumes nothing.
use native.Mathlib.Omega.{arith}
use borrow.Author.Tests.{eq-eqb, ne_eqb}
use Rattle.verdict_text.proofs.put_fault.Goals as goal

pub returns-then-number-eq12 : goal.returns-then-number-eq12
returns-then-number-eq12 c =
    rw (eq-eqb c.args.number 12 c.if-number-eq12.true) (c.put_receive_fault.ensures.0, omega (arith, c.put_receive_fault.ensures.1))

pub returns-else-number-eq12 : goal.returns-else-number-eq12
returns-else-number-eq12 c =
    rw (ne_eqb c.args.number 12 c.if-number-eq12.false) (c.put_send_fault.ensures.0, omega (arith, c.put_send_fault.ensures.1))
