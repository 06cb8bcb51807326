-- `verdict_text::put_fault_end` meets its contract. Assumes nothing.
use native.Mathlib.Omega.{arith}
use borrow.Author.Tests.{eq-eqb, ne_eqb}
use Rattle.text.proofs.Appended.{next}
use Rattle.verdict_text.proofs.put_fault_end.Goals as goal

pub returns-then-number-eq10 : goal.returns-then-number-eq10
returns-then-number-eq10 c =
    rw (eq-eqb c.args.number 10 c.if-number-eq10.true) (next c.put_meeting-last.ensures.0 c.put.ensures.0, omega (arith, c.put_meeting-last.ensures.1, c.put.ensures.1))

pub returns : goal.returns
returns c =
    rw (ne_eqb c.args.number 10 c.if-number-eq10.false) (next c.put-near.ensures.0 c.put_near.ensures.0, omega (arith, c.put-near.ensures.1, c.put_near.ensures.1))
