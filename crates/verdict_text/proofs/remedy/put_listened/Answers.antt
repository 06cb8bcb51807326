-- `verdict_text::remedy::put_listened` meets its contract. Assumes nothing.
use native.Mathlib.Omega.{arith}
use borrow.Author.Tests.{eq-eqb, ne_eqb}
use Rattle.text.proofs.Appended.{nothing}
use Rattle.verdict_text.proofs.remedy.put_listened.Goals as goal

pub returns-in-15 : goal.returns-in-15
returns-in-15 c =
    let a = c.args in
    rw (eq-eqb a.number 15 c.in-15.is) (c.put_several.ensures.0, omega (arith, c.put_several.ensures.1))

pub returns-in-16 : goal.returns-in-16
returns-in-16 c =
    let a = c.args in
    rw (ne_eqb a.number 15 (λ e. omega (arith, e, c.in-16.is)), eq-eqb a.number 16 c.in-16.is) (c.put_late.ensures.0, omega (arith, c.put_late.ensures.1))

pub returns-in-17 : goal.returns-in-17
returns-in-17 c =
    let a = c.args in
    rw (ne_eqb a.number 15 (λ e. omega (arith, e, c.in-17.is)), ne_eqb a.number 16 (λ e. omega (arith, e, c.in-17.is)), eq-eqb a.number 17 c.in-17.is) (c.put_early.ensures.0, omega (arith, c.put_early.ensures.1))

pub returns-in_default : goal.returns-in_default
returns-in_default c =
    let a = c.args in
    rw (ne_eqb a.number 15 (omega arith), ne_eqb a.number 16 (omega arith), ne_eqb a.number 17 (omega arith)) (nothing a.out.now a.at, omega arith)
