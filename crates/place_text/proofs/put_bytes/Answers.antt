-- `place_text::put_bytes` meets its contract. Assumes nothing.
use native.Mathlib.Omega.{arith}
use Rattle.text.proofs.Appended.{next}
use borrow.Author.Tests.{eq-eqb, ne_eqb}
use Rattle.place_text.proofs.put_bytes.Goals as goal

pub returns-then-p-eq1 : goal.returns-then-p-eq1
returns-then-p-eq1 c =
    rw (eq-eqb c.args.p.limit 1 c.if-p-eq1.true) (c.put_counted.ensures.0, omega (arith, c.put_counted.ensures.1))

pub returns : goal.returns
returns c =
    rw (ne_eqb c.args.p.limit 1 c.if-p-eq1.false) (next c.put_counted-there.ensures.0 c.put_counted-2.ensures.0, omega (arith, c.put_counted-there.ensures.1, c.put_counted-2.ensures.1))
