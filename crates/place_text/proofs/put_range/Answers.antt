-- `place_text::put_range` meets its contract. Assumes nothing.
use native.Mathlib.Omega.{arith}
use Rattle.text.proofs.Appended.{next}
use borrow.Author.Tests.{lt-ltb, le-ltb}
use Rattle.place_text.proofs.put_range.Goals as goal

pub returns-then-p : goal.returns-then-p
returns-then-p c =
    let a = c.args in
    rw (le-ltb a.p.least a.p.limit c.if-p.true) (c.put.ensures.0, omega (arith, c.put.ensures.1))

pub returns-then-p-2 : goal.returns-then-p-2
returns-then-p-2 c =
    let a = c.args in
    rw (lt-ltb a.p.least a.p.limit c.if-p.false, c.if-p-2.true)
    (next (next c.put_counted-to.ensures.0 c.put_counted-more.ensures.0) c.put-then-p-2.ensures.0, omega (arith, c.put_counted-to.ensures.1, c.put_counted-more.ensures.1, c.put-then-p-2.ensures.1))

pub returns-else-p-2 : goal.returns-else-p-2
returns-else-p-2 c =
    let a = c.args in
    rw (lt-ltb a.p.least a.p.limit c.if-p.false, c.if-p-2.false)
    (next (next c.put_counted-to.ensures.0 c.put_counted-more.ensures.0) c.put-else-p-2.ensures.0, omega (arith, c.put_counted-to.ensures.1, c.put_counted-more.ensures.1, c.put-else-p-2.ensures.1))
