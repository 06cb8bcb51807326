-- `schedule_text::put_message` meets its contract. Assumes nothing.
use native.Mathlib.Omega.{arith}
use borrow.Author.Tests.{eq-eqb, ne_eqb}
use Rattle.schedule_text.proofs.put_message.Goals as goal

pub returns-then-message-eq255 : goal.returns-then-message-eq255
returns-then-message-eq255 c =
    let m = c.args.message in
    rw (eq-eqb m 255 c.if-message-eq255.true) (c.put.ensures.0, omega (arith, c.put.ensures.1))

pub returns-else-message-eq255 : goal.returns-else-message-eq255
returns-else-message-eq255 c =
    let m = c.args.message in
    rw (ne_eqb m 255 c.if-message-eq255.false) (c.put_field.ensures.0, omega (arith, c.put_field.ensures.1))
