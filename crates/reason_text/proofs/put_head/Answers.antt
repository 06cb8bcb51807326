-- `reason_text::put_head` meets its contract. Assumes nothing.
use native.Mathlib.Omega.{arith}
use Rattle.text.proofs.Appended.{next}
use Rattle.reason_text.proofs.put_head.Goals as goal

pub returns : goal.returns
returns c =
    (next (next c.put_field-heading.ensures.0 c.put-fields.ensures.0) c.put_passage.ensures.0, omega (arith, c.put_field-heading.ensures.1, c.put-fields.ensures.1, c.put_passage.ensures.1))
