-- `opening_text::put_update` meets its contract. Assumes nothing.
use native.Mathlib.Omega.{arith}
use Rattle.text.proofs.Appended.{next}
use Rattle.opening_text.proofs.put_update.Goals as goal

pub returns : goal.returns
returns c =
    (next (next c.put_field-update.ensures.0 c.put_field-leaves.ensures.0) c.put.ensures.0, omega (arith, c.put_field-update.ensures.1, c.put_field-leaves.ensures.1, c.put.ensures.1))
