-- `verdict_text::put_window` meets its contract. Assumes nothing.
use native.Mathlib.Omega.{arith}
use Rattle.text.proofs.Appended.{next}
use Rattle.verdict_text.proofs.put_window.Goals as goal

pub returns : goal.returns
returns c =
    (next c.put_field-end.ensures.0 c.put_field.ensures.0, omega (arith, c.put_field-end.ensures.1, c.put_field.ensures.1))
