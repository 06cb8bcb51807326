-- `verdict_text::put_send` meets its contract. Assumes nothing.
use native.Mathlib.Omega.{arith}
use Rattle.text.proofs.Appended.{next}
use Rattle.verdict_text.proofs.put_send.Goals as goal

pub returns : goal.returns
returns c =
    (next c.put_field-ticks.ensures.0 c.put_window.ensures.0, omega (arith, c.put_field-ticks.ensures.1, c.put_window.ensures.1))
