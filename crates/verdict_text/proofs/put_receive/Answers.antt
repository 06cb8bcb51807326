-- `verdict_text::put_receive` meets its contract. Assumes nothing.
use native.Mathlib.Omega.{arith}
use Rattle.text.proofs.Appended.{next}
use Rattle.verdict_text.proofs.put_receive.Goals as goal

pub returns : goal.returns
returns c =
    (next (next c.put_place-kind.ensures.0 c.put-ticks.ensures.0) c.put_window.ensures.0, omega (arith, c.put_place-kind.ensures.1, c.put-ticks.ensures.1, c.put_window.ensures.1))
