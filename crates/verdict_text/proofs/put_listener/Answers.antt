-- `verdict_text::put_listener` meets its contract. Assumes nothing.
use native.Mathlib.Omega.{arith}
use Rattle.text.proofs.Appended.{next}
use Rattle.verdict_text.proofs.put_listener.Goals as goal

pub returns : goal.returns
returns c =
    (next (next c.put_receive-start.ensures.0 c.put_start-end.ensures.0) c.put_end.ensures.0, omega (arith, c.put_receive-start.ensures.1, c.put_start-end.ensures.1, c.put_end.ensures.1))
