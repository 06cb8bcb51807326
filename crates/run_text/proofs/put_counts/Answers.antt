-- `run_text::put_counts` meets its contract. Assumes nothing.
use native.Mathlib.Omega.{arith}
use Rattle.text.proofs.Appended.{next}
use Rattle.run_text.proofs.put_counts.Goals as goal

pub returns : goal.returns
returns c =
    (next (next (next c.put_field-second.ensures.0 c.put_field-third.ensures.0) c.put_field-last.ensures.0) c.put.ensures.0, omega (arith, c.put_field-second.ensures.1, c.put_field-third.ensures.1, c.put_field-last.ensures.1, c.put.ensures.1))
