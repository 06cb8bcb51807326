-- `place_text::put_value` meets its contract. Assumes nothing.
use native.Mathlib.Omega.{arith}
use Rattle.text.proofs.Appended.{next}
use Rattle.place_text.proofs.put_value.Goals as goal

pub returns : goal.returns
returns c =
    (next (next c.put_name-value.ensures.0 c.put_counted-range.ensures.0) c.put_range.ensures.0, omega (arith, c.put_name-value.ensures.1, c.put_counted-range.ensures.1, c.put_range.ensures.1))
