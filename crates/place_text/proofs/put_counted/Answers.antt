-- `place_text::put_counted` meets its contract. Assumes nothing.
use native.Mathlib.Omega.{arith}
use Rattle.text.proofs.Appended.{next}
use Rattle.place_text.proofs.put_counted.Goals as goal

pub returns : goal.returns
returns c =
    (next c.put-number.ensures.0 c.put_number.ensures.0, omega (arith, c.put-number.ensures.1, c.put_number.ensures.1))
