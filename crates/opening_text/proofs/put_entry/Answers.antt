-- `opening_text::put_entry` meets its contract. Assumes nothing.
use native.Mathlib.Omega.{arith}
use Rattle.text.proofs.Appended.{next}
use Rattle.opening_text.proofs.put_entry.Goals as goal

pub returns : goal.returns
returns c =
    (next (next (next (next c.put_field-passage.ensures.0 c.put_field-enters.ensures.0) c.put_enters-location.ensures.0) c.put_decimal-tick.ensures.0) c.put_field.ensures.0, omega (arith, c.put_field-passage.ensures.1, c.put_field-enters.ensures.1, c.put_enters-location.ensures.1, c.put_decimal-tick.ensures.1, c.put_field.ensures.1))
