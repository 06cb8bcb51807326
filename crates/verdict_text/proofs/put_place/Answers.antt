-- `verdict_text::put_place` meets its contract. Assumes nothing.
use native.Mathlib.Omega.{arith}
use Rattle.text.proofs.Appended.{next}
use Rattle.verdict_text.proofs.put_place.Goals as goal

pub returns : goal.returns
returns c =
    (next c.put-place.ensures.0 (next c.put_field-edge.ensures.0 c.put_field.ensures.0), omega (arith, c.put-place.ensures.1, c.put_field-edge.ensures.1, c.put_field.ensures.1))
