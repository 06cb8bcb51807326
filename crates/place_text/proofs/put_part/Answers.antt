-- `place_text::put_part` meets its contract. Assumes nothing.
use native.Mathlib.Omega.{arith}
use Rattle.text.proofs.Appended.{next}
use Rattle.place_text.proofs.put_part.Goals as goal

pub returns : goal.returns
returns c =
    (next (next (next c.put_field-edge.ensures.0 c.put_edge-name.ensures.0) c.put_part_name-index.ensures.0) c.put_index.ensures.0, omega (arith, c.put_field-edge.ensures.1, c.put_edge-name.ensures.1, c.put_part_name-index.ensures.1, c.put_index.ensures.1))
