-- `simulation_text::put_node` meets its contract. Assumes nothing.
use native.Mathlib.Omega.{arith}
use Rattle.text.proofs.Appended.{next}
use Rattle.simulation_text.proofs.put_node.Goals as goal

pub returns : goal.returns
returns c =
    (next (next c.put_field-colon.ensures.0 c.put_field-last.ensures.0) c.put.ensures.0, omega (arith, c.put_field-colon.ensures.1, c.put_field-last.ensures.1, c.put.ensures.1))
