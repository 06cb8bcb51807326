-- `simulation_text::put_simulation` meets its contract. Assumes nothing.
use native.Mathlib.Omega.{arith}
use Rattle.text.proofs.Appended.{next}
use Rattle.simulation_text.proofs.put_simulation.Goals as goal

pub returns : goal.returns
returns c =
    let e = next (next (next (next (next c.put_field-second.ensures.0 c.put_field-end.ensures.0) c.put-lines.ensures.0) c.put_nodes-generator.ensures.0) c.put_field-last.ensures.0) c.put.ensures.0 in
    (e, omega (arith, c.put_field-second.ensures.1, c.put_field-end.ensures.1, c.put-lines.ensures.1, c.put_nodes-generator.ensures.1, c.put_field-last.ensures.1, c.put.ensures.1, c.requires.1))
