-- `place_text::put_place_text` meets its contract. Assumes nothing.
use native.Mathlib.Omega.{arith}
use Rattle.text.proofs.Appended.{next}
use Rattle.place_text.specs.PlaceText.{place_text}
use Rattle.place_text.proofs.put_place_text.Goals as goal

pub returns : goal.returns
unfolding place_text
returns c =
    (next (next (next (next c.put_part-byte.ensures.0 c.put_counted-close.ensures.0) c.put-fault.ensures.0) c.put_fault-stop.ensures.0) c.put.ensures.0, omega (arith, c.put_part-byte.ensures.1, c.put_counted-close.ensures.1, c.put-fault.ensures.1, c.put_fault-stop.ensures.1, c.put.ensures.1))
