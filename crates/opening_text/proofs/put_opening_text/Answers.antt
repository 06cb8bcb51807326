-- `opening_text::put_opening_text` meets its contract. Assumes nothing.
use native.Mathlib.Omega.{arith}
use Rattle.text.proofs.Appended.{next}
use Rattle.opening_text.specs.OpeningText.{opening_text}
use Rattle.opening_text.proofs.put_opening_text.Goals as goal

pub returns : goal.returns
unfolding opening_text
returns c =
    (next c.put_entry-reason.ensures.0 c.put_reason.ensures.0, omega (arith, c.put_entry-reason.ensures.1, c.put_reason.ensures.1))
