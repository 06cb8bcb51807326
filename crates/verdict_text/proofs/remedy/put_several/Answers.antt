-- `verdict_text::remedy::put_several` meets its contract. Assumes nothing.
use native.Mathlib.Omega.{arith}
use Rattle.text.proofs.Appended.{next}
use Rattle.verdict_text.proofs.remedy.put_several.Goals as goal

pub returns : goal.returns
returns c =
    (next (next c.put_field-from.ensures.0 c.put_around-last.ensures.0) c.put.ensures.0, omega (arith, c.put_field-from.ensures.1, c.put_around-last.ensures.1, c.put.ensures.1))
