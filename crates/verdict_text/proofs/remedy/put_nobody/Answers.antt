-- `verdict_text::remedy::put_nobody` meets its contract. Assumes nothing.
use native.Mathlib.Omega.{arith}
use Rattle.text.proofs.Appended.{next}
use Rattle.verdict_text.proofs.remedy.put_nobody.Goals as goal

pub returns : goal.returns
returns c =
    (next (next (next c.put_field-comma.ensures.0 c.put-from.ensures.0) c.put_listen-last.ensures.0) c.put.ensures.0, omega (arith, c.put_field-comma.ensures.1, c.put-from.ensures.1, c.put_listen-last.ensures.1, c.put.ensures.1))
