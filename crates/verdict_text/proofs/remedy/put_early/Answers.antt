-- `verdict_text::remedy::put_early` meets its contract. Assumes nothing.
use native.Mathlib.Omega.{arith}
use Rattle.text.proofs.Appended.{next}
use Rattle.verdict_text.proofs.remedy.put_early.Goals as goal

pub returns : goal.returns
returns c =
    (next (next (next c.put_place-longer.ensures.0 c.put-until.ensures.0) c.put_until-last.ensures.0) c.put.ensures.0, omega (arith, c.put_place-longer.ensures.1, c.put-until.ensures.1, c.put_until-last.ensures.1, c.put.ensures.1))
