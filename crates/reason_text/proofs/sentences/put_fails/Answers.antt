-- `reason_text::sentences::put_fails` meets its contract. Assumes nothing.
use native.Mathlib.Omega.{arith}
use mir.Syntax.{w16}
use mir.ValLaws.{to_z-of_z}
use Rattle.text.proofs.Appended.{next}
use Rattle.reason_text.proofs.sentences.put_fails.Goals as goal

pub returns : goal.returns
returns c =
    let s = c in
    let w4 = rw (to_z-of_z w16 s.args.value s.ranges.value) at c.put_signed-allowed.ensures.0 in
    (next (next (next (next c.put_field-fails.ensures.0 c.put_field-variable.ensures.0) c.put-is.ensures.0) w4) c.put_allowed.ensures.0, omega (arith, c.put_field-fails.ensures.1, c.put_field-variable.ensures.1, c.put-is.ensures.1, c.put_signed-allowed.ensures.1, c.put_allowed.ensures.1))
