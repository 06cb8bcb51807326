-- `reason_text::sentences::put_allowed` meets its contract. Assumes nothing.
use native.Mathlib.Omega.{arith}
use mir.Syntax.{w16}
use mir.Val.{SFits}
use mir.ValLaws.{to_z-of_z}
use Rattle.text.proofs.Appended.{next}
use borrow.Author.Rules.{rules}
use Rattle.reason_text.proofs.sentences.put_allowed.Goals as goal

pub returns : goal.returns
returns c =
    let g = c.args.guard in
    let low : SFits w16 g.low = search rules in
    let high : SFits w16 g.high = search rules in
    let w2 = rw (to_z-of_z w16 g.low low) at c.put_signed-to.ensures.0 in
    let w4 = rw (to_z-of_z w16 g.high high) at c.put_signed.ensures.0 in
    (next (next (next c.put-low.ensures.0 w2) c.put-high.ensures.0) w4, omega (arith, c.put-low.ensures.1, c.put_signed-to.ensures.1, c.put-high.ensures.1, c.put_signed.ensures.1))
