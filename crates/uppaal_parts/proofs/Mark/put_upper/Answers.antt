-- `uppaal_parts::Mark::put_upper` meets its contract. Assumes nothing.
use mathlib.Core.Path.{◌∙◌}
use native.Mathlib.Omega.{arith}
use Rattle.blocks.proofs.Runs.{put_is, put_join}
use Rattle.uppaal_parts.specs.Marks.{upper_of}
use Rattle.uppaal_parts.proofs.Marked.{mark_none, mark_one, mark_more, pred_less}
use Rattle.uppaal_parts.proofs.Mark.put_upper.Goals as goal
use Rattle.uppaal_parts.proofs.Mark.put_upper.Goals.{in-0, in-1, in_default}

pub returns : goal.returns
returns c =
    let t = c.args.self.tight in
    let u = upper_of c.args.clock c.args.bound in
    let fall = c.saturating_sub.ensures ∙ pred_less t in
    elim c.match-self.branch [
      | in-0 w ↦ (rw (w.at-is, w.out-is) (put_is (mark_none t u w.in-0.is) (rw (w.from-in-0.ensures, c.from.ensures) at (put_join c.put_field-sign.ensures.0 w.put_field-at.ensures.0))), fall, omega arith)
      | in-1 w ↦ (rw (w.at-is, w.out-is) (put_is (mark_one t u w.in-1.is) (rw (w.from-in-1.ensures, c.from.ensures) at (put_join c.put_field-sign.ensures.0 w.put_field-at-in-1.ensures.0))), fall, omega arith)
      | in_default w ↦ (rw (w.at-is, w.out-is) (put_is (mark_more t u (λ z. omega arith) (λ z. omega arith)) (rw (w.from-in_default.ensures, c.from.ensures) at (put_join c.put_field-sign.ensures.0 w.put_field-at-in_default.ensures.0))), fall, omega arith)
    ]
