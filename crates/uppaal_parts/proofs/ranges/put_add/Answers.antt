-- `uppaal_parts::ranges::put_add` meets its contract. Assumes nothing.
use Rattle.model.specs.Reader.{complement}
use Rattle.uppaal.specs.Export.{Sum, plus}
use Rattle.uppaal_parts.specs.Marks.{stays_text}
use native.Mathlib.Omega.{arith}
use Rattle.blocks.proofs.Runs.{put_is}
use mathlib.Core.Path.{ap, ◌∙◌}
use Rattle.uppaal_parts.proofs.ranges.put_add.Goals as goal

pub returns : goal.returns
returns c =
    let a = c.args in
    let e = c.after_update-with.ensures.0 ∙ ap (λ (s : Sum). plus s (complement a.bits)) c.total_before-before.ensures.0 in
    (put_is (ap (stays_text a.variable) e) c.put_stays.ensures.0, omega arith)
