-- `window::within` meets its contract. Assumes nothing.
use mathlib.Core.Path.{◌∙◌}
use mir.Syntax.{w16}
use mir.ValLaws.{to_z-of_z}
use Rattle.window.proofs.within.Goals as goal

pub returns : goal.returns
returns c =
    let s = c in
    c.both.ensures ∙ rw (to_z-of_z w16 s.args.value s.ranges.value, to_z-of_z w16 s.args.low s.ranges.low, to_z-of_z w16 s.args.high s.ranges.high)
