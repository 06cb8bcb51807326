-- `window::window` meets its contract. Assumes nothing.
use native.Mathlib.Omega.{arith}
use Rattle.window.proofs.Narrowing.{past_left}
use Rattle.window.proofs.window.Goals as goal

pub window_within-requires : goal.window_within-requires
window_within-requires c = (c.requires.0, c.stays-left.ensures.1, c.requires.2)

pub returns : goal.returns
returns c =
    let a = c.args in
    let whole = c.window_within.ensures.0 (omega (arith, c.window_within.ensures.2)) in
    (whole.0, past_left a.location _ a.clocks _ _ c.stays-left.ensures.0 whole.1, c.window_within.ensures.2, c.window_within.ensures.3)
