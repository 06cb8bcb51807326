-- `spread_text::put_distance` meets its contract. Assumes nothing.
use native.Mathlib.Omega.{arith}
use Rattle.text.proofs.Appended.{next}
use Rattle.spread_text.proofs.put_distance.Goals as goal

pub returns : goal.returns
returns c =
    let p1 = c.put-number in
    let p2 = c.put_ticks-last in
    let p3 = c.put in
    (next (next p1.ensures.0 p2.ensures.0) p3.ensures.0, omega (arith, p1.ensures.1, p2.ensures.1, p3.ensures.1))
