-- `spread_text::put_listen` meets its contract. Assumes nothing.
use native.Mathlib.Omega.{arith}
use Rattle.text.proofs.Appended.{next}
use Rattle.spread_text.proofs.put_listen.Goals as goal

pub returns : goal.returns
returns c =
    let p1 = c.put_from-blank in
    let p2 = c.put-until in
    let p3 = c.put_until in
    (next (next p1.ensures.0 p2.ensures.0) p3.ensures.0, omega (arith, p1.ensures.1, p2.ensures.1, p3.ensures.1))
