-- `site::take` meets its contract. Assumes nothing.
use mathlib.Core.Path.{◌∙◌}
use native.Mathlib.Omega.{arith}
use Rattle.site.proofs.Keeping.{take_outside, take_empty, take_filled}
use Rattle.site.proofs.take.Goals as goal

pub returns-then-k-ge4 : goal.returns-then-k-ge4
returns-then-k-ge4 c = let a = c.args in c.refuse.ensures ∙ take_outside a.site a.place (omega (arith, c.if-k-ge4.true, c.from-k.ensures))

pub returns-then-site-k-eq0 : goal.returns-then-site-k-eq0
returns-then-site-k-eq0 c =
    let a = c.args in
    c.refuse-then-site-k-eq0.ensures ∙ take_empty a.site a.place (omega (arith, c.if-k-ge4.false, c.from-k.ensures)) (rw c.from-k.ensures at c.if-site-k-eq0.true)

pub returns : goal.returns
returns c =
    let a = c.args in
    (rw c.from-k.ensures at c.set_place.ensures) ∙ take_filled a.site a.place (omega (arith, c.if-k-ge4.false, c.from-k.ensures)) (rw c.from-k.ensures at c.if-site-k-eq0.false)
