-- `refusal_place::steps::number_at` meets its contract. Assumes nothing.
use mathlib.Core.Path.{◌≡◌}
use Prim.Native.Nat.{suc, ◌+◌}
use native.Mathlib.Omega.{arith}
use borrow.Author.Tests.{eq-eqb, ne_eqb}
use Rattle.refusal_place.proofs.steps.number_at.Goals as goal

pub returns-then-width-eq2 : goal.returns-then-width-eq2
returns-then-width-eq2 c = let a = c.args in
    let z : a.at + 1 ≡ suc a.at = omega arith in
    rw (c.from-then-width-eq2.ensures, c.byte_at-then-width-eq2.ensures, c.from.ensures, c.byte_at.ensures, eq-eqb a.width 2 c.if-width-eq2.true, z)

pub returns-else-width-eq2 : goal.returns-else-width-eq2
returns-else-width-eq2 c = let a = c.args in
    rw (c.from-else-width-eq2.ensures, c.byte_at-else-width-eq2.ensures, ne_eqb a.width 2 c.if-width-eq2.false)
