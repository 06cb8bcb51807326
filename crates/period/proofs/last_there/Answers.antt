-- `period::last_there` meets its contract. Assumes nothing.
use mathlib.Core.Path.{sym, ◌∙◌}
use Prim.Native.Nat.{◌-◌}
use native.Mathlib.Omega.{arith}
use Rattle.model.proofs.Basics.Bools.{clash}
use Rattle.period.specs.Searching.{There}
use Rattle.period.proofs.Joining.{none_from}
use Rattle.period.proofs.last_there.Goals as goal

pub loop-row-init : goal.loop-row-init
loop-row-init c = (omega arith, λ j a b p. omega arith)

pub enter_there-requires : goal.enter_there-requires
enter_there-requires c =
    let p = c.requires in
    let a = c.args in
    let r = (p.4 (a.components - 1) (omega (arith, p.2))).0 in
    (p.0, p.1, omega (arith, r, c.loop-row.invariant.0, c.loop-row-test.true), p.2, p.3, omega (arith, r, p.2))

pub returns-then-enter_there : goal.returns-then-enter_there
returns-then-enter_there c =
    let l = c.loop-row in
    (omega (arith, l.invariant.0, c.loop-row-test.true), c.enter_there.ensures.0 c.if-enter_there.true, λ j h b p. l.invariant.1 j (omega (arith, h)) b p)

pub loop-row-preserved : goal.loop-row-preserved
loop-row-preserved c =
    let a = c.args in
    let l = c.loop-row in (
      omega (arith, l.invariant.0),
      none_from (There a.rows.now a.count a.components a.last) l.row a.last l.invariant.1 (λ m. clash (sym c.if-enter_there.false ∙ c.enter_there.ensures.1 m)),
    )

pub returns : goal.returns
returns c =
    let l = c.loop-row in
    λ j b p. l.invariant.1 j (omega (arith, c.loop-row-test.false)) b p
