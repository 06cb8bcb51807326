-- `schedule::soonest` meets its contract. Assumes nothing.
use mathlib.Core.Path.{◌≡◌, sym, subst}
use Prim.Native.Nat.{◌+◌}
use native.Mathlib.Omega.{arith}
use Rattle.schedule.specs.Going.{Soonest}
use Rattle.schedule.proofs.Least.{least_one, least_next, least_kept}
use Rattle.schedule.proofs.soonest.Goals as goal
use Rattle.schedule.proofs.soonest.Goals.{then-ends-i, else-ends-i}

pub loop-i-init : goal.loop-i-init
loop-i-init c = least_one _

pub loop-i-preserved : goal.loop-i-preserved
loop-i-preserved c =
    let ends = c.args.ends.now in
    let l = c.loop-i in
    elim c.if-ends-i.branch [
      | then-ends-i w ↦ subst (Soonest ends (l.i + 1)) (sym w.best-is) (least_next ends l.i l.best l.invariant w.if-ends-i.true)
      | else-ends-i w ↦ subst (Soonest ends (l.i + 1)) (sym w.best-is) (least_kept ends l.i l.best l.invariant w.if-ends-i.false)
    ]

pub returns : goal.returns
returns c =
    let a = c.args in
    let l = c.loop-i in
    let e : l.i ≡ a.count = omega arith in
    subst (λ k. Soonest a.ends.now k l.best) e l.invariant
