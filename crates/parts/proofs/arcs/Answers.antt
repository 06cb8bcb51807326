-- `parts::arcs` meets its contract. Assumes nothing.
use mathlib.Core.Path.{subst, ap, ◌∙◌}
use Prim.Native.Nat.{◌-◌, ◌+◌}
use native.Mathlib.Omega.{arith}
use lib.ListN.{length, drop}
use Rattle.std.proofs.lemmas.Result.{err_from_is_err_and}
use Rattle.model.specs.Reader.{read_arc}
use Rattle.parts.specs.Place.{placed, Within}
use Rattle.parts.proofs.Skim.{turn, stop, done}
use Rattle.parts.proofs.arcs.Goals as goal

pub returns-in_err-at : goal.returns-in_err-at
returns-in_err-at c =
    let a = c.args in
    let l = c.loop in
    let e = c.arc.ensures.says ∙ ap (placed a.component.now) c.in_err-at.was in
    let p = err_from_is_err_and c.from_residual.result c.from_residual.ensures.1 in
    rw (p.1, p.2) (record { says = stop (read_arc a.sizes) (a.count - l.counter) (a.count - (l.counter + 1)) (drop l.at a.component.now) _ (omega arith) e l.invariant.2; within = tt })

pub loop-preserved : goal.loop-preserved
loop-preserved c =
    let a = c.args in
    let l = c.loop in
    let e = c.arc.ensures.says ∙ ap (placed a.component.now) c.in_ok-at.was in
    let w = subst (Within l.at (length a.component.now)) c.in_ok-at.was c.arc.ensures.within in
    (omega (arith, w.0), w.1, turn (read_arc a.sizes) (a.count - l.counter) (a.count - (l.counter + 1)) (drop l.at a.component.now) _ _ (omega arith) e l.invariant.2)

pub returns : goal.returns
returns c =
    let a = c.args in
    let l = c.loop in
    record { says = done (read_arc a.sizes) (a.count - l.counter) (drop l.at a.component.now) _ (omega arith) l.invariant.2; within = (omega arith, omega arith) }
