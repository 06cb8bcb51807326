-- `refusal_place::components` meets its contract. Assumes nothing.
use mathlib.Core.Path.{refl}
use Prim.Native.Nat.{ℕ, ◌+◌}
use native.Mathlib.Omega.{arith}
use Rattle.refusal_place.specs.Walk.{counted, component}
use Rattle.refusal_place.specs.declared.Walk.{Walk}
use Rattle.refusal_place.proofs.Within.{counted_start, counted_turn, counted_done}
use Rattle.refusal_place.proofs.Sequence.{components_is}
use Rattle.refusal_place.proofs.components.Goals as goal

pub loop-c-init : goal.loop-c-init
loop-c-init c =
    let a = c.args in
    (omega arith, counted_start (component a.table.now a.header) a.count a.w)

pub loop-c-preserved : goal.loop-c-preserved
loop-c-preserved c =
    let l = c.loop-c in
    let a = c.args in
    let g : ℕ → Walk → Walk = component a.table.now a.header in (
      c.component-walk.ensures.1,
      rw c.component-walk.ensures.0 (counted_turn g l.c a.count (l.c + 1) l.walk (counted g 0 a.count a.w) (omega arith) l.invariant.1 refl),
    )

pub returns : goal.returns
returns c =
    let l = c.loop-c in
    let a = c.args in
    let p = c.requires in
    let g : ℕ → Walk → Walk = component a.table.now a.header in
    let e = counted_done g l.c a.count l.walk (counted g 0 a.count a.w) (omega arith) l.invariant.1 in
    components_is a.table.now a.count a.header c.of_component.result a.w l.walk c.ends.result p.2 p.3 p.4 c.of_component.ensures e c.ends.ensures.0
