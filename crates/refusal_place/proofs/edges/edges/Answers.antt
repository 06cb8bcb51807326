-- `refusal_place::edges::edges` meets its contract. Assumes nothing.
use mathlib.Core.Path.{refl}
use Prim.Native.Nat.{ℕ, ◌+◌}
use native.Mathlib.Omega.{arith}
use Rattle.refusal_place.specs.Walk.{edge, edges}
use Rattle.refusal_place.specs.declared.Walk.{Walk}
use Rattle.refusal_place.proofs.Within.{counted_start, counted_turn, counted_done}
use Rattle.refusal_place.proofs.edges.edges.Goals as goal

pub loop-e-init : goal.loop-e-init
loop-e-init c =
    let a = c.args in
    (omega arith, counted_start (edge a.table.now a.end a.sizes a.c) a.count a.w)

pub loop-e-preserved : goal.loop-e-preserved
loop-e-preserved c =
    let l = c.loop-e in
    let a = c.args in
    let g : ℕ → Walk → Walk = edge a.table.now a.end a.sizes a.c in (
      c.edge-walk.ensures.1,
      rw c.edge-walk.ensures.0 (counted_turn g l.e a.count (l.e + 1) l.walk (edges a.table.now a.end a.sizes a.c a.count a.w) (omega arith) l.invariant.1 refl),
    )

pub returns : goal.returns
returns c =
    let l = c.loop-e in
    let a = c.args in (
      counted_done (edge a.table.now a.end a.sizes a.c) l.e a.count l.walk (edges a.table.now a.end a.sizes a.c a.count a.w) (omega arith) l.invariant.1,
      l.invariant.0,
    )
