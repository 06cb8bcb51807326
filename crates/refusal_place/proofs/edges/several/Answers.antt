-- `refusal_place::edges::several` meets its contract. Assumes nothing.
use mathlib.Core.Path.{◌≡◌, refl}
use Prim.Native.Nat.{ℕ, ◌+◌}
use native.Mathlib.Omega.{arith}
use Rattle.refusal_place.specs.Walk.{one_part, numbered, several}
use Rattle.refusal_place.specs.declared.Walk.{Walk}
use Rattle.refusal_place.proofs.Within.{counted_start, counted_turn, counted_done}
use Rattle.refusal_place.proofs.edges.several.Goals as goal

pub loop-i-init : goal.loop-i-init
loop-i-init c =
    let a = c.args in
    (omega arith, counted_start (λ (i : ℕ). one_part a.table.now a.end a.sizes (numbered a.who i)) a.count a.w)

pub loop-i-preserved : goal.loop-i-preserved
loop-i-preserved c =
    let a = c.args in
    let l = c.loop-i in
    let g : ℕ → Walk → Walk = λ i. one_part a.table.now a.end a.sizes (numbered a.who i) in
    let e : c.one_part-walk.result ≡ g l.i l.walk = rw (c.one_part-walk.ensures.0, c.numbered.ensures) in
    (c.one_part-walk.ensures.1, rw e (counted_turn g l.i a.count (l.i + 1) l.walk (several a.table.now a.end a.sizes a.who a.count a.w) (omega arith) l.invariant.1 refl))

pub returns : goal.returns
returns c =
    let a = c.args in
    let l = c.loop-i in
    (counted_done (λ (i : ℕ). one_part a.table.now a.end a.sizes (numbered a.who i)) l.i a.count l.walk (several a.table.now a.end a.sizes a.who a.count a.w) (omega arith) l.invariant.1, l.invariant.0)
