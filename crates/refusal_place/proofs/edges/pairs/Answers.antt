-- `refusal_place::edges::pairs` meets its contract. Assumes nothing.
use mathlib.Core.Path.{◌≡◌, refl, ap, ◌∙◌}
use Prim.Native.Nat.{ℕ, ◌+◌}
use native.Mathlib.Omega.{arith}
use Rattle.refusal_place.specs.Walk.{one_pair, numbered, pairs}
use Rattle.refusal_place.specs.declared.Subject.{Subject}
use Rattle.refusal_place.specs.declared.Walk.{Walk}
use Rattle.refusal_place.proofs.Within.{pair_turn, counted_start, counted_turn, counted_done}
use Rattle.refusal_place.proofs.edges.pairs.Goals as goal

pub loop-i-init : goal.loop-i-init
loop-i-init c =
    let a = c.args in
    (omega arith, refl, λ on. omega arith, counted_start (λ (i : ℕ). one_pair a.table.now a.end a.w.at a.sizes (numbered a.who i)) a.count a.w)

pub one_pair-walk-requires : goal.one_pair-walk-requires
one_pair-walk-requires c =
    let l = c.loop-i in
    let p = c.requires in
    (l.invariant.0, p.1, p.2, ap (λ (u : Subject). u.part) c.numbered.ensures ∙ p.3, λ on. rw c.numbered.ensures (l.invariant.2 on))

pub loop-i-preserved : goal.loop-i-preserved
loop-i-preserved c =
    let l = c.loop-i in
    let a = c.args in
    let g : ℕ → Walk → Walk = λ i. one_pair a.table.now a.end a.w.at a.sizes (numbered a.who i) in
    let e : c.one_pair-walk.result ≡ g l.i l.walk = rw (c.one_pair-walk.ensures.0, c.numbered.ensures) in (
      c.one_pair-walk.ensures.1,
      refl,
      pair_turn a.table.now a.end a.sizes (numbered a.who l.i) l.walk a.w.at c.requires.3 a.w.at l.i l.invariant.2 c.one_pair-walk.result e,
      rw e (counted_turn g l.i a.count (l.i + 1) l.walk (pairs a.table.now a.end a.sizes a.who a.count a.w) (omega arith) l.invariant.3 refl),
    )

pub returns : goal.returns
returns c =
    let l = c.loop-i in
    let a = c.args in (
      counted_done (λ (i : ℕ). one_pair a.table.now a.end a.w.at a.sizes (numbered a.who i)) l.i a.count l.walk (pairs a.table.now a.end a.sizes a.who a.count a.w) (omega arith) l.invariant.3,
      l.invariant.0,
    )
