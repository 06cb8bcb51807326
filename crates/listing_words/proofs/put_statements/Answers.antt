-- `listing_words::put_statements` meets its contract. Assumes nothing.
use mathlib.Core.Path.{subst}
use mathlib.Core.List.{[]}
use Prim.Native.Nat.{ℕ, ◌+◌, ◌-◌, ◌≤◌, ◌<◌}
use native.Mathlib.Omega.{arith}
use Rattle.blocks.proofs.Runs.{begin, left_is, put_on, put_all, same_end, writing_long}
use Rattle.listing_text.specs.ListingText.{statements_text}
use Rattle.listing_words.proofs.Order.{inside_left, last_left, statements_done}
use Rattle.listing_words.proofs.put_statements.Goals as goal

pub loop-place-init : goal.loop-place-init
loop-place-init c =
    let a = c.args in
    let p = c.requires in
    (omega arith, p.2, p.3, omega arith, omega arith, begin a.out.now a.at (statements_text a.part.now a.start (a.end - a.start)))

pub put_place-next-requires : goal.put_place-next-requires
put_place-next-requires c =
    let p = c.requires in
    let l = c.loop-place in
    (p.0, p.1, omega (arith, l.invariant.2, l.invariant.3, l.invariant.4))

pub shape_of-out-then-statements-place : goal.shape_of-out-then-statements-place
shape_of-out-then-statements-place c = same_end c.loop-place.invariant.5 c.put_place-next.ensures.0

pub returns-then-statements-place : goal.returns-then-statements-place
returns-then-statements-place c =
    let a = c.args in
    let l = c.loop-place in
    let t = c.loop-place-test in
    let last = subst (λ (k : ℕ). k ≤ l.place) c.statements_of-statements.ensures.0 c.if-statements-place.true in (
      put_all (put_on [] (left_is (last_left a.part.now l.place a.end t.true last) l.invariant.5) c.put_place-next.ensures.0),
      omega (arith, c.put_place-next.ensures.1, l.invariant.1, l.invariant.3, t.true),
    )

pub loop-place-preserved : goal.loop-place-preserved
loop-place-preserved c =
    let a = c.args in
    let l = c.loop-place in
    let t = c.loop-place-test in
    let inside = subst (λ (k : ℕ). l.place < k) c.statements_of-statements.ensures.0 c.if-statements-place.false in (
      omega (arith, l.invariant.0),
      l.invariant.1,
      l.invariant.2,
      omega (arith, c.put_place-next.ensures.1, l.invariant.3),
      omega (arith, l.invariant.1, t.true),
      put_on
          (statements_text a.part.now (l.place + 1) (a.end - (l.place + 1)))
          (left_is (inside_left a.part.now l.place a.end t.true inside) l.invariant.5)
          c.put_place-next.ensures.0,
    )

pub shape_of-out : goal.shape_of-out
shape_of-out c = writing_long c.loop-place.invariant.5

pub returns : goal.returns
returns c =
    let a = c.args in
    let l = c.loop-place in
    (put_all (left_is (statements_done a.part.now l.place a.end c.loop-place-test.false) l.invariant.5), omega (arith, l.invariant.3, l.invariant.4))
