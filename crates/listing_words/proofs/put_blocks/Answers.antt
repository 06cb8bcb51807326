-- `listing_words::put_blocks` meets its contract. Assumes nothing.
use mathlib.Core.Path.{◌≡◌, ap, subst}
use mathlib.Core.List.{[]}
use Prim.Native.Nat.{ℕ, ◌+◌, ◌-◌, ◌<◌}
use native.Mathlib.Omega.{arith}
use Rattle.blocks.proofs.Runs.{begin, left_is, put_on, put_all, same_end}
use Rattle.listing_text.specs.ListingText.{blocks_of, blocks_text}
use Rattle.listing_words.proofs.Order.{block_left, blocks_done}
use Rattle.listing_words.proofs.put_blocks.Goals as goal

pub loop-block-init : goal.loop-block-init
loop-block-init c =
    let a = c.args in
    let p = c.requires in
    let e : blocks_of a.part.now ≡ c.blocks_of-blocks.result - 0 = omega (arith, c.blocks_of-blocks.ensures.0) in
    (omega arith, c.blocks_of-blocks.ensures.1, p.2, omega arith, left_is (ap (λ (n : ℕ). blocks_text a.part.now 0 n) e) (begin a.out.now a.at (blocks_text a.part.now 0 (blocks_of a.part.now))))

pub put_block-next-requires : goal.put_block-next-requires
put_block-next-requires c =
    let p = c.requires in
    let l = c.loop-block in
    (p.0, p.1, subst (λ (k : ℕ). l.block < k) c.blocks_of-blocks.ensures.0 c.loop-block-test.true, omega (arith, l.invariant.0, l.invariant.1, l.invariant.2, l.invariant.3))

pub loop-block-preserved : goal.loop-block-preserved
loop-block-preserved c =
    let a = c.args in
    let l = c.loop-block in
    let t = c.loop-block-test in (
      omega (arith, t.true),
      l.invariant.1,
      l.invariant.2,
      omega (arith, c.put_block-next.ensures.1, l.invariant.3),
      put_on
          (blocks_text a.part.now (l.block + 1) (c.blocks_of-blocks.result - (l.block + 1)))
          (left_is (block_left a.part.now l.block c.blocks_of-blocks.result t.true) l.invariant.4)
          c.put_block-next.ensures.0,
    )

pub put_behind-requires : goal.put_behind-requires
put_behind-requires c =
    let p = c.requires in
    let l = c.loop-block in
    (p.0, omega (arith, l.invariant.0, l.invariant.1, l.invariant.2, l.invariant.3))

pub shape_of-out : goal.shape_of-out
shape_of-out c = same_end c.loop-block.invariant.4 c.put_behind.ensures.0

pub returns : goal.returns
returns c =
    let a = c.args in
    let l = c.loop-block in (
      put_all (put_on [] (left_is (blocks_done a.part.now l.block c.blocks_of-blocks.result c.loop-block-test.false) l.invariant.4) c.put_behind.ensures.0),
      omega (arith, c.put_behind.ensures.1, l.invariant.0, l.invariant.1, l.invariant.3),
    )
