-- `listing_words::put_node` meets its contract. Assumes nothing.
use mathlib.Core.Path.{subst}
use Prim.Native.Nat.{ℕ, ◌≤◌, ◌<◌}
use native.Mathlib.Omega.{arith}
use lib.ListN.{length}
use Rattle.blocks.proofs.Runs.{put_is, put_join}
use Rattle.listing_words.proofs.Order.{node_short, node_long, no_counts}
use Rattle.listing_words.proofs.put_node.Goals as goal

pub returns-then-part-lt6 : goal.returns-then-part-lt6
returns-then-part-lt6 c =
    let a = c.args in
    (put_is (node_short a.node a.part.now (no_counts a.part.now c.if-part-lt6.true)) c.put_node_head-next.ensures.0, omega (arith, c.put_node_head-next.ensures.1))

pub returns-then-part-code_at : goal.returns-then-part-code_at
returns-then-part-code_at c =
    let a = c.args in
    let s = subst (λ (k : ℕ). length a.part.now < k) c.code_at.ensures.0 c.if-part-code_at.true in
    (put_is (node_short a.node a.part.now s) c.put_node_head-next.ensures.0, omega (arith, c.put_node_head-next.ensures.1))

pub returns : goal.returns
returns c =
    let a = c.args in
    let s = subst (λ (k : ℕ). k ≤ length a.part.now) c.code_at.ensures.0 c.if-part-code_at.false in
    (put_is (node_long a.node a.part.now s) (put_join c.put_node_head-next.ensures.0 c.put_blocks.ensures.0), omega (arith, c.put_node_head-next.ensures.1, c.put_blocks.ensures.1))
