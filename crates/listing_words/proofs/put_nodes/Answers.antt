-- `listing_words::put_nodes` meets its contract. Assumes nothing.
use mathlib.Core.Path.{◌≡◌, ap₂}
use Prim.Native.Nat.{◌+◌, ◌-◌}
use native.Mathlib.Omega.{arith}
use Rattle.model.specs.Program.{part_of}
use Rattle.blocks.proofs.Runs.{begin, left_is, put_is, put_on, put_all, writing_long}
use Rattle.listing_text.specs.ListingText.{node_text, nodes_text}
use Rattle.listing_words.proofs.Order.{node_left, nodes_done, no_longer}
use Rattle.listing_words.proofs.put_nodes.Goals as goal

pub loop-node-init : goal.loop-node-init
loop-node-init c =
    let a = c.args in
    let z : a.nodes - 0 ≡ a.nodes = omega arith in
    (omega arith, omega arith, omega arith, rw z (begin a.out.now a.at (nodes_text a.program.now 0 a.nodes)))

pub put_node-next-requires : goal.put_node-next-requires
put_node-next-requires c =
    let a = c.args in
    let p = c.requires in
    let l = c.loop-node in
    let range = part_of a.program.now l.node in
    (no_longer range.long range.start a.program.now c.part.ensures p.0, omega (arith, p.1, l.invariant.0, l.invariant.1, l.invariant.2))

pub loop-node-preserved : goal.loop-node-preserved
loop-node-preserved c =
    let a = c.args in
    let l = c.loop-node in
    let t = c.loop-node-test in (
      omega (arith, t.true),
      l.invariant.1,
      omega (arith, c.put_node-next.ensures.1, l.invariant.2),
      put_on
          (nodes_text a.program.now (l.node + 1) (a.nodes - (l.node + 1)))
          (left_is (node_left a.program.now l.node a.nodes t.true) l.invariant.3)
          (put_is (ap₂ node_text c.from.ensures c.part.ensures) c.put_node-next.ensures.0),
    )

pub shape_of-out : goal.shape_of-out
shape_of-out c = writing_long c.loop-node.invariant.3

pub returns : goal.returns
returns c =
    let a = c.args in
    let l = c.loop-node in
    put_all (left_is (nodes_done a.program.now l.node a.nodes c.loop-node-test.false) l.invariant.3)
