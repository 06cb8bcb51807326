-- `translator::put_edge_blocks` meets its contract. Assumes nothing.
use mathlib.Core.Path.{◌≡◌, ap}
use Rattle.model.specs.Lists.{be16}
use Prim.Native.Nat.{◌+◌, ◌-◌, ◌≤◌, ◌<◌}
use native.Mathlib.Omega.{arith}
use lib.ListN.{drop}
use Rattle.model.specs.Places.{arc_at}
use Rattle.model.specs.Program.{edge_block_of}
use Rattle.blocks.proofs.Runs.{put_is}
use Rattle.translator.proofs.Laying.{lay_begin, lay_is, lay_end, lay_long, start_room, block_room, lay_on, aligned_on, edges_ahead, edges_gone, edge_room, edge_put, edges_behind}
use Rattle.blocks.proofs.Arcs.{edge_whole, edge-head, edge_on, edges_on}
use Rattle.translator.proofs.put_edge_blocks.Goals as goal

pub loop-init : goal.loop-init
loop-init c = let z : c.args.count - 0 ≡ c.args.count = omega arith in rw z (omega arith, c.requires.0, c.requires.1, lay_begin c.requires.2)

pub statements_between-requires : goal.statements_between-requires
statements_between-requires c =
    let args = c.args in
    let loop = c.loop in
    let more : 0 < args.count - c.loop.counter = omega (arith, c.loop-test.true) in
    let s = args.bytes.now in
    let l = loop in
    let h = lay_is (edges_ahead args.budgets args.clocks (args.count - c.loop.counter) (drop l.edge s) more) l.invariant.3 in
    (l.invariant.2.behind, (start_room h).1)

pub put_word-place-requires : goal.put_word-place-requires
put_word-place-requires c =
    let args = c.args in
    let loop = c.loop in
    let more : 0 < args.count - c.loop.counter = omega (arith, c.loop-test.true) in
    let s = args.bytes.now in
    let l = loop in
    let h = lay_is (edges_ahead args.budgets args.clocks (args.count - c.loop.counter) (drop l.edge s) more) l.invariant.3 in
    (start_room h).0

pub put_edge_block-at-requires : goal.put_edge_block-at-requires
put_edge_block-at-requires c =
    let args = c.args in
    let loop = c.loop in
    let more : 0 < args.count - c.loop.counter = omega (arith, c.loop-test.true) in
    let s = args.bytes.now in
    let l = loop in
    let h = lay_is (edges_ahead args.budgets args.clocks (args.count - c.loop.counter) (drop l.edge s) more) l.invariant.3 in
    (edge-head args.budgets args.bytes.now loop.edge (args.count - c.loop.counter) more loop.invariant.0 loop.invariant.1, edge_whole args.budgets args.bytes.now loop.edge (args.count - c.loop.counter) more loop.invariant.0 loop.invariant.1, edge_room args.budgets s l.edge args.clocks c.put_word-place.new.out l.at (block_room h (put_is (ap be16 c.statements_between.ensures) c.put_word-place.ensures)))

pub arc_length-edge-requires : goal.arc_length-edge-requires
arc_length-edge-requires c =
    let args = c.args in
    let loop = c.loop in
    let more : 0 < args.count - c.loop.counter = omega (arith, c.loop-test.true) in
    edge-head args.budgets args.bytes.now loop.edge (args.count - c.loop.counter) more loop.invariant.0 loop.invariant.1

pub overflow_add-edge : goal.overflow_add-edge
overflow_add-edge c =
    let args = c.args in
    let loop = c.loop in
    let more : 0 < args.count - c.loop.counter = omega (arith, c.loop-test.true) in
    omega (arith, edge_on args.budgets args.bytes.now loop.edge (args.count - c.loop.counter) more loop.invariant.0 loop.invariant.1 c.arc_length-edge.result c.arc_length-edge.ensures)

pub loop-preserved : goal.loop-preserved
loop-preserved c =
    let args = c.args in
    let loop = c.loop in
    let more : 0 < args.count - c.loop.counter = omega (arith, c.loop-test.true) in
    let s = args.bytes.now in
    let l = loop in
    let h = lay_is (edges_ahead args.budgets args.clocks (args.count - c.loop.counter) (drop l.edge s) more) l.invariant.3 in
    let b = edge_put args.budgets s l.edge args.clocks c.put_edge_block-at.ensures in
    let t = aligned_on (edge_block_of args.clocks (arc_at args.budgets (drop l.edge s))) l.invariant.2 b in
    let fewer : args.count - c.loop.counter - 1 ≡ args.count - (c.loop.counter + 1) = omega arith in
    rw (← fewer) (
      edge_on args.budgets args.bytes.now loop.edge (args.count - c.loop.counter) more loop.invariant.0 loop.invariant.1 c.arc_length-edge.result c.arc_length-edge.ensures,
      edges_on args.budgets args.bytes.now loop.edge (args.count - c.loop.counter) more loop.invariant.0 loop.invariant.1 c.arc_length-edge.result c.arc_length-edge.ensures,
      t.0,
      lay_is (edges_behind args.budgets s l.edge args.clocks ((args.count - c.loop.counter) - 1) c.arc_length-edge.result c.arc_length-edge.ensures) (lay_on h (put_is (ap be16 c.statements_between.ensures) c.put_word-place.ensures) b t.1),
    )

pub shape_of-out : goal.shape_of-out
shape_of-out c = lay_long c.loop.invariant.3

pub returns : goal.returns
returns c =
    let args = c.args in
    let loop = c.loop in
    let gone : args.count - c.loop.counter ≤ 0 = omega (arith, c.loop-test.false) in
    lay_end (lay_is (edges_gone args.budgets args.clocks (args.count - c.loop.counter) (drop loop.edge args.bytes.now) gone) loop.invariant.3)
