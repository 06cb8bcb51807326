-- `translator::node_length` meets its contract. Assumes nothing.
use mathlib.Core.Path.{◌≡◌, refl}
use Prim.Native.Nat.{◌+◌, ◌-◌, ◌*◌, ◌≤◌, ◌<◌}
use native.Mathlib.Omega.{arith}
use lib.ListN.{length, take, drop}
use Rattle.model.specs.Reader.{byte}
use Rattle.model.specs.Places.{arc_length}
use Rattle.model.specs.Program.{node_bytes}
use Rattle.translator.specs.Front.{arcs_place, front_component}
use Rattle.blocks.proofs.Arcs.{edge-head, edge_whole, edge_on, edges_on}
use Rattle.translator.proofs.Sizes.{share_counted, no_shares, node_shares}
use Rattle.translator.proofs.node_length.Goals as goal

pub bounds-component-2 : goal.bounds-component-2
bounds-component-2 c = omega (arith, c.requires.0.locations)

pub bounds-component-4 : goal.bounds-component-4
bounds-component-4 c = omega (arith, c.requires.0.locations)

pub bounds-component-6 : goal.bounds-component-6
bounds-component-6 c = omega (arith, c.requires.0.locations)

pub loop-init : goal.loop-init
loop-init c =
    let args = c.args in
    let pre = c.requires in
    let p = args.component.now in
    let e : 7 + c.wide-n.result * 3 ≡ arcs_place p = omega (arith, c.wide-n.ensures.0) in
    let z : byte p 6 - 0 ≡ byte p 6 = omega arith in
    rw z (omega (arith, pre.0.locations), rw e pre.0.arcs, node_shares args.budgets p c.wide-n.result (7 + c.wide-n.result * 3) pre.1 c.wide-n.ensures.0 refl)

pub arc_share-long-requires : goal.arc_share-long-requires
arc_share-long-requires c =
    let args = c.args in
    let loop = c.loop in
    let more : 0 < byte args.component.now 6 - c.loop.counter = omega (arith, c.loop-test.true) in
    (edge-head args.budgets args.component.now loop.edge (byte args.component.now 6 - c.loop.counter) more loop.invariant.0 loop.invariant.1, edge_whole args.budgets args.component.now loop.edge (byte args.component.now 6 - c.loop.counter) more loop.invariant.0 loop.invariant.1)

pub overflow_add-long-in-loop : goal.overflow_add-long-in-loop
overflow_add-long-in-loop c =
    let args = c.args in
    let loop = c.loop in
    let more : 0 < byte args.component.now 6 - c.loop.counter = omega (arith, c.loop-test.true) in
    let pre = c.requires in
    omega (arith, (share_counted args.budgets (byte args.component.now 4) args.component.now loop.edge (byte args.component.now 6 - c.loop.counter) loop.long (length (node_bytes (front_component args.budgets args.component.now))) c.arc_share-long.result (arc_length args.budgets (take (length args.component.now - loop.edge) (drop loop.edge args.component.now))) more loop.invariant.2 c.arc_share-long.ensures refl).0, pre.2)

pub arc_length-edge-requires : goal.arc_length-edge-requires
arc_length-edge-requires c =
    let args = c.args in
    let loop = c.loop in
    let more : 0 < byte args.component.now 6 - c.loop.counter = omega (arith, c.loop-test.true) in
    edge-head args.budgets args.component.now loop.edge (byte args.component.now 6 - c.loop.counter) more loop.invariant.0 loop.invariant.1

pub overflow_add-edge-in-loop : goal.overflow_add-edge-in-loop
overflow_add-edge-in-loop c =
    let args = c.args in
    let loop = c.loop in
    let more : 0 < byte args.component.now 6 - c.loop.counter = omega (arith, c.loop-test.true) in
    omega (arith, edge_on args.budgets args.component.now loop.edge (byte args.component.now 6 - c.loop.counter) more loop.invariant.0 loop.invariant.1 c.arc_length-edge.result c.arc_length-edge.ensures)

pub loop-preserved : goal.loop-preserved
loop-preserved c =
    let args = c.args in
    let loop = c.loop in
    let more : 0 < byte args.component.now 6 - c.loop.counter = omega (arith, c.loop-test.true) in
    let fewer : byte args.component.now 6 - c.loop.counter - 1 ≡ byte args.component.now 6 - (c.loop.counter + 1) = omega arith in
    rw (← fewer) (
      edge_on args.budgets args.component.now loop.edge (byte args.component.now 6 - c.loop.counter) more loop.invariant.0 loop.invariant.1 c.arc_length-edge.result c.arc_length-edge.ensures,
      edges_on args.budgets args.component.now loop.edge (byte args.component.now 6 - c.loop.counter) more loop.invariant.0 loop.invariant.1 c.arc_length-edge.result c.arc_length-edge.ensures,
      (share_counted args.budgets (byte args.component.now 4) args.component.now loop.edge (byte args.component.now 6 - c.loop.counter) loop.long (length (node_bytes (front_component args.budgets args.component.now))) c.arc_share-long.result c.arc_length-edge.result more loop.invariant.2 c.arc_share-long.ensures c.arc_length-edge.ensures).1,
    )

pub returns : goal.returns
returns c =
    let loop = c.loop in
    let args = c.args in
    let gone : byte args.component.now 6 - c.loop.counter ≤ 0 = omega (arith, c.loop-test.false) in
    omega (arith, loop.invariant.2, no_shares args.budgets (byte args.component.now 4) (byte args.component.now 6 - c.loop.counter) (drop loop.edge args.component.now) gone)
