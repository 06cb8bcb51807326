-- `blocks::put_location_block` meets its contract. Assumes nothing.
use mathlib.Core.Path.{◌≡◌}
use Prim.Native.Nat.{◌+◌, ◌-◌}
use native.Mathlib.Omega.{arith}
use lib.ListN.{drop}
use mathlib.Core.List.{[]}
use Rattle.blocks.proofs.Runs.{begin, put_on, put_all, room_left, same_end}
use Rattle.blocks.proofs.Arcs.{edge_whole, edge-head, edge_on, edges_on}
use Rattle.blocks.proofs.Blocks.{block_from, some_left, trial_room, trial_put, take_left}
use Rattle.blocks.proofs.put_location_block.Goals as goal

pub loop-e-init : goal.loop-e-init
loop-e-init c =
    let args = c.args in
    let pre = c.requires in
    let z : args.count - 0 ≡ args.count = omega arith in
    (omega arith, omega arith, rw z pre.0, rw z (begin args.out.now args.at (block_from args.budgets args.location args.here 0 args.count args.bytes.now)))

pub put_trial_from-next-requires : goal.put_trial_from-next-requires
put_trial_from-next-requires c =
    let args = c.args in
    let loop = c.loop-e in
    let loop-test = c.loop-e-test in
    let pre = c.requires in
    (edge-head args.budgets args.bytes.now loop.place (args.count - loop.e) (some_left args.budgets args.location args.here loop.e args.count args.bytes.now loop.place loop-test.true loop.invariant.3) loop.invariant.1 loop.invariant.2, edge_whole args.budgets args.bytes.now loop.place (args.count - loop.e) (some_left args.budgets args.location args.here loop.e args.count args.bytes.now loop.place loop-test.true loop.invariant.3) loop.invariant.1 loop.invariant.2, trial_room args.budgets args.location args.here loop.e args.count args.bytes.now loop.place loop-test.true loop.invariant.3 pre.1)

pub arc_length-place-requires : goal.arc_length-place-requires
arc_length-place-requires c =
    let args = c.args in
    let loop = c.loop-e in
    let loop-test = c.loop-e-test in
    edge-head args.budgets args.bytes.now loop.place (args.count - loop.e) (some_left args.budgets args.location args.here loop.e args.count args.bytes.now loop.place loop-test.true loop.invariant.3) loop.invariant.1 loop.invariant.2

pub overflow_add-place : goal.overflow_add-place
overflow_add-place c =
    let args = c.args in
    let loop = c.loop-e in
    let loop-test = c.loop-e-test in
    omega (arith, edge_on args.budgets args.bytes.now loop.place (args.count - loop.e) (some_left args.budgets args.location args.here loop.e args.count args.bytes.now loop.place loop-test.true loop.invariant.3) loop.invariant.1 loop.invariant.2 c.arc_length-place.result c.arc_length-place.ensures)

pub loop-e-preserved : goal.loop-e-preserved
loop-e-preserved c =
    let args = c.args in
    let loop = c.loop-e in
    let loop-test = c.loop-e-test in
    let k : args.count - loop.e - 1 ≡ args.count - (loop.e + 1) = omega arith in (
      omega arith,
      edge_on args.budgets args.bytes.now loop.place (args.count - loop.e) (some_left args.budgets args.location args.here loop.e args.count args.bytes.now loop.place loop-test.true loop.invariant.3) loop.invariant.1 loop.invariant.2 c.arc_length-place.result c.arc_length-place.ensures,
      rw (← k) (edges_on args.budgets args.bytes.now loop.place (args.count - loop.e) (some_left args.budgets args.location args.here loop.e args.count args.bytes.now loop.place loop-test.true loop.invariant.3) loop.invariant.1 loop.invariant.2 c.arc_length-place.result c.arc_length-place.ensures),
      trial_put args.budgets args.location args.here loop.e args.count args.bytes.now loop.place loop-test.true loop.invariant.3 c.arc_length-place.result c.arc_length-place.ensures c.put_trial_from-next.ensures,
    )

pub put_quad-requires : goal.put_quad-requires
put_quad-requires c =
    let args = c.args in
    let loop = c.loop-e in
    let loop-test = c.loop-e-test in
    let pre = c.requires in
    room_left (take_left args.budgets args.location args.here loop.e args.count (drop loop.place args.bytes.now) loop-test.false loop.invariant.3) pre.1

pub shape_of-out : goal.shape_of-out
shape_of-out c = same_end c.loop-e.invariant.3 c.put_quad.ensures

pub returns : goal.returns
returns c =
    let args = c.args in
    let loop = c.loop-e in
    let loop-test = c.loop-e-test in
    put_all (put_on [] (take_left args.budgets args.location args.here loop.e args.count (drop loop.place args.bytes.now) loop-test.false loop.invariant.3) c.put_quad.ensures)
