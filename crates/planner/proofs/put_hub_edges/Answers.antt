-- `planner::put_hub_edges` meets its contract. Assumes nothing.
use Prim.Native.Nat.{◌+◌}
use native.Mathlib.Omega.{arith}
use Rattle.model.specs.Bytes.{arc_bytes}
use Rattle.slot_plan.specs.Plan.{hear_arc}
use Rattle.planner.proofs.Runs.{put_is, put_begin, left_is, put_on, put_all, putting_long}
use Rattle.planner.proofs.Pieces.{left, left_all, left_next, left_none, hear_bytes, hear_length}
use Rattle.planner.proofs.put_hub_edges.Goals as goal

pub loop-i-init : goal.loop-i-init
loop-i-init c =
    let e = c in
    (omega arith, omega arith, put_begin e.args.out.now e.args.from _)

pub overflow_cast-i : goal.overflow_cast-i
overflow_cast-i c = omega (arith, c.loop-i-test.true, c.requires.0.most_probes)

pub slot_begin-requires : goal.slot_begin-requires
slot_begin-requires c = (c.requires.0, c.loop-i-test.true)

pub put_receive_edge-at-requires : goal.put_receive_edge-at-requires
put_receive_edge-at-requires c =
    let e = c in
    let l = c.loop-i in
    (omega (arith, e.requires.1, l.invariant.1, putting_long l.invariant.2, c.loop-i-test.true), omega (arith, c.slot_begin.ensures.1, e.requires.0.most_period), omega (arith, c.loop-i-test.true, e.requires.0.most_probes))

pub loop-i-preserved : goal.loop-i-preserved
loop-i-preserved c =
    let e = c in
    let l = c.loop-i in
    let slots = e.args.slots in
    let edge = put_is (hear_bytes slots l.i c.slot_begin.result c.slot_begin.ensures.0) c.put_receive_edge-at.ensures in
    (omega (arith, c.loop-i-test.true), omega (arith, l.invariant.1, edge.ends, hear_length slots l.i), put_on (left arc_bytes (hear_arc slots) slots.probes (l.i + 1)) (left_is (left_next arc_bytes (hear_arc slots) slots.probes l.i c.loop-i-test.true) l.invariant.2) edge)

pub shape_of-out : goal.shape_of-out
shape_of-out c = putting_long c.loop-i.invariant.2

pub returns : goal.returns
returns c =
    let e = c in
    let l = c.loop-i in
    let slots = e.args.slots in
    put_is (left_all arc_bytes (hear_arc slots) slots.probes) (put_all (left_is (left_none arc_bytes (hear_arc slots) slots.probes l.i c.loop-i-test.false) l.invariant.2))
