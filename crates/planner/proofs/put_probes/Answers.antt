-- `planner::put_probes` meets its contract. Assumes nothing.
use Prim.Native.Nat.{◌+◌}
use native.Mathlib.Omega.{arith}
use Rattle.model.specs.Bytes.{component_bytes}
use Rattle.slot_plan.specs.Plan.{probe}
use Rattle.planner.proofs.Runs.{put_is, put_begin, left_is, put_on, put_all, putting_long}
use Rattle.planner.proofs.Pieces.{left, left_all, left_next, left_none, probe_length}
use Rattle.planner.proofs.put_probes.Goals as goal

pub loop-i-init : goal.loop-i-init
loop-i-init c =
    let e = c in
    (omega arith, omega arith, put_begin e.args.out.now e.args.from _)

pub put_probe-at-requires : goal.put_probe-at-requires
put_probe-at-requires c =
    let e = c in
    let l = c.loop-i in
    (e.requires.0, c.loop-i-test.true, omega (arith, e.requires.1, l.invariant.1, putting_long l.invariant.2, c.loop-i-test.true))

pub loop-i-preserved : goal.loop-i-preserved
loop-i-preserved c =
    let e = c in
    let l = c.loop-i in
    let slots = e.args.slots in
    (omega (arith, c.loop-i-test.true), omega (arith, l.invariant.1, c.put_probe-at.ensures.ends, probe_length slots l.i), put_on (left component_bytes (probe slots) slots.probes (l.i + 1)) (left_is (left_next component_bytes (probe slots) slots.probes l.i c.loop-i-test.true) l.invariant.2) c.put_probe-at.ensures)

pub shape_of-out : goal.shape_of-out
shape_of-out c = putting_long c.loop-i.invariant.2

pub returns : goal.returns
returns c =
    let e = c in
    let l = c.loop-i in
    let slots = e.args.slots in
    put_is (left_all component_bytes (probe slots) slots.probes) (put_all (left_is (left_none component_bytes (probe slots) slots.probes l.i c.loop-i-test.false) l.invariant.2))
