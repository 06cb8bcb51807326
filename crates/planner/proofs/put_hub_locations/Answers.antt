-- `planner::put_hub_locations` meets its contract. Assumes nothing.
use Prim.Native.Nat.{◌+◌}
use native.Mathlib.Omega.{arith}
use Rattle.model.specs.Bytes.{location_bytes}
use Rattle.slot_plan.specs.Plan.{hear_to, until}
use Rattle.planner.proofs.Runs.{put_is, put_begin, left_is, put_on, put_all, putting_long}
use Rattle.planner.proofs.Pieces.{left, left_all, left_next, left_none, heard_bytes}
use Rattle.planner.proofs.put_hub_locations.Goals as goal

pub loop-i-init : goal.loop-i-init
loop-i-init c =
    let e = c in
    (omega arith, omega arith, put_begin e.args.out.now e.args.from _)

pub slot_begin-requires : goal.slot_begin-requires
slot_begin-requires c = (c.requires.0, c.loop-i-test.true)

pub overflow_add-slot_begin : goal.overflow_add-slot_begin
overflow_add-slot_begin c = omega (arith, c.slot_begin.ensures.1, c.requires.0.most_period)

pub overflow_add-slot_begin-in-loop-i : goal.overflow_add-slot_begin-in-loop-i
overflow_add-slot_begin-in-loop-i c = omega (arith, c.slot_begin.ensures.1, c.requires.0.most_period)

pub overflow_add-slot_begin-in-loop-i-2 : goal.overflow_add-slot_begin-in-loop-i-2
overflow_add-slot_begin-in-loop-i-2 c = omega (arith, c.slot_begin.ensures.1, c.requires.0.most_period)

pub put_location-at-requires : goal.put_location-at-requires
put_location-at-requires c =
    let e = c in
    let l = c.loop-i in
    (omega (arith, e.requires.1, l.invariant.1, putting_long l.invariant.2, c.loop-i-test.true), omega (arith, c.slot_begin.ensures.1, e.requires.0.most_period))

pub loop-i-preserved : goal.loop-i-preserved
loop-i-preserved c =
    let e = c in
    let l = c.loop-i in
    let slots = e.args.slots in
    (omega (arith, c.loop-i-test.true), omega (arith, l.invariant.1, c.put_location-at.ensures.ends), put_on (left location_bytes (λ k. until (hear_to slots k)) slots.probes (l.i + 1)) (left_is (left_next location_bytes (λ k. until (hear_to slots k)) slots.probes l.i c.loop-i-test.true) l.invariant.2) (put_is (heard_bytes slots l.i c.slot_begin.result c.slot_begin.ensures.0) c.put_location-at.ensures))

pub shape_of-out : goal.shape_of-out
shape_of-out c = putting_long c.loop-i.invariant.2

pub returns : goal.returns
returns c =
    let e = c in
    let l = c.loop-i in
    let slots = e.args.slots in
    put_is (left_all location_bytes (λ k. until (hear_to slots k)) slots.probes) (put_all (left_is (left_none location_bytes (λ k. until (hear_to slots k)) slots.probes l.i c.loop-i-test.false) l.invariant.2))
