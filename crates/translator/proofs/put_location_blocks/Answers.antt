-- `translator::put_location_blocks` meets its contract. Assumes nothing.
use mathlib.Core.Path.{◌≡◌, sym, ap, subst}
use Rattle.model.specs.Lists.{be16}
use Prim.Native.Nat.{◌+◌, ◌-◌, ◌*◌, ◌/◌}
use native.Mathlib.Omega.{arith}
use Rattle.model.specs.Reader.{byte}
use Rattle.model.specs.Program.{location_block}
use Rattle.translator.specs.Front.{arcs_place, front_component}
use Rattle.translator.specs.Laid.{Ready, Laid}
use Rattle.blocks.proofs.Runs.{put_is, room_is}
use Rattle.translator.proofs.Laying.{lay_begin, lay_is, lay_end, lay_long, start_room, block_room, lay_on, aligned_here, aligned_on, all_locations, locations_ahead, locations_gone, location_block_is, location-fits, left_there, arcs_there}
use Rattle.translator.proofs.put_location_blocks.Goals as goal

pub bounds-component-2 : goal.bounds-component-2
bounds-component-2 c = omega (arith, c.requires.0.locations)

pub loop-here-init : goal.loop-here-init
loop-here-init c =
    let a = c.args in
    let p = a.component.now in
    let z : byte p 2 - 0 ≡ byte p 2 = omega arith in
    let y : (a.first - a.first) / 4 ≡ 0 = omega arith in
    let r = subst (λ l. Ready a.out.now 0 a.starts a.first l) (sym (all_locations a.budgets p)) c.requires.1 in
    (omega arith, aligned_here a.first, rw (z, y) (lay_begin r))

pub overflow_add-wide : goal.overflow_add-wide
overflow_add-wide c = omega (arith, c.wide-in-loop-here.ensures)

pub slice_bounds-location_at-count : goal.slice_bounds-location_at-count
slice_bounds-location_at-count c =
    let args = c.args in
    let loop = c.loop-here in
    let pre = c.requires in
    let loop-test = c.loop-here-test in
    omega (arith, location-fits args.budgets args.component.now loop.here (7 + c.wide-in-loop-here.result * 3) pre.0 loop-test.true (omega (arith, c.wide-in-loop-here.ensures.0)))

pub slice_bounds-location_at-start : goal.slice_bounds-location_at-start
slice_bounds-location_at-start c =
    let args = c.args in
    let loop = c.loop-here in
    let pre = c.requires in
    let loop-test = c.loop-here-test in
    omega (arith, location-fits args.budgets args.component.now loop.here (7 + c.wide-in-loop-here.result * 3) pre.0 loop-test.true (omega (arith, c.wide-in-loop-here.ensures.0)))

pub location_at-l-requires : goal.location_at-l-requires
location_at-l-requires c =
    let args = c.args in
    let loop = c.loop-here in
    let pre = c.requires in
    let loop-test = c.loop-here-test in
    left_there args.component.now (7 + c.wide-in-loop-here.result * 3) 3 (location-fits args.budgets args.component.now loop.here (7 + c.wide-in-loop-here.result * 3) pre.0 loop-test.true (omega (arith, c.wide-in-loop-here.ensures.0)))

pub statements_between-requires : goal.statements_between-requires
statements_between-requires c =
    let p = c.args.component.now in
    let l = c.loop-here in
    let h = lay_is (locations_ahead c.args.budgets p l.here (byte p 2) c.loop-here-test.true) l.invariant.2 in
    (l.invariant.1.behind, (start_room h).1)

pub put_word-place-requires : goal.put_word-place-requires
put_word-place-requires c =
    let p = c.args.component.now in
    let l = c.loop-here in
    let h = lay_is (locations_ahead c.args.budgets p l.here (byte p 2) c.loop-here-test.true) l.invariant.2 in
    (start_room h).0

pub slice_bounds-put_location_block-count : goal.slice_bounds-put_location_block-count
slice_bounds-put_location_block-count c =
    let pre = c.requires in
    omega (arith, pre.0.locations, c.wide.ensures.0)

pub slice_bounds-put_location_block-start : goal.slice_bounds-put_location_block-start
slice_bounds-put_location_block-start c =
    let pre = c.requires in
    omega (arith, pre.0.locations, c.wide.ensures.0)

pub bounds-component-6 : goal.bounds-component-6
bounds-component-6 c =
    let pre = c.requires in
    omega (arith, pre.0.locations)

pub put_location_block-at-requires : goal.put_location_block-at-requires
put_location_block-at-requires c =
    let args = c.args in
    let loop = c.loop-here in
    let loop-test = c.loop-here-test in
    let pre = c.requires in
    let p = args.component.now in
    let l = loop in
    let h = lay_is (locations_ahead args.budgets p l.here (byte p 2) loop-test.true) l.invariant.2 in
    let d : 7 + c.wide-in-loop-here.result * 3 ≡ 7 + l.here * 3 = omega (arith, c.wide-in-loop-here.ensures.0) in
    let e : 7 + c.wide.result * 3 ≡ arcs_place p = omega (arith, c.wide.ensures.0) in
    let q = location_block_is args.budgets p l.here (7 + c.wide-in-loop-here.result * 3) (7 + c.wide.result * 3) c.location_at-l.result loop-test.true d e c.location_at-l.ensures in
    (arcs_there args.budgets p (7 + c.wide.result * 3) e pre.0, room_is c.put_word-place.new.out l.at (sym q) (block_room h (put_is (ap be16 c.statements_between.ensures) c.put_word-place.ensures)))

pub loop-here-preserved : goal.loop-here-preserved
loop-here-preserved c =
    let args = c.args in
    let loop = c.loop-here in
    let loop-test = c.loop-here-test in
    let p = args.component.now in
    let l = loop in
    let h = lay_is (locations_ahead args.budgets p l.here (byte p 2) loop-test.true) l.invariant.2 in
    let d : 7 + c.wide-in-loop-here.result * 3 ≡ 7 + l.here * 3 = omega (arith, c.wide-in-loop-here.ensures.0) in
    let e : 7 + c.wide.result * 3 ≡ arcs_place p = omega (arith, c.wide.ensures.0) in
    let q = location_block_is args.budgets p l.here (7 + c.wide-in-loop-here.result * 3) (7 + c.wide.result * 3) c.location_at-l.result loop-test.true d e c.location_at-l.ensures in
    let b = put_is q c.put_location_block-at.ensures in
    let t = aligned_on (location_block (front_component args.budgets p) l.here) l.invariant.1 b in
    (omega arith, t.0, lay_on h (put_is (ap be16 c.statements_between.ensures) c.put_word-place.ensures) b t.1)

pub shape_of-out : goal.shape_of-out
shape_of-out c = lay_long c.loop-here.invariant.2

pub returns : goal.returns
returns c =
    let args = c.args in
    let loop = c.loop-here in
    let loop-test = c.loop-here-test in
    let p = args.component.now in
    let l = loop in
    subst (λ k. Laid args.out.now 0 args.starts args.first k l.at l.out) (all_locations args.budgets p) (lay_end (lay_is (locations_gone args.budgets p l.here (byte p 2) loop-test.false) l.invariant.2))
