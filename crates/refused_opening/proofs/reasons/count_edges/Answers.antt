-- `refused_opening::reasons::count_edges` meets its contract. Assumes nothing.
use mathlib.Core.Path.{◌≡◌, ap, ◌∙◌}
use Prim.Native.Nat.{◌+◌, ◌≤◌, ◌<◌}
use native.Mathlib.Omega.{arith}
use lib.ListN.{length}
use Rattle.model.specs.Table.{arc_of}
use Rattle.model.specs.Places.{component_in}
use Rattle.window.specs.Views.{entry_of, standing_of}
use Rattle.window.proofs.Rests.{tail_long}
use Rattle.window.proofs.Ready.{Entered, entered, first_place, first_within, edge_in, arc-head, arc_asked, arc_is, next_place, next_within}
use Rattle.refused_opening.specs.Counting.{leaves, fails, shut}
use Rattle.refused_opening.proofs.Counted.{count_first, count_on, count_all, once}
use Rattle.refused_opening.proofs.reasons.count_edges.Goals as goal

pub budgeted-budgets-requires : goal.budgeted-budgets-requires
budgeted-budgets-requires c =
    let known : Entered c.args.table.now c.args.c c.args.start =
    (let s = c in entered s.args.table.now s.args.c s.args.start (λ i. (c.type_inv.table i).fits) s.requires.0 s.requires.1 s.requires.2) in
    omega (arith, known.stands.fits)

pub overflow_add-start : goal.overflow_add-start
overflow_add-start c =
    let known : Entered c.args.table.now c.args.c c.args.start =
    (let s = c in entered s.args.table.now s.args.c s.args.start (λ i. (c.type_inv.table i).fits) s.requires.0 s.requires.1 s.requires.2) in
    omega (arith, known.stands.fits)

pub bounds-table-start : goal.bounds-table-start
bounds-table-start c =
    let known : Entered c.args.table.now c.args.c c.args.start =
    (let s = c in entered s.args.table.now s.args.c s.args.start (λ i. (c.type_inv.table i).fits) s.requires.0 s.requires.1 s.requires.2) in
    omega (arith, known.stands.fits)

pub overflow_add-place : goal.overflow_add-place
overflow_add-place c =
    let known : Entered c.args.table.now c.args.c c.args.start =
    (let s = c in entered s.args.table.now s.args.c s.args.start (λ i. (c.type_inv.table i).fits) s.requires.0 s.requires.1 s.requires.2) in
    omega (arith, known.stands.fits)

pub overflow_add-start-2 : goal.overflow_add-start-2
overflow_add-start-2 c =
    let known : Entered c.args.table.now c.args.c c.args.start =
    (let s = c in entered s.args.table.now s.args.c s.args.start (λ i. (c.type_inv.table i).fits) s.requires.0 s.requires.1 s.requires.2) in
    omega (arith, known.stands.fits)

pub bounds-table-start-2 : goal.bounds-table-start-2
bounds-table-start-2 c =
    let known : Entered c.args.table.now c.args.c c.args.start =
    (let s = c in entered s.args.table.now s.args.c s.args.start (λ i. (c.type_inv.table i).fits) s.requires.0 s.requires.1 s.requires.2) in
    omega (arith, known.stands.fits)

pub overflow_add-place-2 : goal.overflow_add-place-2
overflow_add-place-2 c =
    let known : Entered c.args.table.now c.args.c c.args.start =
    (let s = c in entered s.args.table.now s.args.c s.args.start (λ i. (c.type_inv.table i).fits) s.requires.0 s.requires.1 s.requires.2) in
    let a = c.args in
    omega (arith, first_within a.table.now a.c a.start known, c.wide.ensures.0)

pub loop-init : goal.loop-init
loop-init c =
    let a = c.args in (
      first_place a.table.now a.start c.wide.result c.wide.ensures.0,
      omega (arith, c.none_counted-tally.ensures.0),
      omega (arith, c.none_counted-tally.ensures.1),
      omega (arith, c.none_counted-tally.ensures.2),
      count_first a.location (entry_of a.at) (component_in a.table.now a.c).arcs c.none_counted-tally.result c.none_counted-tally.ensures.0 c.none_counted-tally.ensures.1 c.none_counted-tally.ensures.2,
    )

pub slice_bounds-judge-count : goal.slice_bounds-judge-count
slice_bounds-judge-count c =
    let known : Entered c.args.table.now c.args.c c.args.start =
    (let s = c in entered s.args.table.now s.args.c s.args.start (λ i. (c.type_inv.table i).fits) s.requires.0 s.requires.1 s.requires.2) in
    let inside : c.loop.counter < length (component_in c.args.table.now c.args.c).arcs =
    (let a = c.args in
    edge_in a.table.now a.c a.start known c.loop.counter (omega (arith, c.loop-test.true, c.wide-count.ensures.0))) in
    let head : c.loop.place + 7 ≤ length c.args.table.now =
    (let a = c.args in
    arc-head a.table.now a.c a.start known c.loop.place c.loop.counter c.loop.invariant.0 inside) in
    omega (arith, head)

pub slice_bounds-judge-start : goal.slice_bounds-judge-start
slice_bounds-judge-start c =
    let known : Entered c.args.table.now c.args.c c.args.start =
    (let s = c in entered s.args.table.now s.args.c s.args.start (λ i. (c.type_inv.table i).fits) s.requires.0 s.requires.1 s.requires.2) in
    let inside : c.loop.counter < length (component_in c.args.table.now c.args.c).arcs =
    (let a = c.args in
    edge_in a.table.now a.c a.start known c.loop.counter (omega (arith, c.loop-test.true, c.wide-count.ensures.0))) in
    let head : c.loop.place + 7 ≤ length c.args.table.now =
    (let a = c.args in
    arc-head a.table.now a.c a.start known c.loop.place c.loop.counter c.loop.invariant.0 inside) in
    omega (arith, head)

pub judge-found-requires : goal.judge-found-requires
judge-found-requires c =
    let known : Entered c.args.table.now c.args.c c.args.start =
    (let s = c in entered s.args.table.now s.args.c s.args.start (λ i. (c.type_inv.table i).fits) s.requires.0 s.requires.1 s.requires.2) in
    let inside : c.loop.counter < length (component_in c.args.table.now c.args.c).arcs =
    (let a = c.args in
    edge_in a.table.now a.c a.start known c.loop.counter (omega (arith, c.loop-test.true, c.wide-count.ensures.0))) in
    let s = c in
    let l = c.loop in
    (arc_asked s.args.table.now s.args.c s.args.start known l.place l.counter l.invariant.0 inside _ c.budgeted-budgets.ensures, s.requires.3)

pub tallied-tally-requires : goal.tallied-tally-requires
tallied-tally-requires c =
    let known : Entered c.args.table.now c.args.c c.args.start =
    (let s = c in entered s.args.table.now s.args.c s.args.start (λ i. (c.type_inv.table i).fits) s.requires.0 s.requires.1 s.requires.2) in
    let inside : c.loop.counter < length (component_in c.args.table.now c.args.c).arcs =
    (let a = c.args in
    edge_in a.table.now a.c a.start known c.loop.counter (omega (arith, c.loop-test.true, c.wide-count.ensures.0))) in
    let l = c.loop in
    let m = known.most_arcs in
    (omega (arith, l.invariant.1, inside, m), omega (arith, l.invariant.2, inside, m), omega (arith, l.invariant.3, inside, m))

pub slice_bounds-arc_length-count : goal.slice_bounds-arc_length-count
slice_bounds-arc_length-count c =
    let known : Entered c.args.table.now c.args.c c.args.start =
    (let s = c in entered s.args.table.now s.args.c s.args.start (λ i. (c.type_inv.table i).fits) s.requires.0 s.requires.1 s.requires.2) in
    let inside : c.loop.counter < length (component_in c.args.table.now c.args.c).arcs =
    (let a = c.args in
    edge_in a.table.now a.c a.start known c.loop.counter (omega (arith, c.loop-test.true, c.wide-count.ensures.0))) in
    let head : c.loop.place + 7 ≤ length c.args.table.now =
    (let a = c.args in
    arc-head a.table.now a.c a.start known c.loop.place c.loop.counter c.loop.invariant.0 inside) in
    omega (arith, head)

pub slice_bounds-arc_length-start : goal.slice_bounds-arc_length-start
slice_bounds-arc_length-start c =
    let known : Entered c.args.table.now c.args.c c.args.start =
    (let s = c in entered s.args.table.now s.args.c s.args.start (λ i. (c.type_inv.table i).fits) s.requires.0 s.requires.1 s.requires.2) in
    let inside : c.loop.counter < length (component_in c.args.table.now c.args.c).arcs =
    (let a = c.args in
    edge_in a.table.now a.c a.start known c.loop.counter (omega (arith, c.loop-test.true, c.wide-count.ensures.0))) in
    let head : c.loop.place + 7 ≤ length c.args.table.now =
    (let a = c.args in
    arc-head a.table.now a.c a.start known c.loop.place c.loop.counter c.loop.invariant.0 inside) in
    omega (arith, head)

pub arc_length-place-requires : goal.arc_length-place-requires
arc_length-place-requires c =
    let known : Entered c.args.table.now c.args.c c.args.start =
    (let s = c in entered s.args.table.now s.args.c s.args.start (λ i. (c.type_inv.table i).fits) s.requires.0 s.requires.1 s.requires.2) in
    let inside : c.loop.counter < length (component_in c.args.table.now c.args.c).arcs =
    (let a = c.args in
    edge_in a.table.now a.c a.start known c.loop.counter (omega (arith, c.loop-test.true, c.wide-count.ensures.0))) in
    let head : c.loop.place + 7 ≤ length c.args.table.now =
    (let a = c.args in
    arc-head a.table.now a.c a.start known c.loop.place c.loop.counter c.loop.invariant.0 inside) in
    tail_long c.args.table.now c.loop.place 7 head

pub overflow_add-place-in-loop : goal.overflow_add-place-in-loop
overflow_add-place-in-loop c =
    let known : Entered c.args.table.now c.args.c c.args.start =
    (let s = c in entered s.args.table.now s.args.c s.args.start (λ i. (c.type_inv.table i).fits) s.requires.0 s.requires.1 s.requires.2) in
    let inside : c.loop.counter < length (component_in c.args.table.now c.args.c).arcs =
    (let a = c.args in
    edge_in a.table.now a.c a.start known c.loop.counter (omega (arith, c.loop-test.true, c.wide-count.ensures.0))) in
    let a = c.args in
    let l = c.loop in
    omega (arith, next_within a.table.now a.c a.start known l.place l.counter l.invariant.0 inside _ c.budgeted-budgets.ensures c.arc_length-place.result c.arc_length-place.ensures)

pub loop-preserved : goal.loop-preserved
loop-preserved c =
    let known : Entered c.args.table.now c.args.c c.args.start =
    (let s = c in entered s.args.table.now s.args.c s.args.start (λ i. (c.type_inv.table i).fits) s.requires.0 s.requires.1 s.requires.2) in
    let inside : c.loop.counter < length (component_in c.args.table.now c.args.c).arcs =
    (let a = c.args in
    edge_in a.table.now a.c a.start known c.loop.counter (omega (arith, c.loop-test.true, c.wide-count.ensures.0))) in
    let a = c.args in
    let l = c.loop in
    let k = known in
    let i = inside in
    let C = component_in a.table.now a.c in
    let r : c.judge-found.result ≡ standing_of a.location (entry_of a.at) (arc_of C l.counter) = c.judge-found.ensures.stands
    ∙ ap (standing_of a.location (entry_of a.at)) (arc_is a.table.now a.c a.start k l.place l.counter l.invariant.0 i _ c.budgeted-budgets.ensures) in
    let o = once c.judge-found.result in (
      next_place a.table.now a.c a.start k l.place l.counter l.invariant.0 i _ c.budgeted-budgets.ensures c.arc_length-place.result c.arc_length-place.ensures,
      omega (arith, c.tallied-tally.ensures.0, o.0, l.invariant.1),
      omega (arith, c.tallied-tally.ensures.1, o.1, l.invariant.2),
      omega (arith, c.tallied-tally.ensures.2, o.2, l.invariant.3),
      count_on a.location (entry_of a.at) C.arcs l.counter l.tally c.tallied-tally.result i l.invariant.4
          (c.tallied-tally.ensures.0 ∙ ap (λ x. l.tally.leaving + leaves x) r) (c.tallied-tally.ensures.1 ∙ ap (λ x. l.tally.blocked + fails x) r) (c.tallied-tally.ensures.2 ∙ ap (λ x. l.tally.windowless + shut x) r),
    )

pub returns : goal.returns
returns c =
    let known : Entered c.args.table.now c.args.c c.args.start =
    (let s = c in entered s.args.table.now s.args.c s.args.start (λ i. (c.type_inv.table i).fits) s.requires.0 s.requires.1 s.requires.2) in
    let a = c.args in
    let l = c.loop in
    count_all a.location (entry_of a.at) (component_in a.table.now a.c).arcs l.counter l.tally (omega (arith, c.loop-test.false, c.wide-count.ensures.0, known.stands.arcs)) l.invariant.4
