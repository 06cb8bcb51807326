-- `reasons::telling::count_edges` meets its contract. Assumes nothing.
use mathlib.Core.Path.{◌≡◌, refl, sym, ap, ◌∙◌}
use native.Mathlib.Omega.{arith}
use Prim.Native.Nat.{◌+◌, ◌≤◌, ◌<◌}
use lib.ListN.{length}
use Rattle.model.specs.Places.{component_in}
use Rattle.window.proofs.Rests.{tail_long}
use Rattle.window.proofs.Ready.{Entered, entered, first_place, first_within, edge_in, arc-head, source_is, next_place, next_within}
use Rattle.reasons.proofs.EdgeReasons.{edges_before, before_few, count_one}
use Rattle.reasons.proofs.telling.count_edges.Goals as goal

pub overflow_add-start : goal.overflow_add-start
overflow_add-start c =
    let known : Entered c.args.table.now c.args.c c.args.start =
    (let s = c in entered s.args.table.now s.args.c s.args.start (λ i. (c.type_inv.table i).fits) s.requires.0 s.requires.1 s.requires.2) in
    omega (arith, known.stands.fits)

pub bounds-table-start : goal.bounds-table-start
bounds-table-start c =
    let known : Entered c.args.table.now c.args.c c.args.start =
    (let s = c in entered s.args.table.now s.args.c s.args.start (λ i. (c.type_inv.table i).fits) s.requires.0 s.requires.1 s.requires.2) in
    omega (arith, known.stands.fits)

pub overflow_add-place : goal.overflow_add-place
overflow_add-place c =
    let known : Entered c.args.table.now c.args.c c.args.start =
    (let s = c in entered s.args.table.now s.args.c s.args.start (λ i. (c.type_inv.table i).fits) s.requires.0 s.requires.1 s.requires.2) in
    omega (arith, known.stands.fits)

pub overflow_add-start-2 : goal.overflow_add-start-2
overflow_add-start-2 c =
    let known : Entered c.args.table.now c.args.c c.args.start =
    (let s = c in entered s.args.table.now s.args.c s.args.start (λ i. (c.type_inv.table i).fits) s.requires.0 s.requires.1 s.requires.2) in
    omega (arith, known.stands.fits)

pub bounds-table-start-2 : goal.bounds-table-start-2
bounds-table-start-2 c =
    let known : Entered c.args.table.now c.args.c c.args.start =
    (let s = c in entered s.args.table.now s.args.c s.args.start (λ i. (c.type_inv.table i).fits) s.requires.0 s.requires.1 s.requires.2) in
    omega (arith, known.stands.fits)

pub overflow_add-place-2 : goal.overflow_add-place-2
overflow_add-place-2 c =
    let known : Entered c.args.table.now c.args.c c.args.start =
    (let s = c in entered s.args.table.now s.args.c s.args.start (λ i. (c.type_inv.table i).fits) s.requires.0 s.requires.1 s.requires.2) in
    let a = c.args in
    omega (arith, first_within a.table.now a.c a.start known, c.wide.ensures.0)

pub loop-init : goal.loop-init
loop-init c =
    let a = c.args in
    (first_place a.table.now a.start c.wide.result c.wide.ensures.0, refl)

pub overflow_add-place-in-loop : goal.overflow_add-place-in-loop
overflow_add-place-in-loop c =
    let known : Entered c.args.table.now c.args.c c.args.start =
    (let s = c in entered s.args.table.now s.args.c s.args.start (λ i. (c.type_inv.table i).fits) s.requires.0 s.requires.1 s.requires.2) in
    let inside : c.loop.counter < length (component_in c.args.table.now c.args.c).arcs =
    (let a = c.args in
    edge_in a.table.now a.c a.start known c.loop.counter (omega (arith, c.loop-test.true, c.wide-count.ensures.0))) in
    let head : c.loop.place + 7 ≤ length c.args.table.now =
    (let a = c.args in
    arc-head a.table.now a.c a.start known c.loop.place c.loop.counter c.loop.invariant.0 inside) in
    omega (arith, head)

pub bounds-table-place : goal.bounds-table-place
bounds-table-place c =
    let known : Entered c.args.table.now c.args.c c.args.start =
    (let s = c in entered s.args.table.now s.args.c s.args.start (λ i. (c.type_inv.table i).fits) s.requires.0 s.requires.1 s.requires.2) in
    let inside : c.loop.counter < length (component_in c.args.table.now c.args.c).arcs =
    (let a = c.args in
    edge_in a.table.now a.c a.start known c.loop.counter (omega (arith, c.loop-test.true, c.wide-count.ensures.0))) in
    let head : c.loop.place + 7 ≤ length c.args.table.now =
    (let a = c.args in
    arc-head a.table.now a.c a.start known c.loop.place c.loop.counter c.loop.invariant.0 inside) in
    omega (arith, head)

pub overflow_add-k : goal.overflow_add-k
overflow_add-k c =
    let known : Entered c.args.table.now c.args.c c.args.start =
    (let s = c in entered s.args.table.now s.args.c s.args.start (λ i. (c.type_inv.table i).fits) s.requires.0 s.requires.1 s.requires.2) in
    let inside : c.loop.counter < length (component_in c.args.table.now c.args.c).arcs =
    (let a = c.args in
    edge_in a.table.now a.c a.start known c.loop.counter (omega (arith, c.loop-test.true, c.wide-count.ensures.0))) in
    let small : c.loop.counter < 32 =
    (omega (arith, inside, known.most_arcs)) in
    let a = c.args in
    let l = c.loop in
    omega (arith, c.counted-k.ensures.1, small, before_few (component_in a.table.now a.c) a.here l.counter, l.invariant.1)

pub slice_bounds-arc_length-count : goal.slice_bounds-arc_length-count
slice_bounds-arc_length-count c =
    let known : Entered c.args.table.now c.args.c c.args.start =
    (let s = c in entered s.args.table.now s.args.c s.args.start (λ i. (c.type_inv.table i).fits) s.requires.0 s.requires.1 s.requires.2) in
    let inside : c.loop.counter < length (component_in c.args.table.now c.args.c).arcs =
    (let a = c.args in
    edge_in a.table.now a.c a.start known c.loop.counter (omega (arith, c.loop-test.true, c.wide-count.ensures.0))) in
    let head : c.loop.place + 7 ≤ length c.args.table.now =
    (let a = c.args in
    arc-head a.table.now a.c a.start known c.loop.place c.loop.counter c.loop.invariant.0 inside) in
    omega (arith, head)

pub slice_bounds-arc_length-start : goal.slice_bounds-arc_length-start
slice_bounds-arc_length-start c =
    let known : Entered c.args.table.now c.args.c c.args.start =
    (let s = c in entered s.args.table.now s.args.c s.args.start (λ i. (c.type_inv.table i).fits) s.requires.0 s.requires.1 s.requires.2) in
    let inside : c.loop.counter < length (component_in c.args.table.now c.args.c).arcs =
    (let a = c.args in
    edge_in a.table.now a.c a.start known c.loop.counter (omega (arith, c.loop-test.true, c.wide-count.ensures.0))) in
    let head : c.loop.place + 7 ≤ length c.args.table.now =
    (let a = c.args in
    arc-head a.table.now a.c a.start known c.loop.place c.loop.counter c.loop.invariant.0 inside) in
    omega (arith, head)

pub arc_length-place-requires : goal.arc_length-place-requires
arc_length-place-requires c =
    let known : Entered c.args.table.now c.args.c c.args.start =
    (let s = c in entered s.args.table.now s.args.c s.args.start (λ i. (c.type_inv.table i).fits) s.requires.0 s.requires.1 s.requires.2) in
    let inside : c.loop.counter < length (component_in c.args.table.now c.args.c).arcs =
    (let a = c.args in
    edge_in a.table.now a.c a.start known c.loop.counter (omega (arith, c.loop-test.true, c.wide-count.ensures.0))) in
    let head : c.loop.place + 7 ≤ length c.args.table.now =
    (let a = c.args in
    arc-head a.table.now a.c a.start known c.loop.place c.loop.counter c.loop.invariant.0 inside) in
    tail_long c.args.table.now c.loop.place 7 head

pub overflow_add-place-in-loop-2 : goal.overflow_add-place-in-loop-2
overflow_add-place-in-loop-2 c =
    let known : Entered c.args.table.now c.args.c c.args.start =
    (let s = c in entered s.args.table.now s.args.c s.args.start (λ i. (c.type_inv.table i).fits) s.requires.0 s.requires.1 s.requires.2) in
    let inside : c.loop.counter < length (component_in c.args.table.now c.args.c).arcs =
    (let a = c.args in
    edge_in a.table.now a.c a.start known c.loop.counter (omega (arith, c.loop-test.true, c.wide-count.ensures.0))) in
    let a = c.args in
    let l = c.loop in
    omega (arith, next_within a.table.now a.c a.start known l.place l.counter l.invariant.0 inside a.budgets c.requires.3 c.arc_length-place.result c.arc_length-place.ensures)

pub loop-preserved : goal.loop-preserved
loop-preserved c =
    let known : Entered c.args.table.now c.args.c c.args.start =
    (let s = c in entered s.args.table.now s.args.c s.args.start (λ i. (c.type_inv.table i).fits) s.requires.0 s.requires.1 s.requires.2) in
    let inside : c.loop.counter < length (component_in c.args.table.now c.args.c).arcs =
    (let a = c.args in
    edge_in a.table.now a.c a.start known c.loop.counter (omega (arith, c.loop-test.true, c.wide-count.ensures.0))) in
    let a = c.args in
    let l = c.loop in
    let k = known in
    let i = inside in (
      next_place a.table.now a.c a.start k l.place l.counter l.invariant.0 i a.budgets c.requires.3 c.arc_length-place.result c.arc_length-place.ensures,
      count_one (component_in a.table.now a.c) a.here l.counter l.k c.counted-k.result _ l.invariant.1 (sym (source_is a.table.now a.c a.start k l.place l.counter l.invariant.0 i)) c.counted-k.ensures.0,
    )

pub returns : goal.returns
returns c =
    let known : Entered c.args.table.now c.args.c c.args.start =
    (let s = c in entered s.args.table.now s.args.c s.args.start (λ i. (c.type_inv.table i).fits) s.requires.0 s.requires.1 s.requires.2) in
    let a = c.args in
    let l = c.loop in
    let k = known in
    let e : l.counter ≡ length (component_in a.table.now a.c).arcs = omega (arith, c.loop-test.false, c.wide-count.ensures.0, k.stands.arcs) in
    (l.invariant.1 ∙ ap (λ n. length (edges_before (component_in a.table.now a.c) a.here n)) e, omega (arith, before_few (component_in a.table.now a.c) a.here l.counter, l.invariant.1, e, k.most_arcs))
