-- `window::index::put_places` meets its contract. Assumes nothing.
use mathlib.Core.Path.{◌≡◌, subst}
use Prim.Native.Nat.{◌+◌, ◌≤◌, ◌<◌}
use native.Mathlib.Omega.{arith}
use lib.ListN.{length}
use Rattle.model.specs.Places.{component_in}
use Rattle.window.specs.Indexed.{PlacesPut}
use Rattle.window.proofs.Rests.{tail_long}
use Rattle.window.proofs.Ready.{Entered, entered, first_place, first_within, edge_in, arc-head, next_place, next_within}
use Rattle.window.proofs.Indexing.{places_none, places_turn}
use Rattle.window.proofs.index.put_places.Goals as goal

pub overflow_add-start : goal.overflow_add-start
overflow_add-start c =
    let known : Entered c.args.table.now c.args.c c.args.start =
    (let s = c in entered s.args.table.now s.args.c s.args.start (λ i. (c.type_inv.table i).fits) s.requires.0 s.requires.1 s.requires.2) in
    omega (arith, known.stands.fits)

pub bounds-table-start : goal.bounds-table-start
bounds-table-start c =
    let known : Entered c.args.table.now c.args.c c.args.start =
    (let s = c in entered s.args.table.now s.args.c s.args.start (λ i. (c.type_inv.table i).fits) s.requires.0 s.requires.1 s.requires.2) in
    omega (arith, known.stands.fits)

pub overflow_add-place : goal.overflow_add-place
overflow_add-place c =
    let known : Entered c.args.table.now c.args.c c.args.start =
    (let s = c in entered s.args.table.now s.args.c s.args.start (λ i. (c.type_inv.table i).fits) s.requires.0 s.requires.1 s.requires.2) in
    omega (arith, known.stands.fits)

pub overflow_add-start-2 : goal.overflow_add-start-2
overflow_add-start-2 c =
    let known : Entered c.args.table.now c.args.c c.args.start =
    (let s = c in entered s.args.table.now s.args.c s.args.start (λ i. (c.type_inv.table i).fits) s.requires.0 s.requires.1 s.requires.2) in
    omega (arith, known.stands.fits)

pub bounds-table-start-2 : goal.bounds-table-start-2
bounds-table-start-2 c =
    let known : Entered c.args.table.now c.args.c c.args.start =
    (let s = c in entered s.args.table.now s.args.c s.args.start (λ i. (c.type_inv.table i).fits) s.requires.0 s.requires.1 s.requires.2) in
    omega (arith, known.stands.fits)

pub overflow_add-place-2 : goal.overflow_add-place-2
overflow_add-place-2 c =
    let known : Entered c.args.table.now c.args.c c.args.start =
    (let s = c in entered s.args.table.now s.args.c s.args.start (λ i. (c.type_inv.table i).fits) s.requires.0 s.requires.1 s.requires.2) in
    let a = c.args in
    omega (arith, first_within a.table.now a.c a.start known, c.wide.ensures.0)

pub loop-e-init : goal.loop-e-init
loop-e-init c =
    let a = c.args in
    (first_place a.table.now a.start c.wide.result c.wide.ensures.0, places_none a.table.now a.index.now a.c a.start)

pub overflow_cast-index : goal.overflow_cast-index
overflow_cast-index c =
    let known : Entered c.args.table.now c.args.c c.args.start =
    (let s = c in entered s.args.table.now s.args.c s.args.start (λ i. (c.type_inv.table i).fits) s.requires.0 s.requires.1 s.requires.2) in
    let inside : c.loop-e.e < length (component_in c.args.table.now c.args.c).arcs =
    (let a = c.args in
    edge_in a.table.now a.c a.start known c.loop-e.e
    (omega (arith, c.loop-e-test.true, c.wide-count.ensures.0))) in
    let head : c.loop-e.place + 7 ≤ length c.args.table.now =
    (let a = c.args in
    arc-head a.table.now a.c a.start known c.loop-e.place c.loop-e.e c.loop-e.invariant.0 inside) in
    omega (arith, head, c.requires.5)

pub bounds-index-from : goal.bounds-index-from
bounds-index-from c =
    let known : Entered c.args.table.now c.args.c c.args.start =
    (let s = c in entered s.args.table.now s.args.c s.args.start (λ i. (c.type_inv.table i).fits) s.requires.0 s.requires.1 s.requires.2) in
    let inside : c.loop-e.e < length (component_in c.args.table.now c.args.c).arcs =
    (let a = c.args in
    edge_in a.table.now a.c a.start known c.loop-e.e
    (omega (arith, c.loop-e-test.true, c.wide-count.ensures.0))) in
    omega (arith, c.requires.4, inside, known.most_arcs, c.loop-e.invariant.1.same)

pub slice_bounds-arc_length-count : goal.slice_bounds-arc_length-count
slice_bounds-arc_length-count c =
    let known : Entered c.args.table.now c.args.c c.args.start =
    (let s = c in entered s.args.table.now s.args.c s.args.start (λ i. (c.type_inv.table i).fits) s.requires.0 s.requires.1 s.requires.2) in
    let inside : c.loop-e.e < length (component_in c.args.table.now c.args.c).arcs =
    (let a = c.args in
    edge_in a.table.now a.c a.start known c.loop-e.e
    (omega (arith, c.loop-e-test.true, c.wide-count.ensures.0))) in
    let head : c.loop-e.place + 7 ≤ length c.args.table.now =
    (let a = c.args in
    arc-head a.table.now a.c a.start known c.loop-e.place c.loop-e.e c.loop-e.invariant.0 inside) in
    omega (arith, head)

pub slice_bounds-arc_length-start : goal.slice_bounds-arc_length-start
slice_bounds-arc_length-start c =
    let known : Entered c.args.table.now c.args.c c.args.start =
    (let s = c in entered s.args.table.now s.args.c s.args.start (λ i. (c.type_inv.table i).fits) s.requires.0 s.requires.1 s.requires.2) in
    let inside : c.loop-e.e < length (component_in c.args.table.now c.args.c).arcs =
    (let a = c.args in
    edge_in a.table.now a.c a.start known c.loop-e.e
    (omega (arith, c.loop-e-test.true, c.wide-count.ensures.0))) in
    let head : c.loop-e.place + 7 ≤ length c.args.table.now =
    (let a = c.args in
    arc-head a.table.now a.c a.start known c.loop-e.place c.loop-e.e c.loop-e.invariant.0 inside) in
    omega (arith, head)

pub arc_length-place-requires : goal.arc_length-place-requires
arc_length-place-requires c =
    let known : Entered c.args.table.now c.args.c c.args.start =
    (let s = c in entered s.args.table.now s.args.c s.args.start (λ i. (c.type_inv.table i).fits) s.requires.0 s.requires.1 s.requires.2) in
    let inside : c.loop-e.e < length (component_in c.args.table.now c.args.c).arcs =
    (let a = c.args in
    edge_in a.table.now a.c a.start known c.loop-e.e
    (omega (arith, c.loop-e-test.true, c.wide-count.ensures.0))) in
    let head : c.loop-e.place + 7 ≤ length c.args.table.now =
    (let a = c.args in
    arc-head a.table.now a.c a.start known c.loop-e.place c.loop-e.e c.loop-e.invariant.0 inside) in
    tail_long c.args.table.now c.loop-e.place 7 head

pub overflow_add-place-in-loop-e : goal.overflow_add-place-in-loop-e
overflow_add-place-in-loop-e c =
    let known : Entered c.args.table.now c.args.c c.args.start =
    (let s = c in entered s.args.table.now s.args.c s.args.start (λ i. (c.type_inv.table i).fits) s.requires.0 s.requires.1 s.requires.2) in
    let inside : c.loop-e.e < length (component_in c.args.table.now c.args.c).arcs =
    (let a = c.args in
    edge_in a.table.now a.c a.start known c.loop-e.e
    (omega (arith, c.loop-e-test.true, c.wide-count.ensures.0))) in
    let a = c.args in
    let l = c.loop-e in
    omega (arith, next_within a.table.now a.c a.start known l.place l.e l.invariant.0 inside a.budgets c.requires.6 c.arc_length-place.result c.arc_length-place.ensures)

pub loop-e-preserved : goal.loop-e-preserved
loop-e-preserved c =
    let known : Entered c.args.table.now c.args.c c.args.start =
    (let s = c in entered s.args.table.now s.args.c s.args.start (λ i. (c.type_inv.table i).fits) s.requires.0 s.requires.1 s.requires.2) in
    let inside : c.loop-e.e < length (component_in c.args.table.now c.args.c).arcs =
    (let a = c.args in
    edge_in a.table.now a.c a.start known c.loop-e.e
    (omega (arith, c.loop-e-test.true, c.wide-count.ensures.0))) in
    let a = c.args in
    let l = c.loop-e in
    let k = known in
    let i = inside in (
      next_place a.table.now a.c a.start k l.place l.e l.invariant.0 i a.budgets c.requires.6 c.arc_length-place.result c.arc_length-place.ensures,
      places_turn a.table.now a.index.now a.c a.start l.index l.e l.place l.invariant.1 c.requires.4 (omega (arith, i, k.most_arcs)) l.invariant.0,
    )

pub returns : goal.returns
returns c =
    let known : Entered c.args.table.now c.args.c c.args.start =
    (let s = c in entered s.args.table.now s.args.c s.args.start (λ i. (c.type_inv.table i).fits) s.requires.0 s.requires.1 s.requires.2) in
    let a = c.args in
    let l = c.loop-e in
    let all : l.e ≡ length (component_in a.table.now a.c).arcs = omega (arith, c.wide-count.ensures.0, known.stands.arcs) in
    subst (PlacesPut a.table.now a.index.now l.index a.c a.start) all l.invariant.1
