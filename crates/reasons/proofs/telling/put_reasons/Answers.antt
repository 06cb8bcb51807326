-- `reasons::telling::put_reasons` meets its contract. Assumes nothing.
use mathlib.Core.Path.{◌≡◌, refl, sym, ap, ◌∙◌}
use Prim.Native.Nat.{◌+◌, ◌*◌, ◌≤◌, ◌<◌}
use native.Mathlib.Omega.{arith}
use lib.ListN.{length}
use lib.Seq.{sets}
use Rattle.model.specs.Lists.{each}
use Rattle.model.specs.Table.{Arc, location_of}
use Rattle.model.specs.Reader.{location_at}
use Rattle.model.specs.Places.{component_in, location_place}
use Rattle.decoder.proofs.Found.{found}
use Rattle.window.specs.Views.{entry_of}
use Rattle.window.proofs.Rests.{tail_long}
use Rattle.window.proofs.Ready.{Entered, entered, first_place, first_within, edge_in, arc-head, arc_asked, arc_is, next_place, next_within}
use Rattle.schedule.proofs.Fields.{laid_all}
use Rattle.reasons.specs.Telling.{edge_bytes}
use Rattle.reasons.proofs.EdgeReasons.{edges_before, before_few, has_room, turn}
use Rattle.reasons.proofs.telling.put_reasons.Goals as goal

pub overflow_add-start : goal.overflow_add-start
overflow_add-start c =
    let known : Entered c.args.table.now c.args.c c.args.start =
    (let s = c in entered s.args.table.now s.args.c s.args.start (λ i. (c.type_inv.table i).fits) s.requires.0 s.requires.1 s.requires.2) in
    omega (arith, known.stands.fits)

pub bounds-table-start : goal.bounds-table-start
bounds-table-start c =
    let known : Entered c.args.table.now c.args.c c.args.start =
    (let s = c in entered s.args.table.now s.args.c s.args.start (λ i. (c.type_inv.table i).fits) s.requires.0 s.requires.1 s.requires.2) in
    omega (arith, known.stands.fits)

pub overflow_add-there : goal.overflow_add-there
overflow_add-there c =
    let known : Entered c.args.table.now c.args.c c.args.start =
    (let s = c in entered s.args.table.now s.args.c s.args.start (λ i. (c.type_inv.table i).fits) s.requires.0 s.requires.1 s.requires.2) in
    omega (arith, known.stands.fits)

pub overflow_add-there-2 : goal.overflow_add-there-2
overflow_add-there-2 c =
    let known : Entered c.args.table.now c.args.c c.args.start =
    (let s = c in entered s.args.table.now s.args.c s.args.start (λ i. (c.type_inv.table i).fits) s.requires.0 s.requires.1 s.requires.2) in
    omega (arith, known.stands.location_fits c.args.at.location c.requires.3, c.wide.ensures.0)

pub slice_bounds-location_at-count : goal.slice_bounds-location_at-count
slice_bounds-location_at-count c =
    let known : Entered c.args.table.now c.args.c c.args.start =
    (let s = c in entered s.args.table.now s.args.c s.args.start (λ i. (c.type_inv.table i).fits) s.requires.0 s.requires.1 s.requires.2) in
    omega (arith, known.stands.location_fits c.args.at.location c.requires.3, c.wide.ensures.0)

pub slice_bounds-location_at-start : goal.slice_bounds-location_at-start
slice_bounds-location_at-start c =
    let known : Entered c.args.table.now c.args.c c.args.start =
    (let s = c in entered s.args.table.now s.args.c s.args.start (λ i. (c.type_inv.table i).fits) s.requires.0 s.requires.1 s.requires.2) in
    omega (arith, known.stands.location_fits c.args.at.location c.requires.3, c.wide.ensures.0)

pub location_at-location-requires : goal.location_at-location-requires
location_at-location-requires c =
    let known : Entered c.args.table.now c.args.c c.args.start =
    (let s = c in entered s.args.table.now s.args.c s.args.start (λ i. (c.type_inv.table i).fits) s.requires.0 s.requires.1 s.requires.2) in
    let s = c in
    tail_long s.args.table.now (s.args.start + 7 + c.wide.result * 3) 3 (omega (arith, known.stands.location_fits s.args.at.location s.requires.3, c.wide.ensures.0))

pub overflow_add-place : goal.overflow_add-place
overflow_add-place c =
    let known : Entered c.args.table.now c.args.c c.args.start =
    (let s = c in entered s.args.table.now s.args.c s.args.start (λ i. (c.type_inv.table i).fits) s.requires.0 s.requires.1 s.requires.2) in
    omega (arith, known.stands.fits)

pub overflow_add-start-2 : goal.overflow_add-start-2
overflow_add-start-2 c =
    let known : Entered c.args.table.now c.args.c c.args.start =
    (let s = c in entered s.args.table.now s.args.c s.args.start (λ i. (c.type_inv.table i).fits) s.requires.0 s.requires.1 s.requires.2) in
    omega (arith, known.stands.fits)

pub bounds-table-start-2 : goal.bounds-table-start-2
bounds-table-start-2 c =
    let known : Entered c.args.table.now c.args.c c.args.start =
    (let s = c in entered s.args.table.now s.args.c s.args.start (λ i. (c.type_inv.table i).fits) s.requires.0 s.requires.1 s.requires.2) in
    omega (arith, known.stands.fits)

pub overflow_add-place-2 : goal.overflow_add-place-2
overflow_add-place-2 c =
    let known : Entered c.args.table.now c.args.c c.args.start =
    (let s = c in entered s.args.table.now s.args.c s.args.start (λ i. (c.type_inv.table i).fits) s.requires.0 s.requires.1 s.requires.2) in
    let a = c.args in
    omega (arith, first_within a.table.now a.c a.start known, c.wide-2.ensures.0)

pub loop-e-init : goal.loop-e-init
unfolding each
loop-e-init c =
    let a = c.args in
    (first_place a.table.now a.start c.wide-2.result c.wide-2.ensures.0, refl, refl, refl)

pub slice_bounds-put_edge-count : goal.slice_bounds-put_edge-count
slice_bounds-put_edge-count c =
    let known : Entered c.args.table.now c.args.c c.args.start =
    (let s = c in entered s.args.table.now s.args.c s.args.start (λ i. (c.type_inv.table i).fits) s.requires.0 s.requires.1 s.requires.2) in
    let inside : c.loop-e.e < length (component_in c.args.table.now c.args.c).arcs =
    (let a = c.args in
    edge_in a.table.now a.c a.start known c.loop-e.e (omega (arith, c.loop-e-test.true, c.wide-count.ensures.0))) in
    let head : c.loop-e.place + 7 ≤ length c.args.table.now =
    (let a = c.args in
    arc-head a.table.now a.c a.start known c.loop-e.place c.loop-e.e c.loop-e.invariant.0 inside) in
    omega (arith, head)

pub slice_bounds-put_edge-start : goal.slice_bounds-put_edge-start
slice_bounds-put_edge-start c =
    let known : Entered c.args.table.now c.args.c c.args.start =
    (let s = c in entered s.args.table.now s.args.c s.args.start (λ i. (c.type_inv.table i).fits) s.requires.0 s.requires.1 s.requires.2) in
    let inside : c.loop-e.e < length (component_in c.args.table.now c.args.c).arcs =
    (let a = c.args in
    edge_in a.table.now a.c a.start known c.loop-e.e (omega (arith, c.loop-e-test.true, c.wide-count.ensures.0))) in
    let head : c.loop-e.place + 7 ≤ length c.args.table.now =
    (let a = c.args in
    arc-head a.table.now a.c a.start known c.loop-e.place c.loop-e.e c.loop-e.invariant.0 inside) in
    omega (arith, head)

pub overflow_cast-e : goal.overflow_cast-e
overflow_cast-e c =
    let known : Entered c.args.table.now c.args.c c.args.start =
    (let s = c in entered s.args.table.now s.args.c s.args.start (λ i. (c.type_inv.table i).fits) s.requires.0 s.requires.1 s.requires.2) in
    let inside : c.loop-e.e < length (component_in c.args.table.now c.args.c).arcs =
    (let a = c.args in
    edge_in a.table.now a.c a.start known c.loop-e.e (omega (arith, c.loop-e-test.true, c.wide-count.ensures.0))) in
    let small : c.loop-e.e < 32 =
    (omega (arith, inside, known.most_arcs)) in
    omega (arith, small)

pub put_edge-k-requires : goal.put_edge-k-requires
put_edge-k-requires c =
    let known : Entered c.args.table.now c.args.c c.args.start =
    (let s = c in entered s.args.table.now s.args.c s.args.start (λ i. (c.type_inv.table i).fits) s.requires.0 s.requires.1 s.requires.2) in
    let location-is : c.location_at-location.result ≡ location_of (component_in c.args.table.now c.args.c) c.args.at.location =
    (let s = c in
    let a = s.args in
    let there : a.start + 7 + c.wide.result * 3 ≡ location_place a.start a.at.location = rw c.wide.ensures.0 in
    found location_at a.table.now _ _ there c.location_at-location.ensures ∙ known.stands.location a.at.location s.requires.3) in
    let inside : c.loop-e.e < length (component_in c.args.table.now c.args.c).arcs =
    (let a = c.args in
    edge_in a.table.now a.c a.start known c.loop-e.e (omega (arith, c.loop-e-test.true, c.wide-count.ensures.0))) in
    let small : c.loop-e.e < 32 =
    (omega (arith, inside, known.most_arcs)) in
    let s = c in
    let a = s.args in
    let l = c.loop-e in
    let k = known in
    let C = component_in a.table.now a.c in
    let i = inside in
    let is = arc_is a.table.now a.c a.start k l.place l.e l.invariant.0 i a.budgets s.requires.6 in (
      arc_asked a.table.now a.c a.start k l.place l.e l.invariant.0 i a.budgets s.requires.6,
      rw location-is (k.clock a.at.location s.requires.3),
      s.requires.4,
      omega (arith, before_few C a.at.location l.e, l.invariant.1, small),
      λ q. omega (arith, l.invariant.2, has_room C a.at.location l.e (length C.arcs) l.k a.told.now i l.invariant.1 s.requires.5 (sym (ap (λ (x : Arc). x.edge.source) is) ∙ q)),
    )

pub slice_bounds-arc_length-count : goal.slice_bounds-arc_length-count
slice_bounds-arc_length-count c =
    let known : Entered c.args.table.now c.args.c c.args.start =
    (let s = c in entered s.args.table.now s.args.c s.args.start (λ i. (c.type_inv.table i).fits) s.requires.0 s.requires.1 s.requires.2) in
    let inside : c.loop-e.e < length (component_in c.args.table.now c.args.c).arcs =
    (let a = c.args in
    edge_in a.table.now a.c a.start known c.loop-e.e (omega (arith, c.loop-e-test.true, c.wide-count.ensures.0))) in
    let head : c.loop-e.place + 7 ≤ length c.args.table.now =
    (let a = c.args in
    arc-head a.table.now a.c a.start known c.loop-e.place c.loop-e.e c.loop-e.invariant.0 inside) in
    omega (arith, head)

pub slice_bounds-arc_length-start : goal.slice_bounds-arc_length-start
slice_bounds-arc_length-start c =
    let known : Entered c.args.table.now c.args.c c.args.start =
    (let s = c in entered s.args.table.now s.args.c s.args.start (λ i. (c.type_inv.table i).fits) s.requires.0 s.requires.1 s.requires.2) in
    let inside : c.loop-e.e < length (component_in c.args.table.now c.args.c).arcs =
    (let a = c.args in
    edge_in a.table.now a.c a.start known c.loop-e.e (omega (arith, c.loop-e-test.true, c.wide-count.ensures.0))) in
    let head : c.loop-e.place + 7 ≤ length c.args.table.now =
    (let a = c.args in
    arc-head a.table.now a.c a.start known c.loop-e.place c.loop-e.e c.loop-e.invariant.0 inside) in
    omega (arith, head)

pub arc_length-place-requires : goal.arc_length-place-requires
arc_length-place-requires c =
    let known : Entered c.args.table.now c.args.c c.args.start =
    (let s = c in entered s.args.table.now s.args.c s.args.start (λ i. (c.type_inv.table i).fits) s.requires.0 s.requires.1 s.requires.2) in
    let inside : c.loop-e.e < length (component_in c.args.table.now c.args.c).arcs =
    (let a = c.args in
    edge_in a.table.now a.c a.start known c.loop-e.e (omega (arith, c.loop-e-test.true, c.wide-count.ensures.0))) in
    let head : c.loop-e.place + 7 ≤ length c.args.table.now =
    (let a = c.args in
    arc-head a.table.now a.c a.start known c.loop-e.place c.loop-e.e c.loop-e.invariant.0 inside) in
    tail_long c.args.table.now c.loop-e.place 7 head

pub overflow_add-place-in-loop-e : goal.overflow_add-place-in-loop-e
overflow_add-place-in-loop-e c =
    let known : Entered c.args.table.now c.args.c c.args.start =
    (let s = c in entered s.args.table.now s.args.c s.args.start (λ i. (c.type_inv.table i).fits) s.requires.0 s.requires.1 s.requires.2) in
    let inside : c.loop-e.e < length (component_in c.args.table.now c.args.c).arcs =
    (let a = c.args in
    edge_in a.table.now a.c a.start known c.loop-e.e (omega (arith, c.loop-e-test.true, c.wide-count.ensures.0))) in
    let a = c.args in
    let l = c.loop-e in
    omega (arith, next_within a.table.now a.c a.start known l.place l.e l.invariant.0 inside a.budgets c.requires.6 c.arc_length-place.result c.arc_length-place.ensures)

pub loop-e-preserved : goal.loop-e-preserved
loop-e-preserved c =
    let known : Entered c.args.table.now c.args.c c.args.start =
    (let s = c in entered s.args.table.now s.args.c s.args.start (λ i. (c.type_inv.table i).fits) s.requires.0 s.requires.1 s.requires.2) in
    let location-is : c.location_at-location.result ≡ location_of (component_in c.args.table.now c.args.c) c.args.at.location =
    (let s = c in
    let a = s.args in
    let there : a.start + 7 + c.wide.result * 3 ≡ location_place a.start a.at.location = rw c.wide.ensures.0 in
    found location_at a.table.now _ _ there c.location_at-location.ensures ∙ known.stands.location a.at.location s.requires.3) in
    let inside : c.loop-e.e < length (component_in c.args.table.now c.args.c).arcs =
    (let a = c.args in
    edge_in a.table.now a.c a.start known c.loop-e.e (omega (arith, c.loop-e-test.true, c.wide-count.ensures.0))) in
    let a = c.args in
    let l = c.loop-e in
    let k = known in
    let i = inside in
    let C = component_in a.table.now a.c in
    let t = turn C _ (entry_of a.at) a.taken a.ready l.e _ l.k c.put_edge-k.result a.told.now l.told _ location-is (arc_is a.table.now a.c a.start k l.place l.e l.invariant.0 i a.budgets c.requires.6) c.put_edge-k.ensures l.invariant.1 l.invariant.3 in (
      next_place a.table.now a.c a.start k l.place l.e l.invariant.0 i a.budgets c.requires.6 c.arc_length-place.result c.arc_length-place.ensures,
      t.0,
      c.put_edge-k.auto.told ∙ l.invariant.2,
      t.1,
    )

pub shape_of-told : goal.shape_of-told
shape_of-told c = c.loop-e.invariant.2

pub returns : goal.returns
returns c =
    let known : Entered c.args.table.now c.args.c c.args.start =
    (let s = c in entered s.args.table.now s.args.c s.args.start (λ i. (c.type_inv.table i).fits) s.requires.0 s.requires.1 s.requires.2) in
    let s = c in
    let a = s.args in
    let l = c.loop-e in
    let C = component_in a.table.now a.c in
    let e : l.e ≡ length C.arcs = omega (arith, c.loop-e-test.false, c.wide-count.ensures.0, known.stands.arcs) in
    l.invariant.3 ∙ ap (λ n. sets a.told.now 0 (each (edge_bytes C (entry_of a.at) a.taken a.ready) (edges_before C a.at.location n))) e
    ∙ laid_all (edge_bytes C (entry_of a.at) a.taken a.ready) 3 (λ e. refl) (edges_before C a.at.location (length C.arcs)) (length (edges_before C a.at.location (length C.arcs))) a.told.now refl s.requires.5
