-- `window::choose` meets its contract. Assumes nothing.
use mathlib.Core.Path.{◌≡◌, sym, ap, subst, ◌∙◌}
use mathlib.Core.Option.{none}
use Prim.Native.Nat.{◌+◌, ◌*◌, ◌≤◌, ◌<◌}
use native.Mathlib.Omega.{arith}
use borrow.Author.Tests.{eq-eqb, ne_eqb}
use lib.ListN.{length, get_or}
use Rattle.model.specs.Reader.{location_at}
use Rattle.model.specs.Table.{Arc, arc_of, location_of}
use Rattle.model.specs.Places.{arc_place, component_in, location_place}
use Rattle.model.specs.Window.{considered}
use Rattle.decoder.proofs.Found.{found}
use Rattle.window.specs.Views.{entry_of, pick_of, Kept}
use Rattle.window.specs.Indexed.{source_of}
use Rattle.window.proofs.Rests.{tail_long}
use Rattle.window.proofs.Looking.{Searching, ready-now, searching_first, searching_next, searching_stop, searching_end}
use Rattle.window.proofs.Ready.{Entered, entered, edge_in, arc-head, arc_asked, arc_is}
use Rattle.window.proofs.choose.Goals as goal

pub overflow_add-start : goal.overflow_add-start
overflow_add-start c =
    let known : Entered c.args.table.now c.args.c c.args.start =
    (let s = c in entered s.args.table.now s.args.c s.args.start (λ i. (c.type_inv.table i).fits) s.requires.0 s.requires.1 s.requires.2) in
    omega (arith, known.stands.fits)

pub bounds-table-start : goal.bounds-table-start
bounds-table-start c =
    let known : Entered c.args.table.now c.args.c c.args.start =
    (let s = c in entered s.args.table.now s.args.c s.args.start (λ i. (c.type_inv.table i).fits) s.requires.0 s.requires.1 s.requires.2) in
    omega (arith, known.stands.fits)

pub overflow_add-there : goal.overflow_add-there
overflow_add-there c =
    let known : Entered c.args.table.now c.args.c c.args.start =
    (let s = c in entered s.args.table.now s.args.c s.args.start (λ i. (c.type_inv.table i).fits) s.requires.0 s.requires.1 s.requires.2) in
    omega (arith, known.stands.fits)

pub overflow_add-there-2 : goal.overflow_add-there-2
overflow_add-there-2 c =
    let known : Entered c.args.table.now c.args.c c.args.start =
    (let s = c in entered s.args.table.now s.args.c s.args.start (λ i. (c.type_inv.table i).fits) s.requires.0 s.requires.1 s.requires.2) in
    omega (arith, known.stands.location_fits c.args.at.location c.requires.3, c.wide.ensures.0)

pub slice_bounds-location_at-count : goal.slice_bounds-location_at-count
slice_bounds-location_at-count c =
    let known : Entered c.args.table.now c.args.c c.args.start =
    (let s = c in entered s.args.table.now s.args.c s.args.start (λ i. (c.type_inv.table i).fits) s.requires.0 s.requires.1 s.requires.2) in
    omega (arith, known.stands.location_fits c.args.at.location c.requires.3, c.wide.ensures.0)

pub slice_bounds-location_at-start : goal.slice_bounds-location_at-start
slice_bounds-location_at-start c =
    let known : Entered c.args.table.now c.args.c c.args.start =
    (let s = c in entered s.args.table.now s.args.c s.args.start (λ i. (c.type_inv.table i).fits) s.requires.0 s.requires.1 s.requires.2) in
    omega (arith, known.stands.location_fits c.args.at.location c.requires.3, c.wide.ensures.0)

pub location_at-location-requires : goal.location_at-location-requires
location_at-location-requires c =
    let known : Entered c.args.table.now c.args.c c.args.start =
    (let s = c in entered s.args.table.now s.args.c s.args.start (λ i. (c.type_inv.table i).fits) s.requires.0 s.requires.1 s.requires.2) in
    let a = c.args in
    tail_long a.table.now (a.start + 7 + c.wide.result * 3) 3 (omega (arith, known.stands.location_fits a.at.location c.requires.3, c.wide.ensures.0))

pub stays-left-requires : goal.stays-left-requires
stays-left-requires c =
    let known : Entered c.args.table.now c.args.c c.args.start =
    (let s = c in entered s.args.table.now s.args.c s.args.start (λ i. (c.type_inv.table i).fits) s.requires.0 s.requires.1 s.requires.2) in
    let location-is : c.location_at-location.result ≡ location_of (component_in c.args.table.now c.args.c) c.args.at.location =
    (let s = c in
    let a = s.args in
    let there : a.start + 7 + c.wide.result * 3 ≡ location_place a.start a.at.location = rw c.wide.ensures.0 in
    found location_at a.table.now _ _ there c.location_at-location.ensures ∙ known.stands.location a.at.location s.requires.3) in
    let s = c in
    rw location-is (known.clock s.args.at.location s.requires.3)

pub overflow_add-e : goal.overflow_add-e
overflow_add-e c = omega (arith, c.wide-from.ensures.1, c.wide-2.ensures.1)

pub offset_bounds-index-from : goal.offset_bounds-index-from
offset_bounds-index-from c = omega (arith, c.wide-from.ensures.1, c.wide-2.ensures.1)

pub bounds-index-from : goal.bounds-index-from
bounds-index-from c =
    let known : Entered c.args.table.now c.args.c c.args.start =
    (let s = c in entered s.args.table.now s.args.c s.args.start (λ i. (c.type_inv.table i).fits) s.requires.0 s.requires.1 s.requires.2) in
    omega (arith, c.wide-from.ensures.0, c.wide-2.ensures.0, c.requires.4.fits, c.requires.3, known.most_locations)

pub overflow_cast-e : goal.overflow_cast-e
overflow_cast-e c = omega (arith, c.type_inv.index (c.wide-from.result * 80 + c.wide-2.result))

pub loop-e-init : goal.loop-e-init
loop-e-init c =
    let known : Entered c.args.table.now c.args.c c.args.start =
    (let s = c in entered s.args.table.now s.args.c s.args.start (λ i. (c.type_inv.table i).fits) s.requires.0 s.requires.1 s.requires.2) in
    let location-is : c.location_at-location.result ≡ location_of (component_in c.args.table.now c.args.c) c.args.at.location =
    (let s = c in
    let a = s.args in
    let there : a.start + 7 + c.wide.result * 3 ≡ location_place a.start a.at.location = rw c.wide.ensures.0 in
    found location_at a.table.now _ _ there c.location_at-location.ensures ∙ known.stands.location a.at.location s.requires.3) in
    let a = c.args in
    let C = component_in a.table.now a.c in
    let i = a.index.now in
    let q : c.wide-from.result * 80 + c.wide-2.result ≡ a.c * 80 + a.at.location = rw (c.wide-from.ensures.0, c.wide-2.ensures.0) in
    let f = c.requires.4.first a.at.location (omega (arith, c.requires.3, known.most_locations)) in (
      λ z. absurd (omega (arith, z)),
      λ z. ap (source_of C) (ap (λ j. get_or i j 0) q) ∙ f.leaves (omega (arith, z, ap (λ j. get_or i j 0) q)),
      subst (λ j. Searching C (entry_of a.at) c.location_at-location.result (get_or i j 0) none) (sym q) (searching_first C (entry_of a.at) c.location_at-location.result location-is f),
    )

pub overflow_add-place : goal.overflow_add-place
overflow_add-place c = omega (arith, c.wide-from.ensures.1)

pub overflow_add-place-in-loop-e : goal.overflow_add-place-in-loop-e
overflow_add-place-in-loop-e c = omega (arith, c.wide-from.ensures.1, c.wide-count.ensures.1, c.if-count-e.false)

pub offset_bounds-index-from-in-loop-e : goal.offset_bounds-index-from-in-loop-e
offset_bounds-index-from-in-loop-e c = omega (arith, c.wide-from.ensures.1, c.wide-count.ensures.1, c.if-count-e.false)

pub bounds-index-from-in-loop-e : goal.bounds-index-from-in-loop-e
bounds-index-from-in-loop-e c =
    let known : Entered c.args.table.now c.args.c c.args.start =
    (let s = c in entered s.args.table.now s.args.c s.args.start (λ i. (c.type_inv.table i).fits) s.requires.0 s.requires.1 s.requires.2) in
    let inside : c.loop-e.e < length (component_in c.args.table.now c.args.c).arcs =
    (let a = c.args in
    edge_in a.table.now a.c a.start known c.loop-e.e
    (omega (arith, c.if-count-e.false, c.wide-count.ensures.0))) in
    omega (arith, c.wide-from.ensures.0, inside, known.most_arcs, c.requires.4.fits)

pub overflow_cast-place : goal.overflow_cast-place
overflow_cast-place c = omega (arith, c.type_inv.index (c.wide-from.result * 80 + 48 + c.loop-e.e))

pub slice_bounds-considered_edge-count : goal.slice_bounds-considered_edge-count
slice_bounds-considered_edge-count c =
    let known : Entered c.args.table.now c.args.c c.args.start =
    (let s = c in entered s.args.table.now s.args.c s.args.start (λ i. (c.type_inv.table i).fits) s.requires.0 s.requires.1 s.requires.2) in
    let inside : c.loop-e.e < length (component_in c.args.table.now c.args.c).arcs =
    (let a = c.args in
    edge_in a.table.now a.c a.start known c.loop-e.e
    (omega (arith, c.if-count-e.false, c.wide-count.ensures.0))) in
    let place_is : get_or c.args.index.now (c.wide-from.result * 80 + 48 + c.loop-e.e) 0
    ≡ arc_place c.args.table.now c.args.start c.loop-e.e =
    (let s = c in
    rw c.wide-from.ensures.0 (s.requires.4.place c.loop-e.e inside)) in
    let a = c.args in
    omega (arith, arc-head a.table.now a.c a.start known _ c.loop-e.e place_is inside)

pub slice_bounds-considered_edge-start : goal.slice_bounds-considered_edge-start
slice_bounds-considered_edge-start c =
    let known : Entered c.args.table.now c.args.c c.args.start =
    (let s = c in entered s.args.table.now s.args.c s.args.start (λ i. (c.type_inv.table i).fits) s.requires.0 s.requires.1 s.requires.2) in
    let inside : c.loop-e.e < length (component_in c.args.table.now c.args.c).arcs =
    (let a = c.args in
    edge_in a.table.now a.c a.start known c.loop-e.e
    (omega (arith, c.if-count-e.false, c.wide-count.ensures.0))) in
    let place_is : get_or c.args.index.now (c.wide-from.result * 80 + 48 + c.loop-e.e) 0
    ≡ arc_place c.args.table.now c.args.start c.loop-e.e =
    (let s = c in
    rw c.wide-from.ensures.0 (s.requires.4.place c.loop-e.e inside)) in
    let a = c.args in
    omega (arith, arc-head a.table.now a.c a.start known _ c.loop-e.e place_is inside)

pub overflow_cast-e-in-loop-e : goal.overflow_cast-e-in-loop-e
overflow_cast-e-in-loop-e c =
    let known : Entered c.args.table.now c.args.c c.args.start =
    (let s = c in entered s.args.table.now s.args.c s.args.start (λ i. (c.type_inv.table i).fits) s.requires.0 s.requires.1 s.requires.2) in
    let inside : c.loop-e.e < length (component_in c.args.table.now c.args.c).arcs =
    (let a = c.args in
    edge_in a.table.now a.c a.start known c.loop-e.e
    (omega (arith, c.if-count-e.false, c.wide-count.ensures.0))) in
    omega (arith, inside, known.most_arcs)

pub considered_edge-best-requires : goal.considered_edge-best-requires
considered_edge-best-requires c =
    let known : Entered c.args.table.now c.args.c c.args.start =
    (let s = c in entered s.args.table.now s.args.c s.args.start (λ i. (c.type_inv.table i).fits) s.requires.0 s.requires.1 s.requires.2) in
    let inside : c.loop-e.e < length (component_in c.args.table.now c.args.c).arcs =
    (let a = c.args in
    edge_in a.table.now a.c a.start known c.loop-e.e
    (omega (arith, c.if-count-e.false, c.wide-count.ensures.0))) in
    let place_is : get_or c.args.index.now (c.wide-from.result * 80 + 48 + c.loop-e.e) 0
    ≡ arc_place c.args.table.now c.args.start c.loop-e.e =
    (let s = c in
    rw c.wide-from.ensures.0 (s.requires.4.place c.loop-e.e inside)) in
    let s = c in
    let a = s.args in
    let k = known in
    let t = c in (
      arc_asked a.table.now a.c a.start k _ c.loop-e.e place_is inside a.budgets s.requires.5,
      ap (λ (x : Arc). x.edge.source) (arc_is a.table.now a.c a.start k _ c.loop-e.e place_is inside a.budgets s.requires.5) ∙ c.loop-e.invariant.1 inside,
      c.stays-left.ensures.0,
      c.stays-left.ensures.1,
    )

-- one more than the number of an edge
pub overflow_add-result : goal.overflow_add-result
overflow_add-result c = omega (arith, c.if-count-e.false, c.wide-count.ensures.1)

pub overflow_add-e-in-loop-e : goal.overflow_add-e-in-loop-e
overflow_add-e-in-loop-e c = omega (arith, c.wide-from.ensures.1)

pub overflow_add-e-in-loop-e-2 : goal.overflow_add-e-in-loop-e-2
overflow_add-e-in-loop-e-2 c = omega (arith, c.wide-from.ensures.1, c.wide-count.ensures.1, c.if-count-e.false)

pub offset_bounds-index-from-in-loop-e-2 : goal.offset_bounds-index-from-in-loop-e-2
offset_bounds-index-from-in-loop-e-2 c = omega (arith, c.wide-from.ensures.1, c.wide-count.ensures.1, c.if-count-e.false)

pub bounds-index-from-in-loop-e-2 : goal.bounds-index-from-in-loop-e-2
bounds-index-from-in-loop-e-2 c =
    let known : Entered c.args.table.now c.args.c c.args.start =
    (let s = c in entered s.args.table.now s.args.c s.args.start (λ i. (c.type_inv.table i).fits) s.requires.0 s.requires.1 s.requires.2) in
    let inside : c.loop-e.e < length (component_in c.args.table.now c.args.c).arcs =
    (let a = c.args in
    edge_in a.table.now a.c a.start known c.loop-e.e
    (omega (arith, c.if-count-e.false, c.wide-count.ensures.0))) in
    omega (arith, c.wide-from.ensures.0, inside, known.most_arcs, c.requires.4.fits)

pub overflow_cast-e-in-loop-e-2 : goal.overflow_cast-e-in-loop-e-2
overflow_cast-e-in-loop-e-2 c = omega (arith, c.type_inv.index (c.wide-from.result * 80 + 16 + c.loop-e.e))

pub loop-e-smaller : goal.loop-e-smaller
loop-e-smaller c =
    let known : Entered c.args.table.now c.args.c c.args.start =
    (let s = c in entered s.args.table.now s.args.c s.args.start (λ i. (c.type_inv.table i).fits) s.requires.0 s.requires.1 s.requires.2) in
    let inside : c.loop-e.e < length (component_in c.args.table.now c.args.c).arcs =
    (let a = c.args in
    edge_in a.table.now a.c a.start known c.loop-e.e
    (omega (arith, c.if-count-e.false, c.wide-count.ensures.0))) in
    let a = c.args in
    let e = c.loop-e.e in
    let q : c.wide-from.result * 80 + 16 + e ≡ a.c * 80 + 16 + e = rw c.wide-from.ensures.0 in
    omega (arith, (c.requires.4.next e inside).from, ap (λ j. get_or a.index.now j 0) q, c.if-count-e.false)

pub loop-e-preserved : goal.loop-e-preserved
loop-e-preserved c =
    let known : Entered c.args.table.now c.args.c c.args.start =
    (let s = c in entered s.args.table.now s.args.c s.args.start (λ i. (c.type_inv.table i).fits) s.requires.0 s.requires.1 s.requires.2) in
    let location-is : c.location_at-location.result ≡ location_of (component_in c.args.table.now c.args.c) c.args.at.location =
    (let s = c in
    let a = s.args in
    let there : a.start + 7 + c.wide.result * 3 ≡ location_place a.start a.at.location = rw c.wide.ensures.0 in
    found location_at a.table.now _ _ there c.location_at-location.ensures ∙ known.stands.location a.at.location s.requires.3) in
    let inside : c.loop-e.e < length (component_in c.args.table.now c.args.c).arcs =
    (let a = c.args in
    edge_in a.table.now a.c a.start known c.loop-e.e
    (omega (arith, c.if-count-e.false, c.wide-count.ensures.0))) in
    let place_is : get_or c.args.index.now (c.wide-from.result * 80 + 48 + c.loop-e.e) 0
    ≡ arc_place c.args.table.now c.args.start c.loop-e.e =
    (let s = c in
    rw c.wide-from.ensures.0 (s.requires.4.place c.loop-e.e inside)) in
    let best-is : pick_of c.considered_edge-best.result
    ≡ considered c.location_at-location.result c.args.at.location c.args.at.clocks c.args.at.values c.loop-e.e (arc_of (component_in c.args.table.now c.args.c) c.loop-e.e) (pick_of c.loop-e.best) =
    (let a = c.args in
    let l = c.loop-e in
    let t = c in
    c.considered_edge-best.ensures.picks
    ∙ ap (λ x. considered c.location_at-location.result a.at.location a.at.clocks a.at.values l.e x (pick_of l.best)) (arc_is a.table.now a.c a.start known _ l.e place_is inside a.budgets c.requires.5)) in
    let best-kept : Kept (arc_place c.args.table.now c.args.start) c.considered_edge-best.result =
    (let a = c.args in
    c.considered_edge-best.ensures.keeps (arc_place a.table.now a.start) (sym place_is) c.loop-e.invariant.0) in
    let d = c in
    let s = c in
    let a = s.args in
    let C = component_in a.table.now a.c in
    let i = a.index.now in
    let l = d.loop-e in
    let t = d in
    let q : c.wide-from.result * 80 + 16 + l.e ≡ a.c * 80 + 16 + l.e = rw c.wide-from.ensures.0 in
    let source = l.invariant.1 inside in
    let f = s.requires.4.next l.e inside in
    let later = ready-now d.considered_edge-best.result ∙ ne_eqb d.considered_edge-best.result.ready 0 (λ z. absurd (omega (arith, z, c.if-best-eq0.false))) in (
      best-kept,
      λ z. ap (source_of C) (ap (λ j. get_or i j 0) q) ∙ (f.leaves (omega (arith, z, ap (λ j. get_or i j 0) q)) ∙ source),
      subst (λ j. Searching C (entry_of a.at) d.location_at-location.result (get_or i j 0) (pick_of d.considered_edge-best.result)) (sym q)
          (searching_next C (entry_of a.at) d.location_at-location.result location-is l.e (pick_of l.best) _ l.invariant.2 inside source best-is later f),
    )

pub returns-then-count-e : goal.returns-then-count-e
returns-then-count-e c =
    let known : Entered c.args.table.now c.args.c c.args.start =
    (let s = c in entered s.args.table.now s.args.c s.args.start (λ i. (c.type_inv.table i).fits) s.requires.0 s.requires.1 s.requires.2) in
    let a = c.args in
    let l = c.loop-e in
    let C = component_in a.table.now a.c in
    let edges = known.stands.arcs in
    let all : length C.arcs ≤ l.e = omega (arith, edges, c.if-count-e.true, c.wide-count.ensures.0) in
    let done = searching_end C (entry_of a.at) c.location_at-location.result l.e (pick_of l.best) l.invariant.2 all in record { picks = done.0; counts = omega (arith, edges, c.wide-count.ensures.0, done.1); keeps = l.invariant.0 }

pub returns-then-best-eq0 : goal.returns-then-best-eq0
returns-then-best-eq0 c =
    let known : Entered c.args.table.now c.args.c c.args.start =
    (let s = c in entered s.args.table.now s.args.c s.args.start (λ i. (c.type_inv.table i).fits) s.requires.0 s.requires.1 s.requires.2) in
    let location-is : c.location_at-location.result ≡ location_of (component_in c.args.table.now c.args.c) c.args.at.location =
    (let s = c in
    let a = s.args in
    let there : a.start + 7 + c.wide.result * 3 ≡ location_place a.start a.at.location = rw c.wide.ensures.0 in
    found location_at a.table.now _ _ there c.location_at-location.ensures ∙ known.stands.location a.at.location s.requires.3) in
    let inside : c.loop-e.e < length (component_in c.args.table.now c.args.c).arcs =
    (let a = c.args in
    edge_in a.table.now a.c a.start known c.loop-e.e
    (omega (arith, c.if-count-e.false, c.wide-count.ensures.0))) in
    let place_is : get_or c.args.index.now (c.wide-from.result * 80 + 48 + c.loop-e.e) 0
    ≡ arc_place c.args.table.now c.args.start c.loop-e.e =
    (let s = c in
    rw c.wide-from.ensures.0 (s.requires.4.place c.loop-e.e inside)) in
    let best-is : pick_of c.considered_edge-best.result
    ≡ considered c.location_at-location.result c.args.at.location c.args.at.clocks c.args.at.values c.loop-e.e (arc_of (component_in c.args.table.now c.args.c) c.loop-e.e) (pick_of c.loop-e.best) =
    (let a = c.args in
    let l = c.loop-e in
    let t = c in
    c.considered_edge-best.ensures.picks
    ∙ ap (λ x. considered c.location_at-location.result a.at.location a.at.clocks a.at.values l.e x (pick_of l.best)) (arc_is a.table.now a.c a.start known _ l.e place_is inside a.budgets c.requires.5)) in
    let best-kept : Kept (arc_place c.args.table.now c.args.start) c.considered_edge-best.result =
    (let a = c.args in
    c.considered_edge-best.ensures.keeps (arc_place a.table.now a.start) (sym place_is) c.loop-e.invariant.0) in
    let d = c in
    let a = d.args in
    let l = d.loop-e in
    let t = d in
    let at_once = ready-now d.considered_edge-best.result ∙ eq-eqb d.considered_edge-best.result.ready 0 (omega (arith, c.if-best-eq0.true)) in
    let done = searching_stop (component_in a.table.now a.c) (entry_of a.at) d.location_at-location.result location-is l.e (pick_of l.best) _ l.invariant.2 inside (l.invariant.1 inside) best-is at_once in record { picks = done.0; counts = done.1; keeps = best-kept }
