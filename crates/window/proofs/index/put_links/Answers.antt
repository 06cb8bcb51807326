-- `window::index::put_links` meets its contract. Assumes nothing.
use mathlib.Core.Path.{◌≡◌, sym, subst, ◌∙◌}
use Prim.Native.Nat.{suc, ◌+◌, ◌-◌, ◌*◌, ◌≤◌, ◌<◌}
use native.Mathlib.Omega.{arith}
use lib.ListN.{length, get_or, length-set}
use Rattle.model.specs.Reader.{byte}
use Rattle.model.specs.Places.{arc_place, component_in}
use Rattle.window.specs.Indexed.{place_of, source_of, LinksPut}
use Rattle.window.proofs.Ready.{Entered, entered, arc-head, source_is}
use Rattle.window.proofs.Indexing.{links_none, links_turn}
use Rattle.window.proofs.index.put_links.Goals as goal

pub overflow_add-start : goal.overflow_add-start
overflow_add-start c =
    let known : Entered c.args.table.now c.args.c c.args.start =
    (let s = c in entered s.args.table.now s.args.c s.args.start (λ i. (c.type_inv.table i).fits) s.requires.0 s.requires.1 s.requires.2) in
    omega (arith, known.stands.fits)

pub bounds-table-start : goal.bounds-table-start
bounds-table-start c =
    let known : Entered c.args.table.now c.args.c c.args.start =
    (let s = c in entered s.args.table.now s.args.c s.args.start (λ i. (c.type_inv.table i).fits) s.requires.0 s.requires.1 s.requires.2) in
    omega (arith, known.stands.fits)

pub loop-e-init : goal.loop-e-init
loop-e-init c =
    let known : Entered c.args.table.now c.args.c c.args.start =
    (let s = c in entered s.args.table.now s.args.c s.args.start (λ i. (c.type_inv.table i).fits) s.requires.0 s.requires.1 s.requires.2) in
    let a = c.args in
    let k = known in
    let n : c.wide-count.result ≡ length (component_in a.table.now a.c).arcs = c.wide-count.ensures.0 ∙ k.stands.arcs in
    (omega (arith, n), links_none a.table.now a.index.now a.c c.wide-count.result n (omega (arith, n, k.most_arcs)) c.requires.6)

pub bounds-index-from : goal.bounds-index-from
bounds-index-from c =
    let known : Entered c.args.table.now c.args.c c.args.start =
    (let s = c in entered s.args.table.now s.args.c s.args.start (λ i. (c.type_inv.table i).fits) s.requires.0 s.requires.1 s.requires.2) in
    let inside : c.loop-e.e - 1 < length (component_in c.args.table.now c.args.c).arcs =
    (omega (arith, c.loop-e.invariant.0, c.loop-e-test.true)) in
    omega (arith, c.requires.4, inside, known.most_arcs, c.loop-e.invariant.1.same)

pub bounds-table-place : goal.bounds-table-place
bounds-table-place c =
    let known : Entered c.args.table.now c.args.c c.args.start =
    (let s = c in entered s.args.table.now s.args.c s.args.start (λ i. (c.type_inv.table i).fits) s.requires.0 s.requires.1 s.requires.2) in
    let inside : c.loop-e.e - 1 < length (component_in c.args.table.now c.args.c).arcs =
    (omega (arith, c.loop-e.invariant.0, c.loop-e-test.true)) in
    let place_is : place_of c.loop-e.index c.args.c (c.loop-e.e - 1)
    ≡ arc_place c.args.table.now c.args.start (c.loop-e.e - 1) =
    (let s = c in
    let e = c.loop-e.e - 1 in
    c.loop-e.invariant.1.above (s.args.c * 80 + 48 + e) (omega arith) ∙ s.requires.5 e inside) in
    let head : place_of c.loop-e.index c.args.c (c.loop-e.e - 1) + 7 ≤ length c.args.table.now =
    (let a = c.args in
    arc-head a.table.now a.c a.start known _ (c.loop-e.e - 1) place_is inside) in
    omega (arith, head)

pub bounds-index-first : goal.bounds-index-first
bounds-index-first c =
    let known : Entered c.args.table.now c.args.c c.args.start =
    (let s = c in entered s.args.table.now s.args.c s.args.start (λ i. (c.type_inv.table i).fits) s.requires.0 s.requires.1 s.requires.2) in
    let inside : c.loop-e.e - 1 < length (component_in c.args.table.now c.args.c).arcs =
    (omega (arith, c.loop-e.invariant.0, c.loop-e-test.true)) in
    let place_is : place_of c.loop-e.index c.args.c (c.loop-e.e - 1)
    ≡ arc_place c.args.table.now c.args.start (c.loop-e.e - 1) =
    (let s = c in
    let e = c.loop-e.e - 1 in
    c.loop-e.invariant.1.above (s.args.c * 80 + 48 + e) (omega arith) ∙ s.requires.5 e inside) in
    let leaves : source_of (component_in c.args.table.now c.args.c) (c.loop-e.e - 1)
    ≡ byte c.args.table.now (place_of c.loop-e.index c.args.c (c.loop-e.e - 1) + 1) =
    (let a = c.args in
    source_is a.table.now a.c a.start known _ (c.loop-e.e - 1) place_is inside) in
    let low : byte c.args.table.now (place_of c.loop-e.index c.args.c (c.loop-e.e - 1) + 1) < 16 =
    (omega (arith, leaves, known.source (c.loop-e.e - 1) inside)) in
    omega (arith, c.requires.4, c.wide.ensures.0, low, c.loop-e.invariant.1.same)

pub bounds-index-from-in-loop-e : goal.bounds-index-from-in-loop-e
bounds-index-from-in-loop-e c =
    let known : Entered c.args.table.now c.args.c c.args.start =
    (let s = c in entered s.args.table.now s.args.c s.args.start (λ i. (c.type_inv.table i).fits) s.requires.0 s.requires.1 s.requires.2) in
    let inside : c.loop-e.e - 1 < length (component_in c.args.table.now c.args.c).arcs =
    (omega (arith, c.loop-e.invariant.0, c.loop-e-test.true)) in
    omega (arith, c.requires.4, inside, known.most_arcs, c.loop-e.invariant.1.same)

pub bounds-index-first-in-loop-e : goal.bounds-index-first-in-loop-e
bounds-index-first-in-loop-e c =
    let known : Entered c.args.table.now c.args.c c.args.start =
    (let s = c in entered s.args.table.now s.args.c s.args.start (λ i. (c.type_inv.table i).fits) s.requires.0 s.requires.1 s.requires.2) in
    let inside : c.loop-e.e - 1 < length (component_in c.args.table.now c.args.c).arcs =
    (omega (arith, c.loop-e.invariant.0, c.loop-e-test.true)) in
    let place_is : place_of c.loop-e.index c.args.c (c.loop-e.e - 1)
    ≡ arc_place c.args.table.now c.args.start (c.loop-e.e - 1) =
    (let s = c in
    let e = c.loop-e.e - 1 in
    c.loop-e.invariant.1.above (s.args.c * 80 + 48 + e) (omega arith) ∙ s.requires.5 e inside) in
    let leaves : source_of (component_in c.args.table.now c.args.c) (c.loop-e.e - 1)
    ≡ byte c.args.table.now (place_of c.loop-e.index c.args.c (c.loop-e.e - 1) + 1) =
    (let a = c.args in
    source_is a.table.now a.c a.start known _ (c.loop-e.e - 1) place_is inside) in
    let low : byte c.args.table.now (place_of c.loop-e.index c.args.c (c.loop-e.e - 1) + 1) < 16 =
    (omega (arith, leaves, known.source (c.loop-e.e - 1) inside)) in
    omega (arith, c.requires.4, c.wide.ensures.0, low, c.loop-e.invariant.1.same, length-set c.loop-e.index (c.args.c * 80 + 16 + (c.loop-e.e - 1)) (get_or c.loop-e.index (c.args.c * 80 + c.wide.result) 0))

pub loop-e-preserved : goal.loop-e-preserved
loop-e-preserved c =
    let known : Entered c.args.table.now c.args.c c.args.start =
    (let s = c in entered s.args.table.now s.args.c s.args.start (λ i. (c.type_inv.table i).fits) s.requires.0 s.requires.1 s.requires.2) in
    let inside : c.loop-e.e - 1 < length (component_in c.args.table.now c.args.c).arcs =
    (omega (arith, c.loop-e.invariant.0, c.loop-e-test.true)) in
    let place_is : place_of c.loop-e.index c.args.c (c.loop-e.e - 1)
    ≡ arc_place c.args.table.now c.args.start (c.loop-e.e - 1) =
    (let s = c in
    let e = c.loop-e.e - 1 in
    c.loop-e.invariant.1.above (s.args.c * 80 + 48 + e) (omega arith) ∙ s.requires.5 e inside) in
    let leaves : source_of (component_in c.args.table.now c.args.c) (c.loop-e.e - 1)
    ≡ byte c.args.table.now (place_of c.loop-e.index c.args.c (c.loop-e.e - 1) + 1) =
    (let a = c.args in
    source_is a.table.now a.c a.start known _ (c.loop-e.e - 1) place_is inside) in
    let low : byte c.args.table.now (place_of c.loop-e.index c.args.c (c.loop-e.e - 1) + 1) < 16 =
    (omega (arith, leaves, known.source (c.loop-e.e - 1) inside)) in
    let a = c.args in
    let l = c.loop-e in
    let t = c in
    let k = known in
    let e = l.e - 1 in
    let one : l.e ≡ suc e = omega (arith, c.loop-e-test.true) in (
      omega (arith, inside),
      links_turn a.table.now a.index.now a.c l.index e c.wide.result (subst (LinksPut a.table.now a.index.now l.index a.c) one l.invariant.1) c.requires.4
          (omega (arith, inside, k.most_arcs)) (leaves ∙ sym c.wide.ensures.0) (omega (arith, c.wide.ensures.0, low)) k.most_arcs,
    )

pub returns : goal.returns
returns c =
    let a = c.args in
    let l = c.loop-e in
    let none : l.e ≡ 0 = omega (arith, c.loop-e-test.false) in
    subst (LinksPut a.table.now a.index.now l.index a.c) none l.invariant.1
