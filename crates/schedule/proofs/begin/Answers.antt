-- `schedule::begin` meets its contract. Assumes nothing.
use mathlib.Core.Path.{◌≡◌, refl, sym, ap, subst, ◌∙◌}
use Prim.Native.Nat.{ℕ, ◌+◌, ◌<◌}
use native.Mathlib.Omega.{arith}
use lib.ListN.{set, length-set}
use Rattle.model.specs.Table.{size}
use Rattle.model.specs.Places.{start_of, read_of, component_in}
use Rattle.model.specs.Calls.{verdict_of}
use Rattle.window.specs.Views.{Placed}
use Rattle.window.specs.Indexed.{Indexed}
use Rattle.schedule.proofs.Tables.{counted, few_components, header, start_read, start_fits, initial_read, edge_small}
use Rattle.schedule.proofs.Grown.{until}
use Rattle.schedule.specs.Going.{first_stop}
use Rattle.schedule.proofs.Stopping.{told_as}
use Rattle.schedule.proofs.Turns.{Beginning, begin_first, begin_all, begin_location, begin_refused, begin_stops, begin_on}
use Rattle.schedule.proofs.begin.Goals as goal

pub bounds-table-3 : goal.bounds-table-3
bounds-table-3 c = let e = c in omega (arith, header e.args.table.now c.type_inv.table e.requires.0)

pub loop-component-init : goal.loop-component-init
loop-component-init c =
    let e = c in
    let s = e.args.table.now in
    let n : c.wide-count.result ≡ size (read_of s).table = c.wide-count.ensures.0 ∙ counted s c.type_inv.table e.requires.0 in
    (n, omega (arith, n, few_components s c.type_inv.table e.requires.0), refl, refl, refl, begin_first s e.args.rows.now _ _ e.requires.0)

pub start_entry-at-requires : goal.start_entry-at-requires
start_entry-at-requires c =
    let there : c.loop-component.component < size (read_of c.args.table.now).table =
    (omega (arith, c.loop-component-test.true, c.loop-component.invariant.0)) in
    let start_is : c.word_place-start.result ≡ start_of c.args.table.now c.loop-component.component =
    (let e = c in
    start_read e.args.table.now c.type_inv.table e.requires.0 e.args.starts c.loop-component.component c.word_place-start.result
    e.requires.1 there c.word_place-start.ensures.0) in
    let e = c in
    omega (arith, start_fits e.args.table.now c.type_inv.table e.requires.0 c.loop-component.component c.word_place-start.result there start_is)

pub open-opening-requires : goal.open-opening-requires
open-opening-requires c =
    let there : c.loop-component.component < size (read_of c.args.table.now).table =
    (omega (arith, c.loop-component-test.true, c.loop-component.invariant.0)) in
    let start_is : c.word_place-start.result ≡ start_of c.args.table.now c.loop-component.component =
    (let e = c in
    start_read e.args.table.now c.type_inv.table e.requires.0 e.args.starts c.loop-component.component c.word_place-start.result
    e.requires.1 there c.word_place-start.ensures.0) in
    let location-is : c.start_entry-at.result.location ≡ (component_in c.args.table.now c.loop-component.component).initial =
    (let e = c in
    initial_read e.args.table.now c.type_inv.table e.requires.0 c.loop-component.component c.word_place-start.result
    there start_is c.start_entry-at.ensures.0) in
    let e = c in
    let l = c.loop-component in (
      e.requires.0,
      there,
      start_is,
      begin_location e.args.table.now l.rows c.type_inv.table l.component l.nodes l.ends l.invariant.5 there c.start_entry-at.result location-is c.start_entry-at.ensures.1 c.start_entry-at.ensures.2 c.start_entry-at.ensures.3,
      subst (λ k. Indexed e.args.table.now e.args.index.now l.component k) (sym start_is) (e.requires.3 l.component there),
      e.requires.4,
    )

pub shape_of-rows-in-Err : goal.shape_of-rows-in-Err
shape_of-rows-in-Err c = c.loop-component.invariant.4

pub returns-in-Err : goal.returns-in-Err
returns-in-Err c =
    let there : c.loop-component.component < size (read_of c.args.table.now).table =
    (omega (arith, c.loop-component-test.true, c.loop-component.invariant.0)) in
    let start_is : c.word_place-start.result ≡ start_of c.args.table.now c.loop-component.component =
    (let e = c in
    start_read e.args.table.now c.type_inv.table e.requires.0 e.args.starts c.loop-component.component c.word_place-start.result
    e.requires.1 there c.word_place-start.ensures.0) in
    let location-is : c.start_entry-at.result.location ≡ (component_in c.args.table.now c.loop-component.component).initial =
    (let e = c in
    initial_read e.args.table.now c.type_inv.table e.requires.0 c.loop-component.component c.word_place-start.result
    there start_is c.start_entry-at.ensures.0) in
    let e = c in
    let l = c.loop-component in
    let p = c in
    let r = begin_refused e.args.table.now l.rows c.type_inv.table l.component l.nodes l.ends l.invariant.5 there p.start_entry-at.result location-is p.start_entry-at.ensures.1 p.start_entry-at.ensures.2 p.start_entry-at.ensures.3
    c.open-opening.result c.open-opening.ensures.opens c.number.ensures c.in-Err.is in
    let s = begin_stops e.args.table.now l.rows c.type_inv.table l.component l.nodes l.ends l.invariant.5 there p.start_entry-at.result location-is p.start_entry-at.ensures.1 p.start_entry-at.ensures.2 p.start_entry-at.ensures.3
    c.open-opening.result c.open-opening.ensures.opens c.number.ensures c.in-Err.is in
    record {
      verdict = sym (ap verdict_of r);
      started = λ q. (let z : ◌≡◌ {A = ℕ} 0 1 = cc in absurd (omega arith));
      stops = λ k d q. told_as e.args.table.now (first_stop e.args.table.now) (λ m j. j) s q;
    }

pub put_opened-requires : goal.put_opened-requires
put_opened-requires c =
    let there : c.loop-component.component < size (read_of c.args.table.now).table =
    (omega (arith, c.loop-component-test.true, c.loop-component.invariant.0)) in
    let start_is : c.word_place-start.result ≡ start_of c.args.table.now c.loop-component.component =
    (let e = c in
    start_read e.args.table.now c.type_inv.table e.requires.0 e.args.starts c.loop-component.component c.word_place-start.result
    e.requires.1 there c.word_place-start.ensures.0) in
    let e = c in
    let l = c.loop-component in
    let p = c in
    let z = edge_small e.args.table.now c.type_inv.table e.requires.0 l.component p.word_place-start.result c.in-Ok.is there start_is c.open-opening.ensures.placed in
    (omega (arith, l.invariant, e.requires), omega (arith, l.invariant), z.0, omega arith, omega (arith, p.start_entry-at.ensures.1), z.1, z.2)

pub offset_bounds-ends-component : goal.offset_bounds-ends-component
offset_bounds-ends-component c = omega (arith, c.loop-component.invariant, c.loop-component-test)

pub bounds-ends-component : goal.bounds-ends-component
bounds-ends-component c = omega (arith, c.loop-component.invariant, c.loop-component-test)

pub loop-component-preserved : goal.loop-component-preserved
loop-component-preserved c =
    let there : c.loop-component.component < size (read_of c.args.table.now).table =
    (omega (arith, c.loop-component-test.true, c.loop-component.invariant.0)) in
    let start_is : c.word_place-start.result ≡ start_of c.args.table.now c.loop-component.component =
    (let e = c in
    start_read e.args.table.now c.type_inv.table e.requires.0 e.args.starts c.loop-component.component c.word_place-start.result
    e.requires.1 there c.word_place-start.ensures.0) in
    let location-is : c.start_entry-at.result.location ≡ (component_in c.args.table.now c.loop-component.component).initial =
    (let e = c in
    initial_read e.args.table.now c.type_inv.table e.requires.0 c.loop-component.component c.word_place-start.result
    there start_is c.start_entry-at.ensures.0) in
    let e = c in
    let l = c.loop-component in
    let p = c in
    let s = e.args.table.now in (
      l.invariant.0,
      l.invariant.1,
      simp length-set l.invariant.2,
      simp length-set l.invariant.3,
      c.put_opened.auto.rows ∙ l.invariant.4,
      subst (λ k. Beginning s c.put_opened.new.rows (l.component + 1) (set l.nodes l.component k) (until l.ends l.component p.start_entry-at.result c.in-Ok.taken)) (sym c.kept.ensures)
          (begin_on s l.rows c.type_inv.table l.component l.nodes l.ends l.invariant.5 there p.start_entry-at.result location-is p.start_entry-at.ensures.1 p.start_entry-at.ensures.2 p.start_entry-at.ensures.3
          c.open-opening.result c.open-opening.ensures.opens c.in-Ok.is
          (subst (λ k. Placed s k l.component c.open-opening.result) start_is c.open-opening.ensures.placed) (omega arith) c.put_opened.new.rows c.put_opened.ensures (omega arith) (omega arith)),
    )

pub shape_of-rows : goal.shape_of-rows
shape_of-rows c = c.loop-component.invariant.4

pub returns : goal.returns
returns c =
    let e = c in
    let l = c.loop-component in
    let s = begin_all e.args.table.now l.rows c.type_inv.table l.component l.nodes l.ends l.invariant.5 (omega arith) (omega arith) in
    record { verdict = sym (ap verdict_of s.begins); started = λ q. s; stops = λ k d q. (let z : ◌≡◌ {A = ℕ} 0 1 = cc in absurd (omega arith)) }
