-- `period::start` meets its contract. Assumes nothing.
use mathlib.Core.Path.{◌≡◌, refl, ◌∙◌}
use Prim.Native.Nat.{◌<◌}
use native.Mathlib.Omega.{arith}
use lib.ListN.{length-set}
use Rattle.model.specs.Table.{size}
use Rattle.model.specs.Places.{start_of, read_of}
use Rattle.schedule.proofs.Tables.{counted, few_components, header, start_read, start_fits, initial_read}
use Rattle.period.proofs.Walks.{on_start}
use Rattle.period.proofs.Joining.{Fresh, fresh_more}
use Rattle.period.proofs.start.Goals as goal

pub bounds-table-3 : goal.bounds-table-3
bounds-table-3 c = let e = c in omega (arith, header e.args.table.now c.type_inv.table e.requires.0.placed.valid)

pub loop-component-init : goal.loop-component-init
loop-component-init c =
    let e = c in
    let s = e.args.table.now in
    let v = e.requires.0.placed.valid in
    let n : c.wide-components.result ≡ size (read_of s).table = c.wide-components.ensures.0 ∙ counted s c.type_inv.table v in
    (omega arith, n, omega (arith, n, few_components s c.type_inv.table v), refl, λ d h. absurd (omega arith))

pub offset_bounds-starts-component : goal.offset_bounds-starts-component
offset_bounds-starts-component c = omega (arith, c.loop-component.invariant.2, c.loop-component-test.true)

pub bounds-starts-component : goal.bounds-starts-component
bounds-starts-component c = omega (arith, c.loop-component.invariant.2, c.loop-component-test.true)

pub start_entry-requires : goal.start_entry-requires
start_entry-requires c =
    let there : c.loop-component.component < size (read_of c.args.table.now).table =
    (omega (arith, c.loop-component-test.true, c.loop-component.invariant.1)) in
    let start_is : c.word_place.result ≡ start_of c.args.table.now c.loop-component.component =
    (let e = c in
    start_read e.args.table.now c.type_inv.table e.requires.0.placed.valid e.args.starts c.loop-component.component c.word_place.result e.requires.1 there c.word_place.ensures.0) in
    let e = c in
    omega (arith, start_fits e.args.table.now c.type_inv.table e.requires.0.placed.valid c.loop-component.component c.word_place.result there start_is)

pub offset_bounds-entries-component : goal.offset_bounds-entries-component
offset_bounds-entries-component c = omega (arith, c.loop-component.invariant.2, c.loop-component-test.true)

pub bounds-entries-component : goal.bounds-entries-component
bounds-entries-component c = omega (arith, c.loop-component.invariant.2, c.loop-component-test.true)

pub loop-component-preserved : goal.loop-component-preserved
loop-component-preserved c =
    let there : c.loop-component.component < size (read_of c.args.table.now).table =
    (omega (arith, c.loop-component-test.true, c.loop-component.invariant.1)) in
    let start_is : c.word_place.result ≡ start_of c.args.table.now c.loop-component.component =
    (let e = c in
    start_read e.args.table.now c.type_inv.table e.requires.0.placed.valid e.args.starts c.loop-component.component c.word_place.result e.requires.1 there c.word_place.ensures.0) in
    let e = c in
    let s = e.args.table.now in
    let l = c.loop-component in
    let f : Fresh s l.component c.start_entry.result = record { location = initial_read s c.type_inv.table e.requires.0.placed.valid l.component c.word_place.result there start_is c.start_entry.ensures.0; tick = c.start_entry.ensures.1; clocks = c.start_entry.ensures.2; values = c.start_entry.ensures.3 } in (
      omega (arith, c.loop-component-test.true),
      l.invariant.1,
      l.invariant.2,
      length-set l.entries l.component c.start_entry.result ∙ l.invariant.3,
      fresh_more s l.entries l.component c.start_entry.result (omega (arith, l.invariant.2, l.invariant.3, c.loop-component-test.true)) l.invariant.4 f,
    )

pub returns : goal.returns
returns c =
    let e = c in
    let a = e.args in
    let l = c.loop-component in (
      on_start a.table.now a.rows.now a.count e.requires.0 c.type_inv.table (record { row = 0; entries = l.entries }) l.invariant.3 refl
          (λ d h. let f = l.invariant.4 d (omega (arith, c.loop-component-test.false, l.invariant.1)) in (f.location, f.tick, f.clocks, f.values)),
      refl,
    )
