-- `schedule::index_edges` meets its contract. Assumes nothing.
use mathlib.Core.Path.{◌≡◌, ◌∙◌}
use Prim.Native.Nat.{◌+◌, ◌*◌, ◌<◌}
use native.Mathlib.Omega.{arith}
use Rattle.model.specs.Table.{size}
use Rattle.model.specs.Places.{start_of, read_of}
use Rattle.rows.proofs.Placed.{known_bytes, valid_small}
use Rattle.schedule.proofs.Tables.{counted, few_components, header, start_read, limits_of}
use Rattle.schedule.proofs.Edges.{indexed_none, indexed_turn}
use Rattle.schedule.proofs.index_edges.Goals as goal

pub bounds-table-3 : goal.bounds-table-3
bounds-table-3 c = omega (arith, header c.args.table.now c.type_inv.table c.requires.0)

pub loop-component-init : goal.loop-component-init
loop-component-init c =
    let s = c.args.table.now in
    let n : c.wide-count.result ≡ size (read_of s).table = c.wide-count.ensures.0 ∙ counted s c.type_inv.table c.requires.0 in
    (n, omega (arith, n, few_components s c.type_inv.table c.requires.0), indexed_none s c.args.index.now)

pub put_edges-requires : goal.put_edges-requires
put_edges-requires c =
    let there : c.loop-component.component < size (read_of c.args.table.now).table =
    (omega (arith, c.loop-component-test.true, c.loop-component.invariant.0)) in
    let start_is : c.word_place.result ≡ start_of c.args.table.now c.loop-component.component =
    (let e = c in
    start_read e.args.table.now c.type_inv.table e.requires.0 e.args.starts c.loop-component.component c.word_place.result
    e.requires.1 there c.word_place.ensures.0) in
    let s = c.args.table.now in
    let l = c.loop-component in
    let low = c.loop-component-test.true in (
      c.requires.0,
      there,
      start_is,
      omega (arith, low, l.invariant.1),
      omega (arith, low, l.invariant.1, c.requires.2, l.invariant.2.same),
      valid_small s (known_bytes s c.type_inv.table) c.requires.0,
      λ q h. l.invariant.2.rest (l.component * 80 + q) (omega arith) ∙ c.requires.3 l.component q (omega (arith, low, l.invariant.1)) h,
      c.requires.4,
    )

pub loop-component-preserved : goal.loop-component-preserved
loop-component-preserved c =
    let there : c.loop-component.component < size (read_of c.args.table.now).table =
    (omega (arith, c.loop-component-test.true, c.loop-component.invariant.0)) in
    let start_is : c.word_place.result ≡ start_of c.args.table.now c.loop-component.component =
    (let e = c in
    start_read e.args.table.now c.type_inv.table e.requires.0 e.args.starts c.loop-component.component c.word_place.result
    e.requires.1 there c.word_place.ensures.0) in
    let s = c.args.table.now in
    let l = c.loop-component in
    let here = there in (
      l.invariant.0,
      l.invariant.1,
      indexed_turn s c.args.index.now l.index c.put_edges.new.index l.component c.word_place.result l.invariant.2
          (λ d h. (limits_of s c.type_inv.table c.requires.0 d (omega (arith, h, here))).most_arcs) start_is c.put_edges.ensures.noted c.put_edges.ensures.others,
    )

pub shape_of-index : goal.shape_of-index
shape_of-index c = c.loop-component.invariant.2.same

pub returns : goal.returns
returns c = λ d h. c.loop-component.invariant.2.done d (omega (arith, h, c.loop-component-test.false, c.loop-component.invariant.0))
