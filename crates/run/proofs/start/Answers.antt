-- `run::start` meets its contract. Assumes nothing.
use mathlib.Core.Path.{refl, ◌∙◌}
use Prim.Native.Nat.{◌<◌}
use native.Mathlib.Omega.{arith}
use lib.ListN.{get_or}
use Rattle.model.specs.Reader.{byte}
use Rattle.translator.proofs.Standing.{slice_bytes, few_nodes, found, valid_long}
use Rattle.run.proofs.Beginnings.{none_started, start_inside, few-clocks, few_variables, one_started, all_started}
use Rattle.run.proofs.start.Goals as goal

pub bounds-table-3 : goal.bounds-table-3
bounds-table-3 c =
    let s = c in
    let table = s.args.table.now in
    let bytes = slice_bytes table c.type_inv.table in
    omega (arith, valid_long table bytes s.requires.0)

pub loop-c-init : goal.loop-c-init
loop-c-init c = (omega arith, refl, refl, none_started c.requires.2)

pub offset_bounds-starts-c : goal.offset_bounds-starts-c
offset_bounds-starts-c c =
    let s = c in
    let table = s.args.table.now in
    let bytes = slice_bytes table c.type_inv.table in
    omega (arith, few_nodes table bytes s.requires.0)

pub bounds-starts-c : goal.bounds-starts-c
bounds-starts-c c =
    let s = c in
    let table = s.args.table.now in
    let bytes = slice_bytes table c.type_inv.table in
    omega (arith, few_nodes table bytes s.requires.0)

pub start_node-requires : goal.start_node-requires
start_node-requires c =
    let s = c in
    let table = s.args.table.now in
    let bytes = slice_bytes table c.type_inv.table in
    let loop = c.loop-c in
    let taken : loop.c < byte table 3 = omega (arith, c.from-count.ensures, c.loop-c-test.true) in
    let start = get_or s.args.starts loop.c 0 in
    let at = found table bytes s.requires.0 s.args.starts s.requires.1 loop.c taken in (
      loop.invariant.3.eight,
      s.requires.3,
      omega (arith, few_nodes table bytes s.requires.0),
      start_inside table bytes s.requires.0 loop.c taken start at,
      few-clocks table bytes s.requires.0 loop.c taken start at,
      few_variables table bytes s.requires.0 loop.c taken start at,
      omega (arith, c.offset_of.ensures, s.requires.4 loop.c taken),
    )

pub loop-c-preserved : goal.loop-c-preserved
loop-c-preserved c =
    let s = c in
    let table = s.args.table.now in
    let bytes = slice_bytes table c.type_inv.table in
    let loop = c.loop-c in
    let taken : loop.c < byte table 3 = omega (arith, c.from-count.ensures, c.loop-c-test.true) in
    let start = get_or s.args.starts loop.c 0 in
    let at = found table bytes s.requires.0 s.args.starts s.requires.1 loop.c taken in (
      omega arith,
      c.start_node.auto.words ∙ loop.invariant.1,
      c.start_node.auto.values ∙ loop.invariant.2,
      one_started table bytes s.requires.0 loop.c taken start at loop.invariant.3 c.start_node.ensures c.offset_of.ensures,
    )

pub shape_of-words : goal.shape_of-words
shape_of-words c = c.loop-c.invariant.1

pub shape_of-values : goal.shape_of-values
shape_of-values c = c.loop-c.invariant.2

pub returns : goal.returns
returns c =
    let s = c in
    let table = s.args.table.now in
    let bytes = slice_bytes table c.type_inv.table in
    all_started table bytes s.requires.0 s.requires.3 c.loop-c.invariant.3 (omega (arith, c.from-count.ensures, c.loop-c-test.false))
