-- `translator::put_nodes` meets its contract. Assumes nothing.
use mathlib.Core.Path.{◌∙◌}
use Prim.Native.Nat.{◌≤◌, ◌<◌}
use native.Mathlib.Omega.{arith}
use Rattle.model.specs.Reader.{byte}
use lib.ListN.{get_or, take}
use Rattle.translator.proofs.Standing.{slice_bytes, few_nodes, start_fits, taken_long, taken_found, valid_long}
use Rattle.blocks.proofs.Runs.{begin, left_is, put_all, writing_long}
use Rattle.translator.proofs.Programs.{nodes_from, nodes_gone, node_asked, node_on}
use Rattle.translator.proofs.put_nodes.Goals as goal

pub budgeted-budgets-requires : goal.budgeted-budgets-requires
budgeted-budgets-requires c =
    let args = c.args in
    let pre = c.requires in
    omega (arith, valid_long args.table.now (slice_bytes args.table.now c.type_inv.table) pre.0)

pub bounds-table-3 : goal.bounds-table-3
bounds-table-3 c =
    let args = c.args in
    let pre = c.requires in
    omega (arith, valid_long args.table.now (slice_bytes args.table.now c.type_inv.table) pre.0)

pub slice_bounds-starts-end : goal.slice_bounds-starts-end
slice_bounds-starts-end c = omega (arith, few_nodes c.args.table.now (slice_bytes c.args.table.now c.type_inv.table) c.requires.0, c.from.ensures)

pub slice_bounds-start-items-end : goal.slice_bounds-start-items-end
slice_bounds-start-items-end c = omega (arith, taken_long c.args.table.now (slice_bytes c.args.table.now c.type_inv.table) c.requires.0 c.args.starts c.requires.1 c.from.result c.from.ensures, c.from.ensures)

pub loop-start-init : goal.loop-start-init
loop-start-init c =
    let args = c.args in
    (omega arith, begin args.out.now args.from (nodes_from args.table.now 0))

pub slice_bounds-put_node-count : goal.slice_bounds-put_node-count
slice_bounds-put_node-count c =
    let args = c.args in
    let pre = c.requires in
    let loop = c.loop-start in
    let long = taken_long args.table.now (slice_bytes args.table.now c.type_inv.table) pre.0 args.starts pre.1 c.from.result c.from.ensures in
    let below : loop.start-index < byte args.table.now 3 = omega (arith, c.loop-start-test.true) in
    omega (arith, start_fits args.table.now (slice_bytes args.table.now c.type_inv.table) pre.0 loop.start-index below (get_or (take c.from.result args.starts) loop.start-index 0) (taken_found args.table.now (slice_bytes args.table.now c.type_inv.table) pre.0 args.starts pre.1 c.from.result c.from.ensures loop.start-index c.loop-start-test.true))

pub slice_bounds-put_node-start : goal.slice_bounds-put_node-start
slice_bounds-put_node-start c =
    let args = c.args in
    let pre = c.requires in
    let loop = c.loop-start in
    let long = taken_long args.table.now (slice_bytes args.table.now c.type_inv.table) pre.0 args.starts pre.1 c.from.result c.from.ensures in
    let below : loop.start-index < byte args.table.now 3 = omega (arith, c.loop-start-test.true) in
    omega (arith, start_fits args.table.now (slice_bytes args.table.now c.type_inv.table) pre.0 loop.start-index below (get_or (take c.from.result args.starts) loop.start-index 0) (taken_found args.table.now (slice_bytes args.table.now c.type_inv.table) pre.0 args.starts pre.1 c.from.result c.from.ensures loop.start-index c.loop-start-test.true))

pub put_node-at-requires : goal.put_node-at-requires
put_node-at-requires c =
    let args = c.args in
    let pre = c.requires in
    let loop = c.loop-start in
    let long = taken_long args.table.now (slice_bytes args.table.now c.type_inv.table) pre.0 args.starts pre.1 c.from.result c.from.ensures in
    let below : loop.start-index < byte args.table.now 3 = omega (arith, c.loop-start-test.true) in
    node_asked args.table.now (slice_bytes args.table.now c.type_inv.table) pre.0 loop.start-index below c.from-place.result (c.from-place.ensures ∙ taken_found args.table.now (slice_bytes args.table.now c.type_inv.table) pre.0 args.starts pre.1 c.from.result c.from.ensures loop.start-index c.loop-start-test.true) c.budgeted-budgets.result c.budgeted-budgets.ensures loop.invariant.1 pre.2

pub loop-start-preserved : goal.loop-start-preserved
loop-start-preserved c =
    let args = c.args in
    let pre = c.requires in
    let loop = c.loop-start in
    let long = taken_long args.table.now (slice_bytes args.table.now c.type_inv.table) pre.0 args.starts pre.1 c.from.result c.from.ensures in
    let below : loop.start-index < byte args.table.now 3 = omega (arith, c.loop-start-test.true) in
    (omega arith, node_on args.table.now (slice_bytes args.table.now c.type_inv.table) pre.0 loop.start-index below c.from-place.result (c.from-place.ensures ∙ taken_found args.table.now (slice_bytes args.table.now c.type_inv.table) pre.0 args.starts pre.1 c.from.result c.from.ensures loop.start-index c.loop-start-test.true) c.budgeted-budgets.result c.budgeted-budgets.ensures loop.invariant.1 c.put_node-at.ensures)

pub shape_of-out : goal.shape_of-out
shape_of-out c = writing_long c.loop-start.invariant.1

pub returns : goal.returns
returns c =
    let args = c.args in
    let pre = c.requires in
    let loop = c.loop-start in
    let long = taken_long args.table.now (slice_bytes args.table.now c.type_inv.table) pre.0 args.starts pre.1 c.from.result c.from.ensures in
    let gone : byte args.table.now 3 ≤ loop.start-index = omega (arith, c.loop-start-test.false) in
    put_all (left_is (nodes_gone args.table.now (slice_bytes args.table.now c.type_inv.table) pre.0 loop.start-index gone) loop.invariant.1)
