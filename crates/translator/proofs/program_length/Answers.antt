-- `translator::program_length` meets its contract. Assumes nothing.
use mathlib.Core.Path.{sym, ap, ◌∙◌}
use Prim.Native.Nat.{◌≤◌, ◌<◌}
use native.Mathlib.Omega.{arith}
use Rattle.model.specs.Reader.{byte}
use lib.ListN.{length, get_or, take}
use Rattle.model.specs.Places.{read_of}
use Rattle.model.specs.Program.{program_bytes}
use Rattle.translator.proofs.Standing.{slice_bytes, few_nodes, start_fits, taken_long, taken_found, valid_long, node_whole, node_sourced, node_small}
use Rattle.translator.proofs.Programs.{nodes_gone, program_long, program_most, node_counted}
use Rattle.translator.proofs.program_length.Goals as goal

pub budgeted-budgets-requires : goal.budgeted-budgets-requires
budgeted-budgets-requires c =
    let args = c.args in
    let pre = c.requires in
    omega (arith, valid_long args.table.now (slice_bytes args.table.now c.type_inv.table) pre.0)

pub bounds-table-3 : goal.bounds-table-3
bounds-table-3 c =
    let args = c.args in
    let pre = c.requires in
    omega (arith, valid_long args.table.now (slice_bytes args.table.now c.type_inv.table) pre.0)

pub slice_bounds-starts-end : goal.slice_bounds-starts-end
slice_bounds-starts-end c = omega (arith, few_nodes c.args.table.now (slice_bytes c.args.table.now c.type_inv.table) c.requires.0, c.from.ensures)

pub slice_bounds-start-items-end : goal.slice_bounds-start-items-end
slice_bounds-start-items-end c = omega (arith, taken_long c.args.table.now (slice_bytes c.args.table.now c.type_inv.table) c.requires.0 c.args.starts c.requires.1 c.from.result c.from.ensures, c.from.ensures)

pub loop-start-init : goal.loop-start-init
loop-start-init c = (omega arith, sym (program_long (read_of c.args.table.now)))

pub slice_bounds-node_length-count : goal.slice_bounds-node_length-count
slice_bounds-node_length-count c =
    let args = c.args in
    let pre = c.requires in
    let loop = c.loop-start in
    let long = taken_long args.table.now (slice_bytes args.table.now c.type_inv.table) pre.0 args.starts pre.1 c.from.result c.from.ensures in
    let below : loop.start-index < byte args.table.now 3 = omega (arith, c.loop-start-test.true) in
    omega (arith, start_fits args.table.now (slice_bytes args.table.now c.type_inv.table) pre.0 loop.start-index below (get_or (take c.from.result args.starts) loop.start-index 0) (taken_found args.table.now (slice_bytes args.table.now c.type_inv.table) pre.0 args.starts pre.1 c.from.result c.from.ensures loop.start-index c.loop-start-test.true))

pub slice_bounds-node_length-start : goal.slice_bounds-node_length-start
slice_bounds-node_length-start c =
    let args = c.args in
    let pre = c.requires in
    let loop = c.loop-start in
    let long = taken_long args.table.now (slice_bytes args.table.now c.type_inv.table) pre.0 args.starts pre.1 c.from.result c.from.ensures in
    let below : loop.start-index < byte args.table.now 3 = omega (arith, c.loop-start-test.true) in
    omega (arith, start_fits args.table.now (slice_bytes args.table.now c.type_inv.table) pre.0 loop.start-index below (get_or (take c.from.result args.starts) loop.start-index 0) (taken_found args.table.now (slice_bytes args.table.now c.type_inv.table) pre.0 args.starts pre.1 c.from.result c.from.ensures loop.start-index c.loop-start-test.true))

pub node_length-long-requires : goal.node_length-long-requires
node_length-long-requires c =
    let args = c.args in
    let pre = c.requires in
    let loop = c.loop-start in
    let long = taken_long args.table.now (slice_bytes args.table.now c.type_inv.table) pre.0 args.starts pre.1 c.from.result c.from.ensures in
    let below : loop.start-index < byte args.table.now 3 = omega (arith, c.loop-start-test.true) in
    (node_whole args.table.now (slice_bytes args.table.now c.type_inv.table) pre.0 loop.start-index below c.from-place.result (c.from-place.ensures ∙ taken_found args.table.now (slice_bytes args.table.now c.type_inv.table) pre.0 args.starts pre.1 c.from.result c.from.ensures loop.start-index c.loop-start-test.true) c.budgeted-budgets.result c.budgeted-budgets.ensures, node_sourced args.table.now (slice_bytes args.table.now c.type_inv.table) pre.0 loop.start-index below c.from-place.result (c.from-place.ensures ∙ taken_found args.table.now (slice_bytes args.table.now c.type_inv.table) pre.0 args.starts pre.1 c.from.result c.from.ensures loop.start-index c.loop-start-test.true) c.budgeted-budgets.result c.budgeted-budgets.ensures, node_small args.table.now (slice_bytes args.table.now c.type_inv.table) pre.0 loop.start-index below c.from-place.result (c.from-place.ensures ∙ taken_found args.table.now (slice_bytes args.table.now c.type_inv.table) pre.0 args.starts pre.1 c.from.result c.from.ensures loop.start-index c.loop-start-test.true) c.budgeted-budgets.result c.budgeted-budgets.ensures)

pub overflow_add-long : goal.overflow_add-long
overflow_add-long c =
    let args = c.args in
    let pre = c.requires in
    let loop = c.loop-start in
    let long = taken_long args.table.now (slice_bytes args.table.now c.type_inv.table) pre.0 args.starts pre.1 c.from.result c.from.ensures in
    let below : loop.start-index < byte args.table.now 3 = omega (arith, c.loop-start-test.true) in
    omega (arith, (node_counted args.table.now (slice_bytes args.table.now c.type_inv.table) pre.0 loop.start-index below c.from-place.result (c.from-place.ensures ∙ taken_found args.table.now (slice_bytes args.table.now c.type_inv.table) pre.0 args.starts pre.1 c.from.result c.from.ensures loop.start-index c.loop-start-test.true) c.budgeted-budgets.result c.budgeted-budgets.ensures loop.long (length (program_bytes (read_of args.table.now))) c.node_length-long.result loop.invariant.1 c.node_length-long.ensures).0, program_most args.table.now (slice_bytes args.table.now c.type_inv.table) pre.0)

pub loop-start-preserved : goal.loop-start-preserved
loop-start-preserved c =
    let args = c.args in
    let pre = c.requires in
    let loop = c.loop-start in
    let long = taken_long args.table.now (slice_bytes args.table.now c.type_inv.table) pre.0 args.starts pre.1 c.from.result c.from.ensures in
    let below : loop.start-index < byte args.table.now 3 = omega (arith, c.loop-start-test.true) in
    (omega arith, (node_counted args.table.now (slice_bytes args.table.now c.type_inv.table) pre.0 loop.start-index below c.from-place.result (c.from-place.ensures ∙ taken_found args.table.now (slice_bytes args.table.now c.type_inv.table) pre.0 args.starts pre.1 c.from.result c.from.ensures loop.start-index c.loop-start-test.true) c.budgeted-budgets.result c.budgeted-budgets.ensures loop.long (length (program_bytes (read_of args.table.now))) c.node_length-long.result loop.invariant.1 c.node_length-long.ensures).1)

pub returns : goal.returns
returns c =
    let args = c.args in
    let pre = c.requires in
    let loop = c.loop-start in
    let long = taken_long args.table.now (slice_bytes args.table.now c.type_inv.table) pre.0 args.starts pre.1 c.from.result c.from.ensures in
    let gone : byte args.table.now 3 ≤ loop.start-index = omega (arith, c.loop-start-test.false) in
    let z = ap length (nodes_gone args.table.now (slice_bytes args.table.now c.type_inv.table) pre.0 loop.start-index gone) in
    (omega (arith, loop.invariant.1), omega (arith, loop.invariant.1, program_most args.table.now (slice_bytes args.table.now c.type_inv.table) pre.0))
