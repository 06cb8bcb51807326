-- `translator::put_node` meets its contract. Assumes nothing.
use Prim.Native.Nat.{◌+◌, ◌*◌}
use native.Mathlib.Omega.{arith}
use Rattle.translator.proofs.Laying.{arcs_there}
use Rattle.translator.proofs.Nodes.{ready_locations, aligned_from, ready_edges, node_long, head_room, node_put}
use Rattle.translator.proofs.put_node.Goals as goal

pub put_location_blocks-from-requires : goal.put_location_blocks-from-requires
put_location_blocks-from-requires c =
    let pre = c.requires in
    let args = c.args in
    (pre.0, ready_locations args.budgets args.component.now args.out.now args.at c.wide-2.result c.wide-3.result (7 + c.wide.result * 3) c.wide-2.ensures.0 c.wide-3.ensures.0 (omega (arith, c.wide.ensures.0)) pre.1 pre.2)

pub put_edge_blocks-end-requires : goal.put_edge_blocks-end-requires
put_edge_blocks-end-requires c =
    let args = c.args in
    let pre = c.requires in
    (arcs_there args.budgets args.component.now (7 + c.wide.result * 3) (omega (arith, c.wide.ensures.0)) pre.0, aligned_from args.budgets args.component.now args.out.now args.at c.wide-2.result c.wide-3.result (7 + c.wide.result * 3) c.wide-2.ensures.0 c.wide-3.ensures.0 (omega (arith, c.wide.ensures.0)) pre.1 pre.2 c.put_location_blocks-from.ensures, ready_edges args.budgets args.component.now args.out.now args.at c.wide-2.result c.wide-3.result (7 + c.wide.result * 3) c.wide-2.ensures.0 c.wide-3.ensures.0 (omega (arith, c.wide.ensures.0)) pre.1 pre.2 c.put_location_blocks-from.ensures)

pub overflow_cast-end : goal.overflow_cast-end
overflow_cast-end c =
    let args = c.args in
    let pre = c.requires in
    omega (arith, (node_long args.budgets args.component.now args.out.now args.at c.wide-2.result c.wide-3.result (7 + c.wide.result * 3) c.wide-2.ensures.0 c.wide-3.ensures.0 (omega (arith, c.wide.ensures.0)) pre.1 pre.2 c.put_location_blocks-from.ensures c.put_edge_blocks-end.ensures).2)

pub put_node_head-requires : goal.put_node_head-requires
put_node_head-requires c =
    let args = c.args in
    let pre = c.requires in
    head_room args.budgets args.component.now args.out.now args.at c.wide-2.result c.wide-3.result (7 + c.wide.result * 3) c.wide-2.ensures.0 c.wide-3.ensures.0 (omega (arith, c.wide.ensures.0)) pre.1 pre.2 c.put_location_blocks-from.ensures c.put_edge_blocks-end.ensures

pub returns : goal.returns
returns c =
    let args = c.args in
    let pre = c.requires in
    node_put args.budgets args.component.now args.out.now args.at c.wide-2.result c.wide-3.result (7 + c.wide.result * 3) c.wide-2.ensures.0 c.wide-3.ensures.0 (omega (arith, c.wide.ensures.0)) pre.1 pre.2 c.put_location_blocks-from.ensures c.put_edge_blocks-end.ensures c.put_node_head.ensures
