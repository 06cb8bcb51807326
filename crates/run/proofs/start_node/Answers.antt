-- `run::start_node` meets its contract. Assumes nothing.
use Rattle.run.proofs.Beginning.{put_eight, put_inside, put_wake, begun_within, node_started}
use Rattle.run.proofs.start_node.Goals as goal

pub put_node-requires : goal.put_node-requires
put_node-requires c =
    let program = c.args.program.now in
    let pre = c.requires in
    (put_eight program c.type_inv.program c.span_of-span.ensures c.put_fixed.ensures pre.0, pre.1, pre.2, put_inside program c.type_inv.program c.span_of-span.ensures c.put_fixed.ensures, begun_within program c.type_inv.program c.span_of-span.ensures c.put_fixed.ensures c.start_node-begun.ensures, put_wake program c.type_inv.program c.span_of-span.ensures c.put_fixed.ensures pre.6)

pub returns : goal.returns
returns c =
    let s = c in
    let program = s.args.program.now in
    node_started program c.type_inv.program c.span_of-span.ensures c.put_fixed.ensures s.args.rows.now s.args.passages s.requires.4 s.requires.5 s.requires.6 c.start_node-begun.ensures c.next_row-row.ensures c.put_node.ensures
