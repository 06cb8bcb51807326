-- `planner::put_probe` meets its contract. Assumes nothing.
use Rattle.model.specs.Lists.{each}
use Rattle.model.specs.Bytes.{item_bytes, arc_bytes}
use native.Mathlib.Omega.{arith}
use Rattle.planner.proofs.Runs.{put_is, put_join}
use Rattle.planner.proofs.Pieces.{probe_bytes}
use Rattle.planner.proofs.put_probe.Goals as goal

pub put_rest_edge-requires : goal.put_rest_edge-requires
unfolding each item_bytes arc_bytes
put_rest_edge-requires c =
    let e = c in
    (omega (arith, e.requires.2, c.put_component_head-first.ensures.ends, c.put_location-last.ensures.ends, c.put_location-edges.ensures.ends, c.put_send_edge-rest.ensures.ends, c.put_component_head-first.auto.out, c.put_location-last.auto.out, c.put_location-edges.auto.out, c.put_send_edge-rest.auto.out), omega (arith, e.requires.0.most_period))

pub returns : goal.returns
returns c =
    let e = c in
    put_is (probe_bytes e.args.slots e.args.i c.slot_begin.result c.slot_begin.ensures.0) (put_join (put_join (put_join (put_join c.put_component_head-first.ensures c.put_location-last.ensures) c.put_location-edges.ensures) c.put_send_edge-rest.ensures) c.put_rest_edge.ensures)
