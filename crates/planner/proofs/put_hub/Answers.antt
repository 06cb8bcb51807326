-- `planner::put_hub` meets its contract. Assumes nothing.
use native.Mathlib.Omega.{arith}
use Rattle.planner.proofs.Runs.{put_is, put_join, put_long}
use Rattle.planner.proofs.Pieces.{places_long, edges_long, hub_bytes}
use Rattle.planner.proofs.put_hub.Goals as goal

pub put_location-edges-requires : goal.put_location-edges-requires
put_location-edges-requires c =
    let e = c in
    (omega (arith, e.requires.1, c.put_component_head-first.ensures.ends, c.put_hub_locations-last.ensures.ends, put_long c.put_component_head-first.ensures, put_long c.put_hub_locations-last.ensures, places_long e.args.slots e.requires.0), omega (arith, e.requires.0.most_period))

pub put_hub_edges-rest-requires : goal.put_hub_edges-rest-requires
put_hub_edges-rest-requires c =
    let e = c in
    (e.requires.0, omega (arith, e.requires.1, c.put_component_head-first.ensures.ends, c.put_hub_locations-last.ensures.ends, c.put_location-edges.ensures.ends, put_long c.put_component_head-first.ensures, put_long c.put_hub_locations-last.ensures, put_long c.put_location-edges.ensures, places_long e.args.slots e.requires.0))

pub put_rest_edge-requires : goal.put_rest_edge-requires
put_rest_edge-requires c =
    let e = c in
    (omega (arith, e.requires.1, c.put_component_head-first.ensures.ends, c.put_hub_locations-last.ensures.ends, c.put_location-edges.ensures.ends, c.put_hub_edges-rest.ensures.ends, put_long c.put_component_head-first.ensures, put_long c.put_hub_locations-last.ensures, put_long c.put_location-edges.ensures, put_long c.put_hub_edges-rest.ensures, places_long e.args.slots e.requires.0, edges_long e.args.slots e.requires.0), omega (arith, e.requires.0.most_period))

pub returns : goal.returns
returns c =
    let e = c in
    put_is (hub_bytes e.args.slots e.requires.0) (put_join (put_join (put_join (put_join c.put_component_head-first.ensures c.put_hub_locations-last.ensures) c.put_location-edges.ensures) c.put_hub_edges-rest.ensures) c.put_rest_edge.ensures)
