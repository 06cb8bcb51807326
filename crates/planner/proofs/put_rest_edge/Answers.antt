-- `planner::put_rest_edge` meets its contract. Assumes nothing.
use Rattle.model.specs.Lists.{each}
use Rattle.model.specs.Bytes.{item_bytes, arc_bytes}
use Rattle.planner.proofs.Runs.{put_join}
use Rattle.planner.proofs.put_rest_edge.Goals as goal

pub returns : goal.returns
unfolding each item_bytes arc_bytes
returns c = put_join c.put_edge_head-bound.ensures c.put_low.ensures
