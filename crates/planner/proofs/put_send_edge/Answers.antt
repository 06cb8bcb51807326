-- `planner::put_send_edge` meets its contract. Assumes nothing.
use Rattle.model.specs.Lists.{each}
use Rattle.model.specs.Bytes.{item_bytes, arc_bytes}
use native.Mathlib.Omega.{arith}
use lib.ListN.{length-set}
use Rattle.planner.proofs.Runs.{put_join, put_one}
use Rattle.planner.proofs.put_send_edge.Goals as goal

pub shape_of-out : goal.shape_of-out
shape_of-out c = simp length-set (omega arith)

pub returns : goal.returns
unfolding each item_bytes arc_bytes
returns c = put_join (put_join c.put_edge_head-bound.ensures c.put_low-item.ensures) (put_one _ _ _)
