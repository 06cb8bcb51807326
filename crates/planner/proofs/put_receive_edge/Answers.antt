-- `planner::put_receive_edge` meets its contract. Assumes nothing.
use Rattle.planner.proofs.Pieces.{hearing_bytes}
use native.Mathlib.Omega.{arith}
use lib.ListN.{length-set}
use Rattle.planner.proofs.Runs.{put_is, put_join, put_two}
use Rattle.planner.proofs.put_receive_edge.Goals as goal

pub bounds-out-item-2 : goal.bounds-out-item-2
bounds-out-item-2 c = simp length-set (omega arith)

pub shape_of-out : goal.shape_of-out
shape_of-out c = simp length-set (omega arith)

pub returns : goal.returns
returns c = put_is (hearing_bytes _ _) (put_join (put_join c.put_edge_head-bound.ensures c.put_low-item.ensures) (put_two _ _ _ _))
