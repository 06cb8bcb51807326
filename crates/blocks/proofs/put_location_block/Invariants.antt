-- `blocks::put_location_block` meets its contract. Assumes nothing.
use Prim.Native.Nat.{◌-◌, ◌≤◌}
use lib.ListN.{length, drop}
use Rattle.blocks.specs.FrontEdges.{ArcsFit}
use Rattle.blocks.proofs.Runs.{Writing}
use Rattle.blocks.proofs.Blocks.{block_from}
use Rattle.blocks.proofs.put_location_block.Given as goal

abbrev pub invariant-loop-e : goal.invariant-loop-e
invariant-loop-e l =
    (l.e ≤ l.count) × (l.place ≤ length l.bytes) × ArcsFit l.budgets (l.count - l.e) (drop l.place l.bytes)
    × Writing l.initial.out l.at (block_from l.budgets l.location l.here 0 l.count l.bytes) l.out l.next (block_from l.budgets l.location l.here l.e (l.count - l.e) (drop l.place l.bytes))
