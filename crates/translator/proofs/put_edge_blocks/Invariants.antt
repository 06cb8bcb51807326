-- `translator::put_edge_blocks` meets its contract. Assumes nothing.
use Prim.Native.Nat.{◌-◌, ◌/◌, ◌≤◌}
use lib.ListN.{length, drop}
use Rattle.blocks.specs.FrontEdges.{ArcsFit}
use Rattle.translator.specs.Laid.{Aligned}
use Rattle.translator.proofs.Laying.{Laying, edges_from}
use Rattle.translator.proofs.put_edge_blocks.Given as goal

abbrev pub invariant-loop : goal.invariant-loop
invariant-loop l =
    (l.edge ≤ length l.bytes) × ArcsFit l.budgets (l.count - l.counter) (drop l.edge l.bytes) × Aligned l.first l.at
    × Laying l.initial.out ((l.from - l.first) / 4) l.starts l.from (edges_from l.budgets l.clocks l.count l.bytes) l.out ((l.at - l.first) / 4) l.place l.at (edges_from l.budgets l.clocks (l.count - l.counter) (drop l.edge l.bytes))
