-- `translator::put_nodes` meets its contract. Assumes nothing.
use Prim.Native.Nat.{◌≤◌}
use Rattle.blocks.proofs.Runs.{Writing}
use Rattle.translator.proofs.Programs.{nodes_from}
use Rattle.translator.proofs.put_nodes.Given as goal

abbrev pub invariant-loop-start : goal.invariant-loop-start
invariant-loop-start l = (l.start-index ≤ l.count) × Writing l.initial.out l.from (nodes_from l.table 0) l.out l.at (nodes_from l.table l.start-index)
