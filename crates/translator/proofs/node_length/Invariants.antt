-- `translator::node_length` meets its contract. Assumes nothing.
use mathlib.Core.Path.{◌≡◌}
use Prim.Native.Nat.{◌+◌, ◌-◌, ◌≤◌}
use lib.ListN.{length, drop}
use Rattle.model.specs.Program.{node_bytes}
use Rattle.blocks.specs.FrontEdges.{ArcsFit}
use Rattle.translator.specs.Front.{front_component}
use Rattle.translator.proofs.Sizes.{shares_from}
use Rattle.translator.proofs.node_length.Given as goal

abbrev pub invariant-loop : goal.invariant-loop
invariant-loop l =
    (l.edge ≤ length l.component) × ArcsFit l.budgets (l.arcs - l.counter) (drop l.edge l.component)
    × (l.long + shares_from l.budgets l.clocks (l.arcs - l.counter) (drop l.edge l.component) ≡ length (node_bytes (front_component l.budgets l.component)))
