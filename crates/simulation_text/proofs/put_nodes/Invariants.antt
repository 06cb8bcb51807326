-- `simulation_text::put_nodes` meets its contract. Assumes nothing.
use mathlib.Core.Path.{◌≡◌}
use mathlib.Core.List.{◌++◌}
use Prim.Native.Nat.{◌+◌, ◌*◌, ◌-◌, ◌≤◌}
use lib.ListN.{length, take}
use Rattle.simulation_text.specs.SimulationText.{node_lines}
use Rattle.simulation_text.proofs.Lining.{rest}
use Rattle.simulation_text.proofs.put_nodes.Given as goal

abbrev pub invariant-loop-c : goal.invariant-loop-c
invariant-loop-c l =
    (l.c ≤ l.count) × (l.count ≤ 8) × (length l.nodes ≡ 8) × (l.at + l.count * 28 ≤ length l.initial.out) × (length l.out ≡ length l.initial.out) × (l.end ≤ l.at + l.c * 28)
    × (take l.end l.out ++ rest l.nodes l.count l.c ≡ take l.at l.initial.out ++ node_lines l.nodes l.count)

abbrev pub decreases-loop-c : goal.decreases-loop-c
decreases-loop-c l = l.count - l.c
