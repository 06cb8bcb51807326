-- `planner::put_hub_edges` meets its contract. Assumes nothing.
use Prim.Native.Nat.{◌+◌, ◌*◌, ◌≤◌}
use mathlib.Core.Path.{◌≡◌}
use Rattle.model.specs.Bytes.{arc_bytes}
use Rattle.slot_plan.specs.Plan.{hear_arc}
use Rattle.planner.proofs.Runs.{Putting}
use Rattle.planner.proofs.Pieces.{left}
use Rattle.planner.proofs.put_hub_edges.Given as goal

abbrev pub invariant-loop-i : goal.invariant-loop-i
invariant-loop-i l = (l.i ≤ l.slots.probes) × (l.at ≡ l.from + l.i * 14) × Putting l.initial.out l.from (left arc_bytes (hear_arc l.slots) l.slots.probes 0) l.out l.at (left arc_bytes (hear_arc l.slots) l.slots.probes l.i)
