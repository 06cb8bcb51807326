-- `planner::put_probes` meets its contract. Assumes nothing.
use Prim.Native.Nat.{◌+◌, ◌*◌, ◌≤◌}
use mathlib.Core.Path.{◌≡◌}
use Rattle.model.specs.Bytes.{component_bytes}
use Rattle.slot_plan.specs.Plan.{probe}
use Rattle.planner.proofs.Runs.{Putting}
use Rattle.planner.proofs.Pieces.{left}
use Rattle.planner.proofs.put_probes.Given as goal

abbrev pub invariant-loop-i : goal.invariant-loop-i
invariant-loop-i l = (l.i ≤ l.slots.probes) × (l.at ≡ l.from + l.i * 38) × Putting l.initial.out l.from (left component_bytes (probe l.slots) l.slots.probes 0) l.out l.at (left component_bytes (probe l.slots) l.slots.probes l.i)
