-- `planner::put_hub_locations` meets its contract. Assumes nothing.
use Prim.Native.Nat.{◌+◌, ◌*◌, ◌≤◌}
use mathlib.Core.Path.{◌≡◌}
use Rattle.model.specs.Bytes.{location_bytes}
use Rattle.slot_plan.specs.Plan.{hear_to, until}
use Rattle.planner.proofs.Runs.{Putting}
use Rattle.planner.proofs.Pieces.{left}
use Rattle.planner.proofs.put_hub_locations.Given as goal

abbrev pub invariant-loop-i : goal.invariant-loop-i
invariant-loop-i l = (l.i ≤ l.slots.probes) × (l.at ≡ l.from + l.i * 3) × Putting l.initial.out l.from (left location_bytes (λ k. until (hear_to l.slots k)) l.slots.probes 0) l.out l.at (left location_bytes (λ k. until (hear_to l.slots k)) l.slots.probes l.i)
