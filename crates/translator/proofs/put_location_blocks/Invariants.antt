-- `translator::put_location_blocks` meets its contract. Assumes nothing.
use Prim.Native.Nat.{◌-◌, ◌/◌, ◌≤◌}
use Rattle.model.specs.Reader.{byte}
use Rattle.translator.specs.Laid.{Aligned}
use Rattle.translator.proofs.Laying.{Laying, locations_from}
use Rattle.translator.proofs.put_location_blocks.Given as goal

abbrev pub invariant-loop-here : goal.invariant-loop-here
invariant-loop-here l =
    (l.here ≤ l.n) × Aligned l.first l.at
    × Laying l.initial.out 0 l.starts l.first (locations_from l.budgets l.component 0 (byte l.component 2)) l.out ((l.at - l.first) / 4) l.place l.at (locations_from l.budgets l.component l.here (l.n - l.here))
