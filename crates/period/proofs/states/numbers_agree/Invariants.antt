-- `period::states::numbers_agree` meets its contract. Assumes nothing.
use Prim.Native.Nat.{ℕ, ◌≤◌, ◌<◌}
use lib.ListN.{get_or}
use Rattle.model.specs.Places.{component_in}
use Rattle.period.specs.Walking.{no_entry, SameNumbers}
use Rattle.period.proofs.states.numbers_agree.Given as goal

abbrev pub invariant-loop-c : goal.invariant-loop-c
invariant-loop-c l =
    (l.c ≤ l.components) × (l.components ≤ 8) × ((d : ℕ) → d < l.c → SameNumbers (component_in l.table d).clocks (component_in l.table d).variables (get_or l.here d no_entry) (get_or l.there d no_entry))
