-- `period::start` meets its contract. Assumes nothing.
use mathlib.Core.Path.{◌≡◌}
use Prim.Native.Nat.{ℕ, ◌≤◌, ◌<◌}
use lib.ListN.{length, get_or}
use Rattle.model.specs.Table.{size}
use Rattle.model.specs.Places.{read_of}
use Rattle.period.specs.Walking.{no_entry}
use Rattle.period.proofs.Joining.{Fresh}
use Rattle.period.proofs.start.Given as goal

abbrev pub invariant-loop-component : goal.invariant-loop-component
invariant-loop-component l =
    (l.component ≤ l.components) × (l.components ≡ size (read_of l.table).table) × (l.components ≤ 8) × (length l.entries ≡ 8) × ((d : ℕ) → d < l.component → Fresh l.table d (get_or l.entries d no_entry))
