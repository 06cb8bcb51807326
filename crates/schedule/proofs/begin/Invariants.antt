-- `schedule::begin` meets its contract. Assumes nothing.
use mathlib.Core.Path.{◌≡◌}
use Prim.Native.Nat.{◌≤◌}
use lib.ListN.{length}
use Rattle.model.specs.Table.{size}
use Rattle.model.specs.Places.{read_of}
use Rattle.schedule.proofs.Turns.{Beginning}
use Rattle.schedule.proofs.begin.Given as goal

abbrev pub invariant-loop-component : goal.invariant-loop-component
invariant-loop-component l =
    (l.count ≡ size (read_of l.table).table) × (l.count ≤ 8) × (length l.nodes ≡ 8) × (length l.ends ≡ 8) × (length l.rows ≡ length l.initial.rows) × Beginning l.table l.rows l.component l.nodes l.ends
