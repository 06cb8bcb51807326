-- `schedule::go_on` meets its contract. Assumes nothing.
use mathlib.Core.Path.{◌≡◌}
use Prim.Native.Nat.{◌-◌, ◌≤◌}
use lib.ListN.{length}
use Rattle.model.specs.Table.{size}
use Rattle.model.specs.Places.{read_of}
use Rattle.schedule.proofs.Turns.{Progress}
use Rattle.schedule.proofs.go_on.Given as goal

abbrev pub invariant-loop-starts : goal.invariant-loop-starts
invariant-loop-starts l =
    (l.filled ≤ 1024) × (1 ≤ l.count) × (l.count ≤ 8) × (l.count ≡ size (read_of l.table).table) × (l.horizon ≡ (read_of l.table).horizon) × (l.horizon ≤ 60000) × (length l.nodes ≡ 8) × (length l.ends ≡ 8)
    × (9216 ≤ length l.rows)
    × (length l.rows ≡ length l.initial.rows)
    × Progress l.table l.rows l.filled l.nodes l.ends

abbrev pub decreases-loop-starts : goal.decreases-loop-starts
decreases-loop-starts l = 1024 - l.filled
