-- `period::joins` meets its contract. Assumes nothing.
use mathlib.Core.Path.{◌≡◌}
use Prim.Native.Nat.{ℕ, ◌+◌, ◌≤◌, ◌<◌}
use Rattle.rows.specs.Rows.{num}
use Rattle.period.proofs.joins.Given as goal

abbrev pub invariant-loop-c : goal.invariant-loop-c
invariant-loop-c l =
    (l.c ≤ l.components) × (l.row + l.components ≤ l.count) × (l.tick ≡ num l.rows l.row 3) × ((d : ℕ) → d < l.c → (num l.rows (l.row + d) 0 ≡ d) × (num l.rows (l.row + d) 3 ≡ num l.rows l.row 3))
