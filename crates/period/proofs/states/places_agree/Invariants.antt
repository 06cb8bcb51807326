-- `period::states::places_agree` meets its contract. Assumes nothing.
use mathlib.Core.Path.{◌≡◌}
use Prim.Native.Nat.{ℕ, ◌+◌, ◌≤◌, ◌<◌}
use Rattle.rows.specs.Rows.{num}
use Rattle.period.proofs.states.places_agree.Given as goal

abbrev pub invariant-loop-c : goal.invariant-loop-c
invariant-loop-c l = (l.c ≤ l.components) × ((d : ℕ) → d < l.c → num l.rows (l.first + d) 2 ≡ num l.rows (l.second + d) 2)
