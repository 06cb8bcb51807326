-- `rows::open_before` meets its contract. Assumes nothing.
use Prim.Native.Nat.{ℕ, ◌≤◌, ◌<◌}
use Rattle.rows.specs.Rows.{num}
use Rattle.rows.proofs.open_before.Given as goal

abbrev pub invariant-loop-k : goal.invariant-loop-k
invariant-loop-k l = (l.k ≤ l.j) × ((i : ℕ) → l.k ≤ i → i < l.j → num l.rows i 5 < l.tick)

abbrev pub decreases-loop-k : goal.decreases-loop-k
decreases-loop-k l = l.k
