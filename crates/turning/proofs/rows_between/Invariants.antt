-- `turning::rows_between` meets its contract. Assumes nothing.
use mathlib.Core.Path.{◌≡◌}
use Prim.Native.Nat.{ℕ, ◌≤◌}
use Rattle.rows.specs.Rows.{rows_of}
use Rattle.turning.specs.Turned.{between}
use Rattle.turning.proofs.rows_between.Given as goal

abbrev pub invariant-loop-i : goal.invariant-loop-i
invariant-loop-i l = (l.first ≤ l.i) × (l.i ≤ l.second) × (l.number ≤ l.i) × ((n : ℕ) → l.second ≤ n → l.number ≡ between (rows_of l.rows n) l.first l.i l.c)
