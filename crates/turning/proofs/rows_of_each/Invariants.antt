-- `turning::rows_of_each` meets its contract. Assumes nothing.
use mathlib.Core.Path.{◌≡◌}
use Prim.Native.Nat.{ℕ, ◌≤◌, ◌<◌}
use lib.ListN.{length, get_or}
use Rattle.rows.specs.Rows.{rows_of}
use Rattle.turning.specs.Turned.{between}
use Rattle.turning.proofs.rows_of_each.Given as goal

abbrev pub invariant-loop-c : goal.invariant-loop-c
invariant-loop-c l = (l.c ≤ l.count) × (length l.numbers ≡ 8) × ((n k : ℕ) → l.second ≤ n → k < l.c → get_or l.numbers k 0 ≡ between (rows_of l.rows n) l.first l.second k)
