-- `checks::distances::least_before` meets its contract. Assumes nothing.
use Prim.Native.Nat.{◌≤◌}
use Rattle.checks.proofs.distances.least_before.Given as goal

abbrev pub invariant-loop-j : goal.invariant-loop-j
invariant-loop-j l = l.j ≤ l.i

abbrev pub decreases-loop-j : goal.decreases-loop-j
decreases-loop-j l = l.j
