-- `simulated_runs::many_runs` meets its contract. Assumes nothing.
use Prim.Native.Nat.{◌-◌}
use Rattle.simulated_runs.proofs.Counting.{Tallying}
use Rattle.simulated_runs.proofs.many_runs.Given as goal

abbrev pub invariant-loop : goal.invariant-loop
invariant-loop l =
    Tallying l.table (record { lo = l.lo; hi = l.hi }) l.runs l.seed (l.runs - l.counter) l.late l.nodes l.state
