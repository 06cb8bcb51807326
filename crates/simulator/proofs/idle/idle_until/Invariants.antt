-- `simulator::idle::idle_until` meets its contract. Assumes nothing.
use Prim.Native.Nat.{◌≤◌}
use Rattle.simulator.proofs.Idling.{IdleTo}
use Rattle.simulator.proofs.idle.idle_until.Given as goal

abbrev pub invariant-loop-c : goal.invariant-loop-c
invariant-loop-c l = (l.c ≤ l.count) × IdleTo l.program l.words l.until l.count l.horizon l.idle l.c
