-- `machine::listener` meets its contract. Assumes nothing.
use Prim.Native.Nat.{◌≤◌}
use Rattle.machine.proofs.Hearing.{NoneYet}
use Rattle.machine.proofs.listener.Given as goal

abbrev pub invariant-loop-i : goal.invariant-loop-i
invariant-loop-i l = (l.i ≤ l.count) × NoneYet l.program l.words l.channel l.since l.c l.i
