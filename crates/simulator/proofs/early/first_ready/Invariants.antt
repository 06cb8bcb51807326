-- `simulator::early::first_ready` meets its contract. Assumes nothing.
use Rattle.simulator.specs.Tries.{PassedTo}
use Rattle.simulator.proofs.early.first_ready.Given as goal

abbrev pub invariant-loop-c : goal.invariant-loop-c
invariant-loop-c l = PassedTo l.words l.count l.tick l.turn l.left l.c
