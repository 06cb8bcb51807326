-- `schedule::soonest` meets its contract. Assumes nothing.
use Rattle.schedule.specs.Going.{Soonest}
use Rattle.schedule.proofs.soonest.Given as goal

abbrev pub invariant-loop-i : goal.invariant-loop-i
invariant-loop-i l = Soonest l.ends l.i l.best
