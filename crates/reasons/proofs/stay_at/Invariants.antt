-- `reasons::stay_at` meets its contract. Assumes nothing.
use Rattle.reasons.proofs.Staying.{On}
use Rattle.reasons.proofs.stay_at.Given as goal

abbrev pub invariant-loop-i : goal.invariant-loop-i
invariant-loop-i l = On l.table l.rows l.count l.c l.tick l.i l.at
