-- `turning::turn` meets its contract. Assumes nothing.
use Prim.Native.Nat.{◌≤◌}
use Rattle.turning.proofs.Back.{SetBack}
use Rattle.turning.proofs.turn.Given as goal

abbrev pub invariant-loop-c : goal.invariant-loop-c
invariant-loop-c l = (l.c ≤ l.count) × SetBack l.fewer l.first l.initial.words l.words l.c
