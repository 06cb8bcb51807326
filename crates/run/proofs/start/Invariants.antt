-- `run::start` meets its contract. Assumes nothing.
use mathlib.Core.Path.{◌≡◌}
use Prim.Native.Nat.{◌≤◌}
use lib.ListN.{length}
use Rattle.run.proofs.Beginnings.{StartedTo}
use Rattle.run.proofs.start.Given as goal

abbrev pub invariant-loop-c : goal.invariant-loop-c
invariant-loop-c l = (l.c ≤ l.count) × (length l.words ≡ length l.initial.words) × (length l.values ≡ length l.initial.values) × StartedTo l.table l.program l.rows l.passages l.offsets l.words l.values l.c
