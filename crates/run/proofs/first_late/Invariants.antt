-- `run::first_late` meets its contract. Assumes nothing.
use Prim.Native.Nat.{ℕ, ◌≤◌, ◌<◌}
use Rattle.registers.specs.Words.{word_in}
use Rattle.run.proofs.first_late.Given as goal

abbrev pub invariant-loop-c : goal.invariant-loop-c
invariant-loop-c l = (l.c ≤ l.count) × ((i : ℕ) → i < l.c → l.tick ≤ word_in l.words i 27)
