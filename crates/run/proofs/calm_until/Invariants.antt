-- `run::calm_until` meets its contract. Assumes nothing.
use Prim.Native.Nat.{ℕ, ◌-◌, ◌≤◌, ◌<◌}
use Rattle.registers.specs.Words.{word_in}
use Rattle.run.proofs.calm_until.Given as goal

abbrev pub invariant-loop-c : goal.invariant-loop-c
invariant-loop-c l =
    (l.c ≤ l.count) × ((i : ℕ) → i < l.c → l.calm ≤ word_in l.words i 26) × ((i : ℕ) → i < l.c → l.calm ≤ word_in l.words i 27) × (l.calm ≤ l.horizon - 1)
