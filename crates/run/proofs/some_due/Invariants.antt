-- `run::some_due` meets its contract. Assumes nothing.
use mathlib.Core.Path.{◌≡◌}
use mathlib.Core.Bool.{Bool}
use mathlib.Core.List.{List}
use Prim.Native.Nat.{ℕ, ◌-◌, ◌≤◌}
use lib.Dec.{eqb}
use Rattle.model.specs.Lists.{any, from, below}
use Rattle.registers.specs.Words.{word_in}
use Rattle.run.proofs.some_due.Given as goal

-- node k is due
abbrev pub is_due : List ℕ → ℕ → ℕ → Bool
is_due l tick k = eqb (word_in l k 26) tick

abbrev pub invariant-loop-c : goal.invariant-loop-c
invariant-loop-c l =
    (l.c ≤ l.count) × (any (is_due l.words l.tick) (from l.c (l.count - l.c)) ≡ any (is_due l.words l.tick) (below l.count))
