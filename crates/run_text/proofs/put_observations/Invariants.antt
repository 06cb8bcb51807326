-- `run_text::put_observations` meets its contract. Assumes nothing.
use mathlib.Core.Path.{◌≡◌}
use mathlib.Core.List.{List, ◌++◌}
use Prim.Native.Nat.{ℕ, ◌+◌, ◌*◌, ◌-◌, ◌≤◌}
use lib.ListN.{length, take}
use Rattle.run_text.specs.RunText.{observation_line, observation_lines}
use Rattle.text.proofs.Lines.{left}
use Rattle.run_text.proofs.put_observations.Given as goal

-- an observation is told by its own bytes
abbrev pub itself : List ℕ → List ℕ
itself o = o

abbrev pub lines : List ℕ → ℕ → ℕ → List ℕ
lines = left 36 itself observation_line

abbrev pub invariant-loop-i : goal.invariant-loop-i
invariant-loop-i l =
    (l.i ≤ l.n) × (l.at + l.n * 220 ≤ length l.initial.out) × (l.n * 36 ≤ length l.bytes) × (length l.out ≡ length l.initial.out) × (l.end ≤ l.at + l.i * 220)
    × (take l.end l.out ++ lines l.bytes l.n l.i ≡ take l.at l.initial.out ++ observation_lines l.bytes l.n)
