-- `refusal_place::edges::pairs` meets its contract. Assumes nothing.
use mathlib.Core.Path.{◌≡◌}
use mathlib.Core.Bool.{true}
use Prim.Native.Nat.{ℕ, ◌+◌, ◌-◌, ◌*◌, ◌≤◌}
use Rattle.refusal_place.specs.Walk.{going, one_pair, counted, numbered, pairs}
use Rattle.refusal_place.proofs.edges.pairs.Given as goal

abbrev pub invariant-loop-i : goal.invariant-loop-i
invariant-loop-i l =
    (l.walk.at ≤ l.end) × (l.from ≡ l.initial.walk.at) × (going l.walk ≡ true → l.walk.at ≡ l.from + l.i * 2)
    × (counted (λ (k : ℕ). one_pair l.table l.end l.initial.walk.at l.sizes (numbered l.who k)) l.i (l.count - l.i) l.walk ≡ pairs l.table l.end l.sizes l.who l.count l.initial.walk)
