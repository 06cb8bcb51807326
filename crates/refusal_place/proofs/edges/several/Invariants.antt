-- `refusal_place::edges::several` meets its contract. Assumes nothing.
use mathlib.Core.Path.{◌≡◌}
use Prim.Native.Nat.{ℕ, ◌-◌, ◌≤◌}
use Rattle.refusal_place.specs.Walk.{one_part, counted, numbered, several}
use Rattle.refusal_place.proofs.edges.several.Given as goal

abbrev pub invariant-loop-i : goal.invariant-loop-i
invariant-loop-i l =
    (l.walk.at ≤ l.end)
    × (counted (λ (k : ℕ). one_part l.table l.end l.sizes (numbered l.who k)) l.i (l.count - l.i) l.walk ≡ several l.table l.end l.sizes l.who l.count l.initial.walk)
