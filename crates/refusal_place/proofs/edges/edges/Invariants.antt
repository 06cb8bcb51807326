-- `refusal_place::edges::edges` meets its contract. Assumes nothing.
use mathlib.Core.Path.{◌≡◌}
use Prim.Native.Nat.{◌-◌, ◌≤◌}
use Rattle.refusal_place.specs.Walk.{counted, edge, edges}
use Rattle.refusal_place.proofs.edges.edges.Given as goal

abbrev pub invariant-loop-e : goal.invariant-loop-e
invariant-loop-e l =
    (l.walk.at ≤ l.end)
    × (counted (edge l.table l.end l.sizes l.c) l.e (l.count - l.e) l.walk ≡ edges l.table l.end l.sizes l.c l.count l.initial.walk)
