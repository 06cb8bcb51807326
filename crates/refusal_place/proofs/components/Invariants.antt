-- `refusal_place::components` meets its contract. Assumes nothing.
use mathlib.Core.Path.{◌≡◌}
use Prim.Native.Nat.{◌-◌, ◌≤◌}
use lib.ListN.{length}
use Rattle.refusal_place.specs.Walk.{counted, component}
use Rattle.refusal_place.proofs.components.Given as goal

abbrev pub invariant-loop-c : goal.invariant-loop-c
invariant-loop-c l =
    (l.walk.at ≤ length l.table)
    × (counted (component l.table l.header) l.c (l.count - l.c) l.walk ≡ counted (component l.table l.header) 0 l.count l.initial.walk)
