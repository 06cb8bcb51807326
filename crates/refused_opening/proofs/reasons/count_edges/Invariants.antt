-- `refused_opening::reasons::count_edges` meets its contract. Assumes nothing.
use mathlib.Core.Path.{◌≡◌}
use Prim.Native.Nat.{◌≤◌}
use Rattle.model.specs.Places.{arc_place, component_in}
use Rattle.window.specs.Views.{entry_of}
use Rattle.refused_opening.proofs.Counted.{Counted}
use Rattle.refused_opening.proofs.reasons.count_edges.Given as goal

abbrev pub invariant-loop : goal.invariant-loop
invariant-loop l =
    (l.place ≡ arc_place l.table l.start l.counter) × (l.tally.leaving ≤ l.counter) × (l.tally.blocked ≤ l.counter) × (l.tally.windowless ≤ l.counter)
    × Counted l.location (entry_of l.at) (component_in l.table l.c).arcs l.counter l.tally
