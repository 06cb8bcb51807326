-- `window::choose` meets its contract. Assumes nothing.
use mathlib.Core.Path.{◌≡◌}
use Prim.Native.Nat.{◌-◌, ◌<◌}
use lib.ListN.{length}
use Rattle.model.specs.Places.{arc_place, component_in}
use Rattle.window.specs.Views.{entry_of, pick_of, Kept}
use Rattle.window.specs.Indexed.{source_of}
use Rattle.window.proofs.Looking.{Searching}
use Rattle.window.proofs.choose.Given as goal

abbrev pub invariant-loop-e : goal.invariant-loop-e
invariant-loop-e l =
    Kept (arc_place l.table l.start) l.best × (l.e < length (component_in l.table l.c).arcs → source_of (component_in l.table l.c) l.e ≡ l.at.location)
    × Searching (component_in l.table l.c) (entry_of l.at) l.location l.e (pick_of l.best)

abbrev pub decreases-loop-e : goal.decreases-loop-e
decreases-loop-e l = l.count - l.e
