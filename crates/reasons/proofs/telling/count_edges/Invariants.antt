-- `reasons::telling::count_edges` meets its contract. Assumes nothing.
use mathlib.Core.Path.{◌≡◌}
use lib.ListN.{length}
use Rattle.model.specs.Places.{arc_place, component_in}
use Rattle.reasons.proofs.EdgeReasons.{edges_before}
use Rattle.reasons.proofs.telling.count_edges.Given as goal

abbrev pub invariant-loop : goal.invariant-loop
invariant-loop l =
    (l.place ≡ arc_place l.table l.start l.counter) × (l.k ≡ length (edges_before (component_in l.table l.c) l.here l.counter))
