-- `reasons::telling::put_reasons` meets its contract. Assumes nothing.
use mathlib.Core.Path.{◌≡◌}
use lib.ListN.{length}
use lib.Seq.{sets}
use Rattle.model.specs.Lists.{each}
use Rattle.model.specs.Places.{arc_place, component_in}
use Rattle.window.specs.Views.{entry_of}
use Rattle.reasons.specs.Telling.{edge_bytes}
use Rattle.reasons.proofs.EdgeReasons.{edges_before}
use Rattle.reasons.proofs.telling.put_reasons.Given as goal

abbrev pub invariant-loop-e : goal.invariant-loop-e
invariant-loop-e l =
    (l.place ≡ arc_place l.table l.start l.e) × (l.k ≡ length (edges_before (component_in l.table l.c) l.at.location l.e)) × (length l.told ≡ length l.initial.told)
    × (l.told ≡ sets l.initial.told 0 (each (edge_bytes (component_in l.table l.c) (entry_of l.at) l.taken l.ready) (edges_before (component_in l.table l.c) l.at.location l.e)))
