-- `window::index::put_places` meets its contract. Assumes nothing.
use mathlib.Core.Path.{◌≡◌}
use Rattle.model.specs.Places.{arc_place}
use Rattle.window.specs.Indexed.{PlacesPut}
use Rattle.window.proofs.index.put_places.Given as goal

abbrev pub invariant-loop-e : goal.invariant-loop-e
invariant-loop-e l = (l.place ≡ arc_place l.table l.start l.e) × PlacesPut l.table l.initial.index l.index l.c l.start l.e
