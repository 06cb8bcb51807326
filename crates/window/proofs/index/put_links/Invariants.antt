-- `window::index::put_links` meets its contract. Assumes nothing.
use Prim.Native.Nat.{◌≤◌}
use lib.ListN.{length}
use Rattle.model.specs.Places.{component_in}
use Rattle.window.specs.Indexed.{LinksPut}
use Rattle.window.proofs.index.put_links.Given as goal

abbrev pub invariant-loop-e : goal.invariant-loop-e
invariant-loop-e l = (l.e ≤ length (component_in l.table l.c).arcs) × LinksPut l.table l.initial.index l.index l.c l.e
