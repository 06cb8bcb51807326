-- `parts::arcs` meets its contract. Assumes nothing.
use mathlib.Core.Path.{◌≡◌}
use Prim.Native.Nat.{◌-◌, ◌≤◌}
use lib.ListN.{length, drop}
use Rattle.model.specs.Reader.{many, read_arc}
use Rattle.parts.specs.Place.{skim}
use Rattle.parts.proofs.arcs.Given as goal

abbrev pub invariant-loop : goal.invariant-loop
invariant-loop l =
    (l.from ≤ l.at) × (l.at ≤ length l.component)
    × (skim (many (read_arc l.sizes) (l.count - l.counter) (drop l.at l.component)) ≡ skim (many (read_arc l.sizes) l.count (drop l.from l.component)))
