-- `parts::parts` meets its contract. Assumes nothing.
use mathlib.Core.Path.{◌≡◌}
use Prim.Native.Nat.{◌-◌, ◌≤◌}
use lib.ListN.{length, drop}
use Rattle.model.specs.Reader.{many}
use Rattle.parts.specs.Place.{skim, passes}
use Rattle.parts.proofs.parts.Given as goal

abbrev pub invariant-loop : goal.invariant-loop
invariant-loop l =
    (l.from ≤ l.at) × (l.at ≤ length l.component)
    × (skim (many (passes l.kind l.sizes) (l.count - l.counter) (drop l.at l.component)) ≡ skim (many (passes l.kind l.sizes) l.count (drop l.from l.component)))
