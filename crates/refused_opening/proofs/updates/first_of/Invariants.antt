-- `refused_opening::updates::first_of` meets its contract. Assumes nothing.
use mathlib.Core.Path.{◌≡◌}
use Prim.Native.Nat.{◌*◌, ◌≤◌, ◌<◌}
use lib.ListN.{length}
use Rattle.model.specs.Lists.{All}
use Rattle.model.specs.Reader.{update_at}
use Rattle.model.specs.Places.{list_at}
use Rattle.opening_place.specs.Opening.{first_out}
use Rattle.refused_opening.proofs.Outs.{rest}
use Rattle.refused_opening.proofs.updates.first_of.Given as goal

abbrev pub invariant-loop-done : goal.invariant-loop-done
invariant-loop-done l =
    (l.at ≡ l.done * 4) × (l.count * 4 ≤ length l.updates) × All (λ u. u.variable < 4) (rest l.updates l.count l.at l.done)
    × (first_out l.done (rest l.updates l.count l.at l.done) l.changed ≡ first_out 0 (list_at update_at 4 l.count l.updates) l.initial.changed)
