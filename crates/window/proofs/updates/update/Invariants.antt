use mathlib.Core.Path.{◌≡◌}
use Prim.Native.Nat.{◌+◌, ◌-◌, ◌*◌, ◌≤◌, ◌<◌}
use lib.ListN.{length, drop}
use Rattle.model.specs.Lists.{All}
use Rattle.model.specs.Reader.{update_at}
use Rattle.model.specs.Places.{list_at}
use Rattle.model.specs.Window.{updated}
use Rattle.window.proofs.updates.update.Given as goal

abbrev pub invariant-loop : goal.invariant-loop
invariant-loop l =
    (l.at + (l.count - l.counter) * 4 ≤ length l.updates) × All (λ u. u.variable < 4) (list_at update_at 4 (l.count - l.counter) (drop l.at l.updates))
    × (updated (list_at update_at 4 (l.count - l.counter) (drop l.at l.updates)) l.changed ≡ updated (list_at update_at 4 l.count l.updates) l.initial.changed)
