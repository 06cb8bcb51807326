-- `window::first_failing` meets its contract. Assumes nothing.
use mathlib.Core.Path.{◌≡◌}
use Prim.Native.Nat.{◌+◌, ◌-◌, ◌*◌, ◌≤◌, ◌<◌}
use lib.ListN.{length, drop}
use Rattle.model.specs.Lists.{All}
use Rattle.model.specs.Reader.{data_guard_at}
use Rattle.model.specs.Places.{list_at}
use Rattle.model.specs.Window.{first_failing}
use Rattle.window.proofs.first_failing.Given as goal

abbrev pub invariant-loop-held : goal.invariant-loop-held
invariant-loop-held l =
    (l.at + (l.count - l.held) * 5 ≤ length l.guards) × All (λ g. g.variable < 4) (list_at data_guard_at 5 (l.count - l.held) (drop l.at l.guards))
    × (l.held + first_failing (list_at data_guard_at 5 (l.count - l.held) (drop l.at l.guards)) l.values ≡ first_failing (list_at data_guard_at 5 l.count l.guards) l.values)
