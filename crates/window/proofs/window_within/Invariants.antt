-- `window::window_within` meets its contract. Assumes nothing.
use mathlib.Core.Path.{◌≡◌}
use Prim.Native.Nat.{◌+◌, ◌-◌, ◌*◌, max, ◌≤◌, ◌<◌}
use lib.ListN.{length, drop}
use Rattle.model.specs.Lists.{All}
use Rattle.model.specs.Reader.{clock_guard_at}
use Rattle.model.specs.Places.{list_at}
use Rattle.model.specs.Window.{ready_of}
use Rattle.window.specs.Views.{past_from}
use Rattle.window.proofs.window_within.Given as goal

abbrev pub invariant-loop : goal.invariant-loop
invariant-loop l =
    (l.at + (l.count - l.counter) * 5 ≤ length l.guards) × (l.delays.ready ≤ 65535) × (l.delays.past ≤ 65536)
    × All (λ g. g.clock < 4) (list_at clock_guard_at 5 (l.count - l.counter) (drop l.at l.guards))
    × (max l.delays.ready (ready_of (list_at clock_guard_at 5 (l.count - l.counter) (drop l.at l.guards)) l.clocks) ≡ ready_of (list_at clock_guard_at 5 l.count l.guards) l.clocks)
    × (past_from l.delays.past (list_at clock_guard_at 5 (l.count - l.counter) (drop l.at l.guards)) l.clocks ≡ past_from l.initial.delays.past (list_at clock_guard_at 5 l.count l.guards) l.clocks)
