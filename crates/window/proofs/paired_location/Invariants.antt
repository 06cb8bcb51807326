-- `window::paired_location` meets its contract. Assumes nothing.
use mathlib.Core.Path.{◌≡◌}
use Prim.Native.Nat.{◌+◌, ◌-◌, ◌*◌, ◌≤◌}
use lib.ListN.{length, drop}
use Rattle.model.specs.Reader.{pair_at}
use Rattle.model.specs.Places.{list_at}
use Rattle.model.specs.Window.{paired}
use Rattle.window.proofs.paired_location.Given as goal

abbrev pub invariant-loop : goal.invariant-loop
invariant-loop l =
    (l.at + (l.count - l.counter) * 2 ≤ length l.pairs) × (paired (list_at pair_at 2 (l.count - l.counter) (drop l.at l.pairs)) l.channel l.other ≡ paired (list_at pair_at 2 l.count l.pairs) l.channel l.other)
