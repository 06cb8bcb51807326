-- `rows::lists` meets its contract. Assumes nothing.
use mathlib.Core.Path.{◌≡◌}
use Prim.Native.Nat.{◌+◌, ◌-◌, ◌*◌}
use mathlib.Core.Option.{some}
use Rattle.model.specs.Reader.{byte}
use Rattle.model.specs.Places.{arc_at}
use Rattle.model.specs.Schedule.{names}
use Rattle.rows.proofs.Channels.{has_from}
use Rattle.rows.proofs.lists.Given as goal

abbrev pub invariant-loop-k : goal.invariant-loop-k
invariant-loop-k l = has_from l.edge l.channel (l.items + 2 * l.k) (byte l.edge 6 - l.k) ≡ names (arc_at l.budgets l.edge) (some l.channel)
