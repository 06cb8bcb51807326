-- `schedule::index_edges` meets its contract. Assumes nothing.
use mathlib.Core.Path.{◌≡◌}
use Prim.Native.Nat.{◌≤◌}
use Rattle.model.specs.Table.{size}
use Rattle.model.specs.Places.{read_of}
use Rattle.schedule.proofs.Edges.{IndexedBelow}
use Rattle.schedule.proofs.index_edges.Given as goal

abbrev pub invariant-loop-component : goal.invariant-loop-component
invariant-loop-component l = (l.count ≡ size (read_of l.table).table) × (l.count ≤ 8) × IndexedBelow l.table l.initial.index l.index l.component
