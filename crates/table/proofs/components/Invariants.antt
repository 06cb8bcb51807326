-- `table::components` meets its contract. Assumes nothing.
use mathlib.Core.Path.{◌≡◌}
use Prim.Native.Nat.{◌-◌, ◌≤◌}
use lib.ListN.{length, drop}
use Rattle.model.specs.Reader.{read_components, body_start}
use Rattle.model.specs.Places.{start_of}
use Rattle.model.specs.Calls.{verdict_of}
use Rattle.table.specs.Directory.{starts_of}
use Rattle.table.proofs.components.Given as goal

abbrev pub invariant-loop-c : goal.invariant-loop-c
invariant-loop-c l =
    (l.at ≤ length l.table) × (l.at ≡ start_of l.table l.c) × (l.starts ≡ starts_of l.table l.c)
    × (verdict_of (read_components l.heading (l.count - l.c) l.c (drop l.at l.table)) ≡ verdict_of (read_components l.heading l.count 0 (drop (body_start l.table) l.table)))
