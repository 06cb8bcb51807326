-- `chart::put_rows` meets its contract. Assumes nothing.
use mathlib.Core.Path.{◌≡◌}
use mathlib.Core.List.{[]}
use Prim.Native.Nat.{◌-◌, ◌≤◌}
use lib.ListN.{length}
use Rattle.model.specs.Table.{Table}
use Rattle.chart.specs.Drawn.{Drawn}
use Rattle.chart.proofs.put_rows.Given as goal

abbrev pub invariant-loop-c : goal.invariant-loop-c
invariant-loop-c l = (l.c ≤ l.components) × (length l.chart ≡ length l.initial.chart) × ((T : Table) → Drawn T l.horizon [] l.c l.initial.chart l.chart)
