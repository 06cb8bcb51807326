-- `chart::draw_rows` meets its contract. Assumes nothing.
use mathlib.Core.Path.{◌≡◌}
use mathlib.Core.List.{List, []}
use Prim.Native.Nat.{ℕ, ◌-◌, ◌≤◌}
use lib.ListN.{length}
use Rattle.model.specs.Places.{read_of}
use Rattle.rows.specs.Rows.{rows_of}
use Rattle.chart.specs.Drawn.{Drawn}
use Rattle.chart.proofs.draw_rows.Given as goal

abbrev pub invariant-loop-i : goal.invariant-loop-i
invariant-loop-i l = (l.i ≤ l.count) × (length l.chart ≡ length l.initial.chart)
    × ((old : List ℕ) → Drawn (read_of l.table).table l.horizon [] l.components old l.initial.chart → Drawn (read_of l.table).table l.horizon (rows_of l.rows l.i) l.components old l.chart)
