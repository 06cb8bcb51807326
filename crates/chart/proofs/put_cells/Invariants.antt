-- `chart::put_cells` meets its contract. Assumes nothing.
use Prim.Native.Nat.{◌-◌, ◌≤◌}
use Rattle.chart.specs.Drawn.{EmptyCells}
use Rattle.chart.proofs.put_cells.Given as goal

abbrev pub invariant-loop-i : goal.invariant-loop-i
invariant-loop-i l = (l.i ≤ 64) × EmptyCells l.horizon l.at l.i l.initial.chart l.chart
