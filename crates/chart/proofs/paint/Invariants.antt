-- `chart::paint` meets its contract. Assumes nothing.
use Prim.Native.Nat.{◌-◌, ◌≤◌}
use Rattle.chart.specs.Drawn.{Painted}
use Rattle.chart.proofs.paint.Given as goal

abbrev pub invariant-loop-k : goal.invariant-loop-k
invariant-loop-k l = (l.from ≤ l.k) × (l.k ≤ l.until) × Painted l.from l.k l.letter l.initial.chart l.chart
