-- `chart::put_row` meets its contract. Assumes nothing.
use mathlib.Core.Path.{refl}
use Prim.Native.Nat.{◌+◌}
use native.Mathlib.Omega.{arith}
use lib.ListN.{length-set}
use Rattle.chart.proofs.Painting.{row_put}
use Rattle.chart.proofs.put_row.Goals as goal

pub bounds-chart-at-2 : goal.bounds-chart-at-2
bounds-chart-at-2 c = simp length-set (omega (arith, c.put_cells.ensures.same))

pub bounds-chart-at-3 : goal.bounds-chart-at-3
bounds-chart-at-3 c = simp length-set (omega (arith, c.put_cells.ensures.same))

pub bounds-chart-at-4 : goal.bounds-chart-at-4
bounds-chart-at-4 c = simp length-set (omega (arith, c.put_cells.ensures.same))

pub bounds-chart-at-5 : goal.bounds-chart-at-5
bounds-chart-at-5 c = simp length-set (omega (arith, c.put_cells.ensures.same))

pub returns : goal.returns
returns c =
    let e = c in
    row_put e.args.horizon e.args.component (48 + e.args.component) e.args.chart.now c.put_cells.new.chart c.put_cells.ensures e.requires.0 refl
