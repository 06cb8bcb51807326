-- `chart::put_cells` meets its contract. Assumes nothing.
use mathlib.Core.Path.{subst}
use native.Mathlib.Omega.{arith}
use Rattle.chart.specs.Drawn.{EmptyCells}
use Rattle.chart.proofs.Painting.{cells_none, cells_turn}
use Rattle.chart.proofs.put_cells.Goals as goal

pub loop-i-init : goal.loop-i-init
loop-i-init c = (omega arith, cells_none c.args.horizon c.args.at c.args.chart.now)

pub bounds-chart-at : goal.bounds-chart-at
bounds-chart-at c = omega (arith, c.loop-i.invariant.1.same)

pub loop-i-preserved : goal.loop-i-preserved
loop-i-preserved c =
    let a = c.args in
    let l = c.loop-i in
    (omega arith, cells_turn a.horizon a.at l.i c.empty_cell.result a.chart.now l.chart (omega (arith, l.invariant.1.same)) c.empty_cell.ensures l.invariant.1)

pub shape_of-chart : goal.shape_of-chart
shape_of-chart c = c.loop-i.invariant.1.same

pub returns : goal.returns
returns c =
    let a = c.args in
    let l = c.loop-i in
    subst (λ m. EmptyCells a.horizon a.at m a.chart.now l.chart) (omega arith) l.invariant.1
