-- `chart::paint` meets its contract. Assumes nothing.
use mathlib.Core.Path.{subst}
use native.Mathlib.Omega.{arith}
use Rattle.chart.specs.Drawn.{Painted}
use Rattle.chart.proofs.Painting.{painted_none, painted_turn}
use Rattle.chart.proofs.paint.Goals as goal

pub loop-k-init : goal.loop-k-init
loop-k-init c = (omega arith, c.requires.0, painted_none c.args.from c.args.letter c.args.chart.now)

pub bounds-chart-k : goal.bounds-chart-k
bounds-chart-k c = omega (arith, c.loop-k.invariant.2.same)

pub bounds-chart-k-in-loop-k : goal.bounds-chart-k-in-loop-k
bounds-chart-k-in-loop-k c = omega (arith, c.loop-k.invariant.2.same)

pub loop-k-preserved : goal.loop-k-preserved
loop-k-preserved c =
    let a = c.args in
    let l = c.loop-k in (
      omega arith,
      omega arith,
      painted_turn a.from l.k a.letter c.raised.result a.chart.now l.chart l.invariant.0 (omega (arith, l.invariant.2.same)) c.raised.ensures l.invariant.2,
    )

pub shape_of-chart : goal.shape_of-chart
shape_of-chart c = c.loop-k.invariant.2.same

pub returns : goal.returns
returns c =
    let a = c.args in
    let l = c.loop-k in
    subst (λ m. Painted a.from m a.letter a.chart.now l.chart) (omega arith) l.invariant.2
