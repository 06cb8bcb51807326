-- `chart::put_rows` meets its contract. Assumes nothing.
use mathlib.Core.Path.{refl, subst, ◌∙◌}
use mathlib.Core.List.{[]}
use native.Mathlib.Omega.{arith}
use Rattle.chart.specs.Drawn.{Drawn}
use Rattle.chart.proofs.Painting.{drawn_none, drawn_turn}
use Rattle.chart.proofs.put_rows.Goals as goal

pub loop-c-init : goal.loop-c-init
loop-c-init c = (omega arith, refl, λ T. drawn_none T c.args.horizon c.args.chart.now)

pub loop-c-preserved : goal.loop-c-preserved
loop-c-preserved c =
    let a = c.args in
    let l = c.loop-c in
    (omega arith, c.put_row.ensures.same ∙ l.invariant.1, λ T. drawn_turn T a.horizon l.c a.chart.now l.chart c.put_row.new.chart (l.invariant.2 T) c.put_row.ensures)

pub shape_of-chart : goal.shape_of-chart
shape_of-chart c = c.loop-c.invariant.1

pub returns : goal.returns
returns c =
    let a = c.args in
    let l = c.loop-c in
    λ T. subst (λ m. Drawn T a.horizon [] m a.chart.now l.chart) (omega arith) (l.invariant.2 T)
