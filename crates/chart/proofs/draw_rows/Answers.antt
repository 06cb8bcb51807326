-- `chart::draw_rows` meets its contract. Assumes nothing.
use mathlib.Core.Path.{◌≡◌, refl, sym, subst, ◌∙◌}
use native.Mathlib.Omega.{arith}
use Rattle.model.specs.Places.{read_of}
use Rattle.rows.specs.Rows.{row_passage, rows_from, rows_of}
use Rattle.rows.proofs.Placed.{row_known}
use Rattle.rows.proofs.Grown.{rows_snoc}
use Rattle.chart.specs.Drawn.{Drawn}
use Rattle.chart.proofs.Painting.{row_fits}
use Rattle.chart.proofs.draw_rows.Goals as goal

pub loop-i-init : goal.loop-i-init
unfolding rows_from
loop-i-init c = (omega arith, refl, λ old p. p)

pub window_at-window-requires : goal.window_at-window-requires
window_at-window-requires c =
    let e = c in
    let a = e.args in
    row_known a.table.now a.rows.now a.count c.loop-i.i e.requires.0 c.loop-i-test.true

pub draw-requires : goal.draw-requires
draw-requires c =
    let e = c in
    let a = e.args in
    let l = c.loop-i in
    let f = row_fits a.table.now a.rows.now a.count l.i c.window_at-window.result e.requires.0 c.loop-i-test.true c.window_at-window.ensures in
    (omega (arith, f.0, e.requires.1, e.requires.4, l.invariant.1), omega (arith, f.0, e.requires.1, e.requires.2), f.1, e.requires.3)

pub loop-i-preserved : goal.loop-i-preserved
loop-i-preserved c =
    let e = c in
    let a = e.args in
    let l = c.loop-i in
    let T = (read_of a.table.now).table in
    let f = row_fits a.table.now a.rows.now a.count l.i c.window_at-window.result e.requires.0 c.loop-i-test.true c.window_at-window.ensures in (
      omega arith,
      c.draw.auto.chart ∙ l.invariant.1,
      λ old p. subst (λ P. Drawn T a.horizon P a.components old c.draw.new.chart) (sym (rows_snoc a.rows.now l.i))
          (c.draw.ensures T (rows_of a.rows.now l.i) (row_passage a.rows.now l.i) a.components old c.window_at-window.ensures (omega (arith, f.0, e.requires.1)) (l.invariant.2 old p)),
    )

pub shape_of-chart : goal.shape_of-chart
shape_of-chart c = c.loop-i.invariant.1

pub returns : goal.returns
returns c =
    let a = c.args in
    let l = c.loop-i in
    let k : l.i ≡ a.count = omega arith in
    λ old p. subst (λ m. Drawn (read_of a.table.now).table a.horizon (rows_of a.rows.now m) a.components old l.chart) k (l.invariant.2 old p)
