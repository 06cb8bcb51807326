-- `chart::draw` meets its contract. Assumes nothing.
use native.Mathlib.Omega.{arith}
use Rattle.chart.proofs.Drawing.{reached, in_order, drawn_late, drawn_more}
use Rattle.chart.proofs.draw.Goals as goal

pub returns-then-horizon-ready : goal.returns-then-horizon-ready
returns-then-horizon-ready c = λ T S v n old t here p.
    let a = c.args in
    drawn_late T a.horizon S v n a.window old a.chart.now t c.if-horizon-ready.true p

pub paint-requires : goal.paint-requires
paint-requires c =
    let e = c in
    let order = in_order e.args.horizon c.cell_of-first.result c.cell_of-last.result e.args.window.ready c.last_tick.result c.cell_of-first.ensures.0 c.cell_of-last.ensures.0 (reached e.requires.2 c.if-horizon-ready.false c.last_tick.ensures.2) in
    (omega (arith, order), omega (arith, c.cell_of-last.ensures.1, e.requires.0), omega (arith, c.cell_of-last.ensures.1, e.requires.1))

pub returns : goal.returns
returns c = λ T S v n old t here p.
    let e = c in
    drawn_more T e.args.horizon S v n e.args.window old e.args.chart.now c.paint.new.chart c.cell_of-first.result c.cell_of-last.result c.last_tick.result c.cell_of-first.ensures.0 c.cell_of-first.ensures.1 c.cell_of-last.ensures.0 c.cell_of-last.ensures.1 c.last_tick.ensures.0 c.last_tick.ensures.2 t p here c.paint.ensures
