-- `chart::put_chart` meets its contract. Assumes nothing.
use Rattle.model.specs.Places.{read_of}
use Rattle.rows.specs.Rows.{rows_of}
use Rattle.chart.proofs.Laying.{all_drawn}
use Rattle.chart.proofs.put_chart.Goals as goal

pub returns : goal.returns
returns c =
    let e = c in
    let a = e.args in
    let T = (read_of a.table.now).table in
    all_drawn T a.horizon (rows_of a.rows.now a.count) a.components a.lent.now c.draw_rows.new.chart e.requires.1 e.requires.4 (c.draw_rows.ensures a.lent.now (c.put_rows.ensures T))
