-- `checks::is_met` meets its contract. Assumes nothing.
use Rattle.model.specs.Places.{read_of}
use Rattle.rows.specs.Rows.{row_passage}
use Rattle.checks.proofs.Questions.{not_met, no_send_met, met}
use Rattle.checks.proofs.is_met.Goals as goal

pub returns-then-not-overlap : goal.returns-then-not-overlap
returns-then-not-overlap c =
    let a = c.args in
    not_met a.spread (read_of a.table.now).table a.horizon (row_passage a.rows.now a.i) (row_passage a.rows.now a.j) c.overlap.result c.overlap.ensures c.if-not-overlap.true-raw

pub returns-then-not-is_send : goal.returns-then-not-is_send
returns-then-not-is_send c =
    let a = c.args in
    no_send_met a.spread (read_of a.table.now).table a.horizon (row_passage a.rows.now a.i) (row_passage a.rows.now a.j) c.is_send.result c.is_send.ensures c.if-not-is_send.true-raw

pub returns : goal.returns
returns c =
    let d = c in
    let a = c.args in
    met a.spread (read_of a.table.now).table a.horizon (row_passage a.rows.now a.i) (row_passage a.rows.now a.j) d.overlap.result d.is_send.result c.same_band.result d.overlap.ensures d.if-not-overlap.false-raw d.is_send.ensures c.if-not-is_send.false-raw c.same_band.ensures
