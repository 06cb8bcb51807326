-- `site::row_airtime` meets its contract. Assumes nothing.
use Rattle.site.proofs.Rowing.{row_counts, row_not}
use Rattle.site.proofs.row_airtime.Goals as goal

pub returns-then-is_send : goal.returns-then-is_send
returns-then-is_send c =
    let e = c in
    let a = e.args in
    row_counts a.table.now a.horizon a.rows.now a.i e.requires c.is_send.ensures c.if-is_send.true c.number.ensures c.number-then-is_send.ensures

pub returns : goal.returns
returns c =
    let a = c.args in
    row_not a.table.now a.horizon a.rows.now a.i c.is_send.ensures c.if-is_send.false
