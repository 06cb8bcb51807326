-- `checks::check_heard` meets its contract. Assumes nothing.
use Rattle.checks.proofs.Sending.{row_stands}
use Rattle.checks.proofs.check_heard.Goals as goal

pub refused-requires : goal.refused-requires
refused-requires c =
    let e = c in
    let a = e.args in
    row_stands a.table.now a.rows.now a.count _ c.type_inv.table e.requires c.in-Err.ensures.1
