-- `checks::listeners::listeners_of` meets its contract. Assumes nothing.
use Rattle.rows.proofs.Placed.{row_known}
use Rattle.checks.proofs.listeners.listeners_of.Goals as goal

pub row_sent-channel-requires : goal.row_sent-channel-requires
row_sent-channel-requires c =
    let e = c in
    let a = e.args in
    row_known a.table.now a.rows.now a.count a.send e.requires.0 e.requires.1
