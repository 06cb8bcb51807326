-- `calls::spread::is_accepted` meets its contract. Assumes nothing.
use Rattle.calls.proofs.Spreading.{by_rows, told_accepted, told_refused}
use Rattle.calls.proofs.spread.is_accepted.Goals as goal

pub returns-in-Accepted : goal.returns-in-Accepted
returns-in-Accepted c =
    let e = c in
    let a = e.args in
    told_accepted c.check_messages-verdict.result _ (by_rows a.table.now e.requires.0 a.rows.now a.count e.requires.1 e.requires.2 a.horizon e.requires.3 a.spread e.requires.4 c.check_messages-verdict.result c.check_messages-verdict.ensures) c.in-Accepted.is

pub returns-in-Refused : goal.returns-in-Refused
returns-in-Refused c =
    let e = c in
    let a = e.args in
    told_refused c.check_messages-verdict.result _ (by_rows a.table.now e.requires.0 a.rows.now a.count e.requires.1 e.requires.2 a.horizon e.requires.3 a.spread e.requires.4 c.check_messages-verdict.result c.check_messages-verdict.ensures) c.in-Refused.is
