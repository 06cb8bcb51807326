-- `meetings::is_met` meets its contract. Assumes nothing.
use Rattle.model.specs.Places.{read_of}
use Rattle.rows.specs.Rows.{row_passage}
use Rattle.meetings.proofs.Collected.{asked_10, asked_11, asked_12}
use Rattle.meetings.proofs.is_met.Goals as goal

pub returns-in-Collision : goal.returns-in-Collision
returns-in-Collision c =
    let a = c.args in
    let T = (read_of a.table.now).table in
    asked_10 a.spread T a.horizon (row_passage a.rows.now a.i) (row_passage a.rows.now a.j) c.is_met.result c.in-Collision.is c.is_met.ensures

pub returns-in-Unheard : goal.returns-in-Unheard
returns-in-Unheard c =
    let a = c.args in
    let T = (read_of a.table.now).table in
    asked_11 a.spread T a.horizon (row_passage a.rows.now a.i) (row_passage a.rows.now a.j) c.may_hear.result c.in-Unheard.is c.may_hear.ensures

pub returns-in-Crowded : goal.returns-in-Crowded
returns-in-Crowded c =
    let a = c.args in
    let T = (read_of a.table.now).table in
    asked_12 a.spread T a.horizon (row_passage a.rows.now a.i) (row_passage a.rows.now a.j) c.both.result c.is_send.result c.may_hear-heard.result c.in-Crowded.is c.both.ensures c.is_send.ensures c.may_hear-heard.ensures
