-- `checks::may_hear` meets its contract. Assumes nothing.
use Rattle.model.specs.Places.{read_of}
use Rattle.rows.specs.Rows.{option_of, row_passage}
use Rattle.checks.proofs.Questions.{not_beside, not_receive, hear}
use Rattle.checks.proofs.may_hear.Goals as goal

pub returns-then-not-overlap : goal.returns-then-not-overlap
returns-then-not-overlap c =
    let a = c.args in
    not_beside a.spread (read_of a.table.now).table (row_passage a.rows.now a.j) (row_passage a.rows.now a.i) c.overlap.result c.overlap.ensures c.if-not-overlap.true-raw

pub returns-then-not-row_receives : goal.returns-then-not-row_receives
returns-then-not-row_receives c =
    let a = c.args in
    not_receive a.spread (read_of a.table.now).table (row_passage a.rows.now a.j) (row_passage a.rows.now a.i) c.row_receives.result c.row_receives.ensures c.if-not-row_receives.true-raw

pub returns : goal.returns
returns c =
    let e = c in
    let a = e.args in
    hear a.spread (read_of a.table.now).table (row_passage a.rows.now a.j) (row_passage a.rows.now a.i) c.overlap.result c.row_receives.result c.row_lists.result (option_of a.channel) c.overlap.ensures c.if-not-overlap.false-raw c.row_receives.ensures c.if-not-row_receives.false-raw e.requires.2 c.row_lists.ensures
