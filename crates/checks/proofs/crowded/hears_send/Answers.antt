-- `checks::crowded::hears_send` meets its contract. Assumes nothing.
use Rattle.model.specs.Places.{read_of}
use Rattle.rows.specs.Rows.{option_of, row_passage}
use Rattle.checks.proofs.Questions.{not_asked, no_send_beside, hear_send}
use Rattle.checks.proofs.crowded.hears_send.Goals as goal

pub returns-then-not-overlap : goal.returns-then-not-overlap
returns-then-not-overlap c =
    let a = c.args in
    no_send_beside a.spread (read_of a.table.now).table a.horizon (row_passage a.rows.now a.i) (row_passage a.rows.now a.j) c.overlap.result c.overlap.ensures c.if-not-overlap.true-raw

pub returns-then-not-is_send : goal.returns-then-not-is_send
returns-then-not-is_send c =
    let a = c.args in
    not_asked a.spread (read_of a.table.now).table a.horizon (row_passage a.rows.now a.j) c.is_send.result _ c.is_send.ensures c.if-not-is_send.true-raw

pub returns : goal.returns
returns c =
    let e = c in
    let a = e.args in
    hear_send a.spread (read_of a.table.now).table a.horizon (row_passage a.rows.now a.i) (row_passage a.rows.now a.j) c.overlap.result c.is_send.result c.row_lists.result (option_of c.row_sent.result) c.overlap.ensures c.if-not-overlap.false-raw c.is_send.ensures c.if-not-is_send.false-raw e.requires.2 c.row_sent.ensures c.row_lists.ensures
