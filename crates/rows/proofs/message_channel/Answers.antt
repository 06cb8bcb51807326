-- `rows::message_channel` meets its contract. Assumes nothing.
use mathlib.Core.Path.{refl, sym, ◌∙◌}
use mathlib.Core.Option.{none, some}
use Rattle.model.specs.Places.{read_of}
use Rattle.rows.specs.Rows.{row_passage, rows_of, option_of}
use Rattle.rows.proofs.Placed.{row_known, has_first, sent_below}
use Rattle.rows.proofs.Sought.{own_message, heard_message}
use Rattle.rows.proofs.message_channel.Goals as goal

pub returns-then-not-row_receives : goal.returns-then-not-row_receives
returns-then-not-row_receives c =
    let e = c in
    let a = e.args in
    record {
      found = own_message (read_of a.table.now).table a.horizon (rows_of a.rows.now a.count) (row_passage a.rows.now a.i) (option_of c.row_sent.result) (sym c.row_receives.ensures ∙ c.if-not-row_receives.true) c.row_sent.ensures;
      small = sent_below a.table.now a.rows.now a.i c.type_inv.table (row_known a.table.now a.rows.now a.count a.i e.requires.0 e.requires.1) c.row_sent.result c.row_sent.ensures;
    }

pub budgeted-budgets-requires : goal.budgeted-budgets-requires
budgeted-budgets-requires c =
    let e = c in
    let a = e.args in
    has_first a.table.now a.rows.now a.i c.type_inv.table (row_known a.table.now a.rows.now a.count a.i e.requires.0 e.requires.1)

pub returns-in_err-sender-clause-found : goal.returns-in_err-sender-clause-found
returns-in_err-sender-clause-found c =
    let a = c.args in
    rw c.from_residual.ensures
    (heard_message (read_of a.table.now).table a.horizon (rows_of a.rows.now a.count) (row_passage a.rows.now a.i) none none (sym c.row_receives.ensures ∙ c.if-not-row_receives.false) c.in_err-sender.ensures.found refl)

pub returns : goal.returns
returns c =
    let e = c in
    let a = e.args in
    let row = c.in_ok-sender.sender in
    record {
      found = heard_message (read_of a.table.now).table a.horizon (rows_of a.rows.now a.count) (row_passage a.rows.now a.i) (option_of c.row_sent-2.result) (some (row_passage a.rows.now row)) (sym c.row_receives.ensures ∙ c.if-not-row_receives.false) c.in_ok-sender.ensures.found c.row_sent-2.ensures;
      small = sent_below a.table.now a.rows.now row c.type_inv.table (row_known a.table.now a.rows.now a.count row e.requires.0 c.in_ok-sender.ensures.there) c.row_sent-2.result c.row_sent-2.ensures;
    }
