-- `chart::letter_at` meets its contract. Assumes nothing.
use mathlib.Core.Path.{sym, ap, ◌∙◌}
use mathlib.Core.Bool.{not}
use Rattle.model.specs.Places.{read_of}
use Rattle.model.specs.Schedule.{passage_arc}
use Rattle.rows.specs.Rows.{row_passage}
use Rattle.chart.proofs.Painting.{receive_letter, internal_letter, send_letter}
use Rattle.chart.proofs.letter_at.Goals as goal

pub returns-then-row_receives : goal.returns-then-row_receives
returns-then-row_receives c =
    let a = c.args in
    receive_letter (passage_arc (read_of a.table.now).table (row_passage a.rows.now a.i)).edge.action (sym c.row_receives.ensures ∙ c.if-row_receives.true)

pub returns-then-is_none : goal.returns-then-is_none
returns-then-is_none c =
    let a = c.args in
    internal_letter (passage_arc (read_of a.table.now).table (row_passage a.rows.now a.i)).edge.action c.row_sent.result (sym c.row_receives.ensures ∙ c.if-row_receives.false) c.row_sent.ensures (c.is_none.ensures ∙ ap not c.if-is_none.true)

pub returns : goal.returns
returns c =
    let a = c.args in
    send_letter (passage_arc (read_of a.table.now).table (row_passage a.rows.now a.i)).edge.action c.row_sent.result (sym c.row_receives.ensures ∙ c.if-row_receives.false) c.row_sent.ensures (c.is_none.ensures ∙ ap not c.if-is_none.false)
