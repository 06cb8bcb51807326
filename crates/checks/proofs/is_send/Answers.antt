-- `checks::is_send` meets its contract. Assumes nothing.
use native.Mathlib.Omega.{arith}
use mathlib.Core.Path.{◌∙◌}
use Rattle.model.specs.Places.{read_of}
use Rattle.rows.specs.Rows.{row_passage}
use Rattle.checks.proofs.Sending.{ready_late, ready_early}
use Rattle.checks.proofs.is_send.Goals as goal

pub returns-then-horizon-number : goal.returns-then-horizon-number
returns-then-horizon-number c =
    let a = c.args in
    ready_late (read_of a.table.now).table a.horizon (row_passage a.rows.now a.i) (omega (arith, c.number.ensures))

pub returns : goal.returns
returns c =
    let a = c.args in
    c.is_some.ensures ∙ ready_early (read_of a.table.now).table a.horizon (row_passage a.rows.now a.i) c.row_sent.result (omega (arith, c.number.ensures)) c.row_sent.ensures
