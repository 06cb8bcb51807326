-- `machine::next_ready` meets its contract. Assumes nothing.
use mathlib.Core.Path.{◌∙◌}
use Rattle.machine.proofs.RowsOwn.{ready_of, no_ready}
use borrow.Author.Rules.{rules}
use Rattle.machine.proofs.next_ready.Goals as goal

pub returns-then-row-passages : goal.returns-then-row-passages
returns-then-row-passages c = let a = c.args in (c.number.ensures ∙ ready_of a.rows.now a.passages a.row (search rules), search rules)

pub returns : goal.returns
returns c = let a = c.args in (no_ready a.rows.now a.passages a.row (search rules), search rules)
