-- `checks::collides_with_one` meets its contract. Assumes nothing.
use mathlib.Core.List.{[]}
use Rattle.model.specs.Places.{read_of}
use Rattle.model.specs.Checks.{meets}
use Rattle.rows.specs.Rows.{row_passage}
use Rattle.checks.proofs.Swept.{Swept}
use Rattle.checks.proofs.collides_with_one.Given as goal

abbrev pub invariant-loop-j : goal.invariant-loop-j
invariant-loop-j l = Swept (meets l.spread (read_of l.table).table l.horizon (row_passage l.rows l.i)) l.rows l.count l.j []
