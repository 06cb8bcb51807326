-- `checks::first_collision` meets its contract. Assumes nothing.
use mathlib.Core.Path.{◌≡◌}
use mathlib.Core.Bool.{false}
use Prim.Native.Nat.{ℕ, ◌<◌}
use Rattle.model.specs.Places.{read_of}
use Rattle.model.specs.Checks.{collides}
use Rattle.rows.specs.Rows.{row_passage, rows_of}
use Rattle.checks.proofs.Answers.{Ahead}
use Rattle.checks.proofs.first_collision.Given as goal

abbrev pub invariant-loop-i : goal.invariant-loop-i
invariant-loop-i l = Ahead (collides l.spread (read_of l.table).table l.horizon (rows_of l.rows l.count)) l.rows l.count l.i × ((k : ℕ) → k < l.i → collides l.spread (read_of l.table).table l.horizon (rows_of l.rows l.count) (row_passage l.rows k) ≡ false)
