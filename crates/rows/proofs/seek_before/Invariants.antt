-- `rows::seek_before` meets its contract. Assumes nothing.
use mathlib.Core.Option.{none}
use mathlib.Core.Path.{◌≡◌}
use Prim.Native.Nat.{◌-◌, ◌≤◌, ◌<◌}
use Rattle.std.specs.Prelude.{IfSome}
use Rattle.model.specs.Places.{read_of}
use Rattle.model.specs.Schedule.{heard_by, earliest}
use Rattle.rows.specs.Rows.{row_passage, rows_from, found_passage}
use Rattle.rows.proofs.seek_before.Given as goal

abbrev pub invariant-loop-j : goal.invariant-loop-j
invariant-loop-j l =
    record {
      before : l.j ≤ l.i;
      there : IfSome l.best (λ row. row < l.count);
      found :
          earliest (heard_by (read_of l.table).table l.horizon (row_passage l.rows l.i)) (rows_from l.rows l.j (l.i - l.j)) none ≡ found_passage l.rows l.best;
    }

abbrev pub decreases-loop-j : goal.decreases-loop-j
decreases-loop-j l = l.j
