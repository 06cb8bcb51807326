-- `rows::seek` meets its contract. Assumes nothing.
use mathlib.Core.Option.{none}
use mathlib.Core.Path.{◌≡◌}
use Prim.Native.Nat.{◌-◌, ◌<◌}
use Rattle.std.specs.Prelude.{IfSome}
use Rattle.model.specs.Places.{read_of}
use Rattle.model.specs.Schedule.{heard_by, earliest}
use Rattle.rows.specs.Rows.{row_passage, rows_from, rows_of, found_passage}
use Rattle.rows.proofs.seek.Given as goal

abbrev pub invariant-loop-j : goal.invariant-loop-j
invariant-loop-j l =
    record {
      there : IfSome l.best (λ row. row < l.count);
      found :
          earliest (heard_by (read_of l.table).table l.horizon (row_passage l.rows l.i)) (rows_from l.rows l.j (l.count - l.j)) (found_passage l.rows l.best)
          ≡ earliest (heard_by (read_of l.table).table l.horizon (row_passage l.rows l.i)) (rows_of l.rows l.count) none;
    }
