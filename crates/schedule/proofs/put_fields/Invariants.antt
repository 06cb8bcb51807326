use mathlib.Core.Path.{◌≡◌}
use lib.ListN.{length}
use lib.Seq.{sets}
use Rattle.model.specs.Lists.{each}
use Rattle.model.specs.Schedule.{seven_of}
use Rattle.rows.specs.Rows.{rows_of}
use Rattle.schedule.proofs.put_fields.Given as goal

abbrev pub invariant-loop-i : goal.invariant-loop-i
invariant-loop-i l = (length l.out ≡ length l.initial.out) × (l.out ≡ sets l.initial.out 0 (each seven_of (rows_of l.rows l.i)))
