use mathlib.Core.Path.{◌≡◌}
use lib.ListN.{length}
use Rattle.passages.proofs.Laying.{Alike}
use Rattle.passages.proofs.laid_out.Given as goal

abbrev pub invariant-loop-i : goal.invariant-loop-i
invariant-loop-i l = (length l.items ≡ 1024) × Alike l.numbers l.i l.items
