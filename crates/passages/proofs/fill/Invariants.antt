use mathlib.Core.Path.{◌≡◌}
use Rattle.passages.specs.Copied.{copied}
use Rattle.passages.proofs.fill.Given as goal

-- the first i items are stored
abbrev pub invariant-loop-i : goal.invariant-loop-i
invariant-loop-i l = l.list ≡ copied l.initial.list l.items l.i
