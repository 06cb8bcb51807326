-- `program::span_of` meets its contract: the part to find from `at` on is the part to find. Assumes nothing.
use borrow.Author.Rules.{rules}
use mathlib.Core.Path.{◌≡◌, sym, ◌∙◌}
use Prim.Native.Nat.{◌≤◌}
use native.Mathlib.Omega.{arith}
use lib.ListN.{length}
use Rattle.model.specs.Program.{part_from, part_of}
use Rattle.program.proofs.Parting.{headless, absent, begun, lengthless, too_long, here, onward, spans_none, spans_here}
use Rattle.program.proofs.span_of.Given as goal

abbrev pub invariant-loop-at : goal.invariant-loop-at
invariant-loop-at l = (l.at ≤ length l.program) × (part_from l.program l.at l.left ≡ part_of l.program l.node)

abbrev pub decreases-loop-at : goal.decreases-loop-at
decreases-loop-at l = l.left
