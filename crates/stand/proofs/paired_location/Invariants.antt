-- `stand::paired_location` meets its contract. Assumes nothing.
use borrow.Author.Rules.{rules}
use mathlib.Core.Path.{◌≡◌, refl, sym, ◌∙◌}
use Prim.Native.Nat.{◌+◌, ◌*◌, ◌≤◌}
use Rattle.stand.proofs.Pairs.{location, location_found, location_passed, no-location}
use Rattle.stand.proofs.paired_location.Given as goal

abbrev pub invariant-loop-i : goal.invariant-loop-i
invariant-loop-i l = (l.at + l.i * 4 ≤ l.from + l.count * 4) × (location l.part l.channel l.at l.i ≡ location l.part l.channel l.from l.count)

abbrev pub decreases-loop-i : goal.decreases-loop-i
decreases-loop-i l = l.i
