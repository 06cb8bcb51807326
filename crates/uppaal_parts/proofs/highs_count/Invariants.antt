-- `uppaal_parts::highs_count` meets its contract. Assumes nothing.
use mathlib.Core.Path.{◌≡◌}
use Prim.Native.Nat.{◌+◌, ◌-◌, ◌*◌}
use lib.ListN.{drop}
use Rattle.uppaal_parts.specs.Marks.{highs_count}
use Rattle.uppaal_parts.proofs.highs_count.Given as goal

abbrev pub invariant-loop-k : goal.invariant-loop-k
invariant-loop-k l = l.n + highs_count (l.count - l.k) (drop (l.k * 5) l.bytes) ≡ highs_count l.count l.bytes
