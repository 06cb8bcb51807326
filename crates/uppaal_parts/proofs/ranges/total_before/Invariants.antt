-- `uppaal_parts::ranges::total_before` meets its contract. Assumes nothing.
use mathlib.Core.Path.{◌≡◌}
use Prim.Native.Nat.{◌+◌, ◌-◌, ◌*◌, ◌≤◌}
use lib.IntN.{pos}
use lib.ListN.{drop}
use Rattle.model.specs.Reader.{update_at}
use Rattle.model.specs.Places.{list_at}
use Rattle.uppaal.specs.Export.{more, summed}
use Rattle.uppaal_parts.specs.Marks.{total_of}
use Rattle.uppaal_parts.proofs.ranges.total_before.Given as goal

abbrev pub invariant-loop-k : goal.invariant-loop-k
invariant-loop-k l = (l.t.sum ≤ 16777216 + l.k * 32768) × (16777216 ≤ l.t.sum + l.k * 32768) × (summed l.variable (total_of l.t.known l.t.sum) (list_at update_at 4 (l.count - l.k) (drop (l.k * 4) l.bytes)) ≡ summed l.variable (more (pos 0)) (list_at update_at 4 l.count l.bytes))
