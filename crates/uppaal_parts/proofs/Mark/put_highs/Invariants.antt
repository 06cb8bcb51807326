-- `uppaal_parts::Mark::put_highs` meets its contract. Assumes nothing.
use Prim.Native.Nat.{◌+◌, ◌-◌, ◌*◌, ◌≤◌}
use lib.ListN.{drop}
use Rattle.blocks.proofs.Runs.{Writing}
use Rattle.uppaal_parts.specs.Marks.{highs_text}
use Rattle.uppaal_parts.proofs.Mark.put_highs.Given as goal

abbrev pub invariant-loop-k : goal.invariant-loop-k
invariant-loop-k l = (l.mark.at ≤ l.fn.self.at + l.k * 40) × Writing l.initial.out l.fn.self.at (highs_text l.fn.self.tight l.count l.bytes) l.out l.mark.at (highs_text l.mark.tight (l.count - l.k) (drop (l.k * 5) l.bytes))
