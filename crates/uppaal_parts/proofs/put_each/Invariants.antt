-- `uppaal_parts::put_each` meets its contract. Assumes nothing.
use Prim.Native.Nat.{◌+◌, ◌-◌, ◌*◌, ◌≤◌}
use lib.ListN.{drop}
use Rattle.blocks.proofs.Runs.{Writing}
use Rattle.uppaal_parts.specs.Marks.{all_told}
use Rattle.uppaal_parts.proofs.put_each.Given as goal

abbrev pub invariant-loop-k : goal.invariant-loop-k
invariant-loop-k g l = (l.next ≤ l.at + l.k * l.most) × Writing l.initial.out l.at (all_told g.tell l.width l.count l.bytes) l.out l.next (all_told g.tell l.width (l.count - l.k) (drop (l.k * l.width) l.bytes))
