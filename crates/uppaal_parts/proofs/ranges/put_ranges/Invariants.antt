-- `uppaal_parts::ranges::put_ranges` meets its contract. Assumes nothing.
use Prim.Native.Nat.{◌+◌, ◌-◌, ◌*◌, ◌≤◌}
use Rattle.blocks.proofs.Runs.{Writing}
use Rattle.uppaal_parts.specs.Marks.{ranges_text}
use Rattle.uppaal_parts.proofs.ranges.put_ranges.Given as goal

abbrev pub invariant-loop-i : goal.invariant-loop-i
invariant-loop-i l = (l.next ≤ l.at + l.i * 100) × Writing l.initial.out l.at (ranges_text l.bytes 0 l.count) l.out l.next (ranges_text l.bytes l.i (l.count - l.i))
