-- `uppaal_parts::assignments::put_updates` meets its contract. Assumes nothing.
use mathlib.Core.Path.{◌≡◌}
use mathlib.Core.Bool.{true}
use Prim.Native.Nat.{◌+◌, ◌-◌, ◌*◌, ◌≤◌}
use lib.Dec.{eqb}
use lib.ListN.{drop}
use Rattle.blocks.proofs.Runs.{Writing}
use Rattle.uppaal_parts.specs.Marks.{updates_text}
use Rattle.uppaal_parts.proofs.assignments.put_updates.Given as goal

abbrev pub invariant-loop-k : goal.invariant-loop-k
invariant-loop-k l = (l.led.at ≤ l.at + l.k * 60) × (l.led.first ≡ eqb l.k 0) × Writing l.initial.out l.at (updates_text true l.count l.bytes) l.out l.led.at (updates_text l.led.first (l.count - l.k) (drop (l.k * 4) l.bytes))
