-- `uppaal_parts::assignments::put_resets` meets its contract. Assumes nothing.
use mathlib.Core.Path.{◌≡◌}
use Prim.Native.Nat.{◌+◌, ◌-◌, ◌*◌, ◌/◌, ◌^◌, ◌≤◌}
use Rattle.blocks.proofs.Runs.{Writing}
use Rattle.uppaal_parts.specs.Marks.{resets_text, still_first}
use Rattle.uppaal_parts.proofs.assignments.put_resets.Given as goal

abbrev pub invariant-loop-clock : goal.invariant-loop-clock
invariant-loop-clock l = (l.bits ≡ l.mask / 2 ^ l.clock) × (l.led.at ≤ l.fn.begun.at + l.clock * 40) × (still_first l.led.first l.mask l.clock (l.clocks - l.clock) ≡ still_first l.fn.begun.first l.mask 0 l.clocks) × Writing l.initial.out l.fn.begun.at (resets_text l.fn.begun.first l.mask 0 l.clocks) l.out l.led.at (resets_text l.led.first l.mask l.clock (l.clocks - l.clock))
