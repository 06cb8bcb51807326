-- `translator::clocks_length` meets its contract. Assumes nothing.
use mathlib.Core.Path.{◌≡◌}
use Prim.Native.Nat.{◌+◌, ◌-◌, ◌*◌, ◌≤◌}
use lib.ListN.{length, drop}
use Rattle.blocks.specs.declared.Kind.TheVariants.{ClockGuards}
use Rattle.blocks.specs.Made.{all_made}
use Rattle.translator.proofs.clocks_length.Given as goal

abbrev pub invariant-loop : goal.invariant-loop
invariant-loop l =
    (l.place + (l.count - l.counter) * 5 ≤ length l.bytes)
    × (l.long + length (all_made ClockGuards (l.count - l.counter) (drop l.place l.bytes)) ≡ length (all_made ClockGuards l.count l.bytes))
