-- `blocks::put_clocks` meets its contract. Assumes nothing.
use mathlib.Core.Path.{◌≡◌}
use Prim.Native.Nat.{◌-◌, ◌/◌, ◌^◌, ◌≤◌}
use Rattle.blocks.proofs.Runs.{Writing}
use Rattle.blocks.proofs.Blocks.{clocks_from}
use Rattle.blocks.proofs.put_clocks.Given as goal

abbrev pub invariant-loop-i : goal.invariant-loop-i
invariant-loop-i l = (l.i ≤ l.clocks) × (l.bits ≡ l.mask / 2 ^ l.i) × Writing l.initial.out l.at (clocks_from l.mask 0 l.clocks) l.out l.next (clocks_from l.mask l.i (l.clocks - l.i))
