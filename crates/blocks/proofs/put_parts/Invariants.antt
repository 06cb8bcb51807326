-- `blocks::put_parts` meets its contract. Assumes nothing.
use Prim.Native.Nat.{◌+◌, ◌-◌, ◌*◌, ◌≤◌}
use lib.ListN.{length, drop}
use Rattle.blocks.specs.Made.{width_of, all_made}
use Rattle.blocks.proofs.Runs.{Writing}
use Rattle.blocks.proofs.put_parts.Given as goal

abbrev pub invariant-loop : goal.invariant-loop
invariant-loop l =
    (l.place + (l.count - l.counter) * width_of l.kind ≤ length l.bytes)
    × Writing l.initial.out l.at (all_made l.kind l.count l.bytes) l.out l.next (all_made l.kind (l.count - l.counter) (drop l.place l.bytes))
