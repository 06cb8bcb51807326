-- `uppaal_call::text_room` meets its contract. Assumes nothing.
use Prim.Native.Nat.{◌+◌, ◌*◌, ◌≤◌}
use Rattle.uppaal_call.proofs.Room.{room_from}
use Rattle.uppaal_call.proofs.text_room.Given as goal

abbrev pub invariant-loop-c : goal.invariant-loop-c
invariant-loop-c l = (137 + room_from l.table 0 ≤ l.room + room_from l.table l.c) × (l.room ≤ 137 + l.c * 80000000)
