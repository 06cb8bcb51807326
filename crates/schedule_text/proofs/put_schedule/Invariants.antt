-- `schedule_text::put_schedule` meets its contract. Assumes nothing.
use Rattle.std.proofs.Common.{◌≡◌, ◌+◌, ◌*◌, ◌≤◌, length, take}
use Rattle.schedule_text.proofs.Listed.{listed}
use Rattle.schedule_text.proofs.put_schedule.Given as goal

abbrev pub invariant-loop-passage : goal.invariant-loop-passage
invariant-loop-passage l =
    (26 + length l.passages * 77 ≤ length l.out) × (l.at ≤ 26 + l.passage-index * 77) × (take l.at l.out ≡ listed l.passages l.passage-index)
