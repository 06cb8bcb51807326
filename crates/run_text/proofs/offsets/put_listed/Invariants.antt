-- `run_text::offsets::put_listed` meets its contract. Assumes nothing.
use mathlib.Core.Path.{◌≡◌}
use mathlib.Core.List.{◌++◌}
use Prim.Native.Nat.{◌+◌, ◌*◌, ◌≤◌}
use lib.ListN.{length, take}
use Rattle.model.specs.Run.{offset_in}
use Rattle.run_text.proofs.OffsetsTold.{rest}
use Rattle.run_text.proofs.offsets.put_listed.Given as goal

abbrev pub invariant-loop-c : goal.invariant-loop-c
invariant-loop-c l =
    (1 ≤ l.c) × (l.c ≤ l.nodes) × (l.initial.end + l.nodes * 12 ≤ length l.initial.out + 12) × (length l.out ≡ length l.initial.out) × (l.end + 12 ≤ l.initial.end + l.c * 12)
    × (take l.end l.out ++ rest (offset_in l.offsets) l.nodes l.c ≡ take l.initial.end l.initial.out ++ rest (offset_in l.offsets) l.nodes 1)
