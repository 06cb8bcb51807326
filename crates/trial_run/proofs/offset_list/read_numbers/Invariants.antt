-- `trial_run::offset_list::read_numbers` meets its contract. Assumes nothing.
use mathlib.Core.Path.{◌≡◌}
use Prim.Native.Nat.{◌≤◌}
use lib.ListN.{length, take, drop}
use Rattle.trial_run.specs.OffsetList.{parts_of, numbers_of}
use Rattle.trial_run.proofs.Parts.{behind}
use Rattle.trial_run.proofs.offset_list.read_numbers.Given as goal

abbrev pub invariant-loop-n : goal.invariant-loop-n
invariant-loop-n l =
    (l.at ≤ length l.word) × (l.n ≤ 64) × (64 ≤ length l.initial.list) × (length l.list ≡ length l.initial.list)
    × (behind (take l.n l.list) (numbers_of (parts_of (drop l.at l.word))) ≡ numbers_of (parts_of l.word))
