-- `text::put` meets its contract. Assumes nothing.
use mathlib.Core.Path.{◌≡◌}
use mathlib.Core.List.{◌++◌}
use Prim.Native.Nat.{◌+◌}
use lib.ListN.{length, take}
use Rattle.text.proofs.put.Given as goal

-- so many of the words stand there
abbrev pub invariant-loop-i : goal.invariant-loop-i
invariant-loop-i l = record {
  long : length l.out ≡ length l.initial.out;
  text : take (l.at + l.i) l.out ≡ take l.at l.initial.out ++ take l.i l.words;
}
