-- `parts::pairs` meets its contract. Assumes nothing.
use mathlib.Core.Path.{◌≡◌}
use mathlib.Core.List.{[]}
use Prim.Native.Nat.{◌+◌, ◌-◌, ◌*◌, ◌≤◌}
use lib.ListN.{length, drop}
use Rattle.model.specs.Reader.{read_pairs}
use Rattle.parts.specs.Place.{skim, channels_before}
use Rattle.parts.proofs.pairs.Given as goal

abbrev pub invariant-loop-i : goal.invariant-loop-i
invariant-loop-i l =
    (l.from + l.i * 2 ≤ length l.component)
    × (skim (read_pairs l.sizes (l.count - l.i) (channels_before (drop l.from l.component) l.i) (drop (l.from + l.i * 2) l.component)) ≡ skim (read_pairs l.sizes l.count [] (drop l.from l.component)))
