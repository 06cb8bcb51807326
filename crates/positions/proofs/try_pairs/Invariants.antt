-- `positions::try_pairs` meets its contract. Assumes nothing.
use mathlib.Core.Path.{◌≡◌}
use Prim.Native.Nat.{◌*◌}
use lib.ListN.{drop}
use Rattle.model.specs.Places.{read_of}
use Rattle.model.specs.Positions.{asked, bad_pair}
use Rattle.positions.proofs.try_pairs.Given as goal

abbrev pub invariant-loop-pair : goal.invariant-loop-pair
invariant-loop-pair l =
    (bad_pair (read_of l.table) l.last (asked (drop (l.pair * 2) l.pairs)) ≡ bad_pair (read_of l.table) 0 (asked l.pairs))
