-- A list from its start, as `&table[0..]` lends it. Assumes nothing.
use mathlib.Core.Path.{◌≡◌}
use mathlib.Core.List.{List}
use Prim.Native.Nat.{ℕ, ◌-◌}
use native.Mathlib.Omega.{arith}
use lib.ListN.{length, take}
use lib.Seq.{take_all}

-- it is all of the list
pub whole : (bs : List ℕ) → take (length bs - 0) bs ≡ bs
whole bs = take_all (length bs - 0) bs (omega arith)
