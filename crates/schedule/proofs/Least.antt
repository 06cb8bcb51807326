-- The least of the first numbers, on a tie the one at the lowest place. Assumes nothing.
use mathlib.Core.List.{List}
use Prim.Native.Nat.{ℕ, ◌+◌, ◌≤◌, ◌<◌}
use native.Mathlib.Omega.{arith}
use borrow.Author.Count.{below_more}
use lib.ListN.{get_or}
use Rattle.schedule.specs.Going.{Soonest}

-- of one
pub least_one : (ends : List ℕ) → Soonest ends 1 0
least_one ends =
    record {
      there = omega arith;
      least = below_more (λ (i : ℕ). get_or ends 0 0 ≤ get_or ends i 0) 0 (λ i h. absurd (omega arith)) (omega arith);
      lowest = λ i h. absurd (omega arith);
    }

module _ (ends : List ℕ) (n r : ℕ) (s : Soonest ends n r) where
  -- the next is less
  pub least_next : get_or ends n 0 < get_or ends r 0 → Soonest ends (n + 1) n
  least_next h =
      record {
        there = omega arith;
        least = below_more (λ (i : ℕ). get_or ends n 0 ≤ get_or ends i 0) n (λ i a. omega (arith, s.least i a)) (omega arith);
        lowest = λ i a. omega (arith, s.least i a);
      }

  -- it is not
  pub least_kept : get_or ends r 0 ≤ get_or ends n 0 → Soonest ends (n + 1) r
  least_kept h =
      record {
        there = omega (arith, s.there);
        least = below_more (λ (i : ℕ). get_or ends r 0 ≤ get_or ends i 0) n s.least h;
        lowest = s.lowest;
      }
