-- The tests of a plan's numbers, one after the other, and that no product of them is large. Assumes nothing.
use mathlib.Core.Path.{◌≡◌, sym, ◌∙◌}
use mathlib.Core.Bool.{Bool, true, false, not}
use Prim.Native.Nat.{ℕ, ◌+◌, ◌*◌, ◌≤◌, ◌<◌}
use native.Mathlib.Nat.{mul-le-mul}
use native.Mathlib.Omega.{arith}
use borrow.Author.Tests.{le-leb, lt-leb, leb-true, not-true, not-false}
use lib.Dec.{leb, ltb}
use Rattle.model.proofs.Basics.Bools.{and_is}
use Rattle.slot_plan.specs.declared.Slots.{Slots}
use Rattle.slot_plan.specs.Plan.{in_range, width, begins, plannable, Fits}
use Rattle.slot_plan.proofs.Apart.{steps}

-- a test that was passed, and one that was not
pub passed : (x : Bool) {y : Bool} → x ≡ y → not x ≡ false → y ≡ true
passed x e h = sym e ∙ not-false x h

pub failed : (x : Bool) {y : Bool} → x ≡ y → not x ≡ true → y ≡ false
failed x e h = sym e ∙ not-true x h

pub too_low : (most number : ℕ) → number < 1 → false ≡ in_range most number
too_low most number h = rw (lt-leb 1 number h)

pub not_too_low : (most number : ℕ) → 1 ≤ number → leb number most ≡ in_range most number
not_too_low most number h = rw (le-leb 1 number h)

-- a number in its range is at most
pub at-most : (most number : ℕ) → in_range most number ≡ true → number ≤ most
at-most most number e = leb-true number most ((and_is (leb 1 number) (leb number most)).0 e).1

module _ (slots : Slots) where
  pub probes_out : in_range 7 slots.probes ≡ false → false ≡ plannable slots
  probes_out a = rw a

  module _ (a : in_range 7 slots.probes ≡ true) where
    pub slot_out : in_range 1000 slots.slot ≡ false → false ≡ plannable slots
    slot_out b = rw (a, b)

    module _ (b : in_range 1000 slots.slot ≡ true) where
      pub guard_out : in_range 1000 slots.guard ≡ false → false ≡ plannable slots
      guard_out c = rw (a, b, c)

      module _ (c : in_range 1000 slots.guard ≡ true) where
        pub period_out : 30000 < slots.period → false ≡ plannable slots
        period_out d = rw (a, b, c, lt-leb slots.period 30000 d)

        pub period_in : slots.period ≤ 30000 → ltb (slots.probes * width slots) slots.period ≡ plannable slots
        period_in d = rw (a, b, c, le-leb slots.period 30000 d)

        -- 2 × g, s + 2 × g and n × (s + 2 × g) are far from 2³²
        pub twice_small : 2 * slots.guard ≤ 2000
        twice_small = let h = at-most 1000 slots.guard c in omega arith

        pub width_small : width slots ≤ 3000
        width_small = let h = at-most 1000 slots.slot b in let g = twice_small in omega arith

        pub product_small : slots.probes * width slots ≤ 21000
        product_small = mul-le-mul {n₁ = slots.probes} {m₁ = width slots} {n₂ = 7} {m₂ = 3000} (at-most 7 slots.probes a) width_small

  -- a slot that there is begins before the period's end, and ends there too
  pub slot_inside : (i : ℕ) → Fits slots → i < slots.probes → begins slots i + width slots < slots.period
  slot_inside i f h = let m = steps (width slots) i slots.probes h in omega (arith, f.room)
