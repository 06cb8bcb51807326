-- The distances between windows of a plan. Assumes nothing.
use mathlib.Core.Path.{◌≡◌, refl, sym, ap, ◌∙◌}
use mathlib.Core.Bool.{true}
use Prim.Native.Nat.{ℕ, suc, ◌+◌, ◌-◌, ◌*◌, ◌≤◌, ◌<◌}
use native.Mathlib.Omega.{arith}
use native.Mathlib.Nat.{mul-le-mul}
use Rattle.slot_plan.specs.declared.Slots.{Slots}
use Rattle.slot_plan.specs.Plan.{Fits, width, begins, send_from, send_to, hear_to}

-- multiples of a number: of two that differ the higher is higher by the number at least
pub steps : (a i j : ℕ) → i < j → i * a + a ≤ j * a
steps a i j h = let m : suc i * a ≤ j * a = mul-le-mul {n₁ = suc i} {m₁ = a} {n₂ = j} {m₂ = a} (omega arith) (omega arith) in omega arith

module _ (slots : Slots) (f : Fits slots) where
  -- slot i lies in the period
  pub slot_in : (i : ℕ) → i < slots.probes → hear_to slots i < slots.period
  slot_in i h = let m = steps (width slots) i slots.probes h in omega (arith, f.room)

  -- sends of two probes in one period: 2 × g ticks lie between their windows
  pub sends_apart : (i j : ℕ) → i < j → send_to slots i + 2 * slots.guard ≤ send_from slots j
  sends_apart i j h = let m = steps (width slots) i j h in omega arith

  -- in two periods: more than 2 × g
  pub sends_apart_later : (q r i j : ℕ) → q < r → i < slots.probes → j < slots.probes → q * slots.period + send_to slots i + 2 * slots.guard < r * slots.period + send_from slots j
  sends_apart_later q r i j h a b =
      let m = steps slots.period q r h in
      let n = steps (width slots) i slots.probes a in
      omega (arith, f.room, f.least_guard)

  -- a send of probe i and the hub's slot for it in a later or an earlier period: more than g
  pub hears_later : (q r i : ℕ) → q < r → i < slots.probes → q * slots.period + send_to slots i + slots.guard < r * slots.period + begins slots i
  hears_later q r i h a =
      let m = steps slots.period q r h in
      let n = steps (width slots) i slots.probes a in
      omega (arith, f.room)

  pub hears_before : (q r i : ℕ) → q < r → i < slots.probes → q * slots.period + hear_to slots i + slots.guard < r * slots.period + send_from slots i
  hears_before q r i h a =
      let m = steps slots.period q r h in
      let n = steps (width slots) i slots.probes a in
      omega (arith, f.room)
