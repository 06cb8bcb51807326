-- Choices that are ticks, one after the other, and the least of some numbers. Assumes nothing.
use mathlib.Core.Path.{◌≡◌}
use mathlib.Core.List.{List}
use mathlib.Core.Logic.{by_cases}
use Prim.Native.Nat.{ℕ, ◌+◌, ◌≤◌, ◌<◌}
use native.Mathlib.Omega.{arith}
use native.Mathlib.Decide.{ℕ_discrete, dec_le}
use lib.ListN.{get_or}
use Rattle.run.specs.Ends.{Ticks}

module _ (choices : List ℕ) where
  pub ticks_none : (at : ℕ) → Ticks choices at at
  ticks_none at i h k = absurd (omega arith)

  pub ticks_one : (at : ℕ) → get_or choices at 0 ≡ 255 → Ticks choices at (at + 1)
  ticks_one at e i h k = let q : i ≡ at = omega arith in rw q e

  pub ticks_join : (from at end : ℕ) → Ticks choices from at → Ticks choices at end → Ticks choices from end
  ticks_join from at end f g i h k = by_cases (dec_le at i) (λ l. g i l k) (λ n. f i h (omega arith))

  pub ticks_four : (at : ℕ) → get_or choices at 0 ≡ 255 → get_or choices (at + 1) 0 ≡ 255 → get_or choices (at + 2) 0 ≡ 255 → get_or choices (at + 3) 0 ≡ 255 → Ticks choices at (at + 4)
  ticks_four at a b c d i h k =
      by_cases (ℕ_discrete i at) (λ e. rw e a)
      (λ n₀.
      by_cases (ℕ_discrete i (at + 1)) (λ e. rw e b)
      (λ n₁. by_cases (ℕ_discrete i (at + 2)) (λ e. rw e c) (λ n₂. let e : i ≡ at + 3 = omega arith in rw e d)))

  pub ticks_eight : (at : ℕ) → Ticks choices at (at + 4) → Ticks choices (at + 4) (at + 4 + 4) → Ticks choices at (at + 8)
  ticks_eight at f g = let e : at + 8 ≡ at + 4 + 4 = omega arith in rw e (ticks_join at (at + 4) (at + 4 + 4) f g)

-- no greater than each of some numbers: the same with one more, and a lesser one
pub least_more : (w : ℕ → ℕ) (c a b : ℕ) → b ≤ a → b ≤ w c → ((i : ℕ) → i < c → a ≤ w i) → (i : ℕ) → i < c + 1 → b ≤ w i
least_more w c a b h k f i q = by_cases (ℕ_discrete i c) (λ e. rw e k) (λ n. omega (arith, f i (omega arith)))
