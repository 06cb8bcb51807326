-- Tests taken apart and put together. Assumes nothing.
use mathlib.Core.Path.{◌≡◌, refl, sym}
use mathlib.Core.Logic.{◌↔◌, ◌⊎◌, inl, inr}
use mathlib.Core.Bool.{Bool, true, false, ◌&&◌, ◌||◌}
use Prim.Native.Nat.{ℕ, ◌≤◌}
use native.Mathlib.Omega.{arith}
use borrow.Author.Tests.{leb-true, eqb-true, le-leb, eq-eqb}
use lib.Dec.{leb, eqb}

-- false is not true: anything follows
pub clash {ℓ} : {A : Type ℓ} → false ≡ true → A
clash e = absurd (let z : ◌≡◌ {A = ℕ} 0 1 = cc in omega arith)

-- a conjunction is true exactly if both parts are
pub and_is : (a b : Bool) → (a && b ≡ true) ↔ (a ≡ true) × (b ≡ true)
and_is true b = (λ e. (refl, e), λ h. h.1)
and_is false b = (λ e. clash e, λ h. h.0)

-- a number is at most another exactly if the test says so
pub le_is : (a b : ℕ) → (leb a b ≡ true) ↔ (a ≤ b)
le_is a b = (leb-true a b, le-leb a b)

-- two numbers are equal exactly if the test says so
pub eq_is : (a b : ℕ) → (eqb a b ≡ true) ↔ (a ≡ b)
eq_is a b = (eqb-true a b, eq-eqb a b)

-- a number is at most one bound, or is one other number, exactly if the two tests say so
pub le_or_eq_is : (a b c : ℕ) → (leb a b || eqb a c ≡ true) ↔ (a ≤ b) ⊎ (a ≡ c)
le_or_eq_is a b c = (go (leb a b) refl, λ h. elim h [ inl p ↦ rw (le-leb a b p) | inr q ↦ last (leb a b) (eq-eqb a c q) ])
  where
    go : (t : Bool) → leb a b ≡ t → t || eqb a c ≡ true → (a ≤ b) ⊎ (a ≡ c)
    go true e h = inl (leb-true a b e)
    go false e h = inr (eqb-true a c h)

    last : (t : Bool) → eqb a c ≡ true → t || eqb a c ≡ true
    last true e = refl
    last false e = e

-- a disjunction that is false: both parts are
pub neither : (a b : Bool) → a || b ≡ false → (a ≡ false) × (b ≡ false)
neither true b e = (e, clash (sym e))
neither false b e = (refl, e)

-- what tests say, as facts on numbers: `simp tests`
pub ruleset tests = (and_is, le_or_eq_is, le_is, eq_is)
