-- Rows at which all enter, clocks compared, and the start. Assumes nothing.
use mathlib.Core.Path.{◌≡◌, refl, sym, ap, subst, ◌∙◌}
use mathlib.Core.Logic.{◌↔◌, by_cases}
use mathlib.Core.Bool.{true, false}
use mathlib.Core.List.{List, [], ◌∷◌}
use Prim.Native.Nat.{ℕ, ◌+◌, ◌-◌, ◌≤◌, ◌<◌}
use native.Mathlib.Omega.{arith}
use native.Mathlib.Decide.{ℕ_discrete}
use lib.IntN.{pos}
use lib.ListN.{length, get_or, set}
use lib.Seq.{get_or-set_same, get_or-set_other}
use Rattle.model.specs.Places.{component_in}
use Rattle.model.proofs.Basics.Bools.{clash}
use Rattle.window.specs.declared.Entry.{Entry}
use Rattle.rows.specs.Rows.{num}
use Rattle.period.specs.Walking.{Joins, no_entry}

-- ## Joining

module _ (l : List ℕ) (n components i : ℕ) (there' : i < n) where
  pub too_few : n < i + components → (false ≡ true) ↔ Joins l n components i
  too_few h = (λ e. clash e, λ j. absurd (let d = j (components - 1) (omega arith) in omega (arith, d.0)))

  pub not_joined : (c : ℕ) → c < components → ((num l (i + c) 0 ≡ c) × (num l (i + c) 3 ≡ num l i 3) → ⊥) → (false ≡ true) ↔ Joins l n components i
  not_joined c h f = (λ e. clash e, λ j. absurd (let d = j c h in f (d.1, d.2)))

  pub joined : i + components ≤ n → ((d : ℕ) → d < components → (num l (i + d) 0 ≡ d) × (num l (i + d) 3 ≡ num l i 3)) → (true ≡ true) ↔ Joins l n components i
  joined h f = (λ e d k. (let r = f d k in (omega arith, r.0, r.1)), λ j. refl)

-- one more
pub one_more : (P : ℕ → Type 0) (c : ℕ) → ((d : ℕ) → d < c → P d) → P c → (d : ℕ) → d < c + 1 → P d
one_more P c f p d h = by_cases (ℕ_discrete d c) (λ e. subst P (sym e) p) (λ e. f d (omega arith))

-- one more at which they do not
pub none_more : (P : ℕ → Type 0) (i c : ℕ) → ((d : ℕ) → i ≤ d → d < c → P d → ⊥) → (P c → ⊥) → (d : ℕ) → i ≤ d → d < c + 1 → P d → ⊥
none_more P i c f p d h k q = by_cases (ℕ_discrete d c) (λ e. p (subst P e q)) (λ e. f d h (omega arith) q)

-- the same from the end: one less
pub none_from : (P : ℕ → Type 0) (i n : ℕ) → ((d : ℕ) → i ≤ d → d < n → P d → ⊥) → (P (i - 1) → ⊥) → (d : ℕ) → i - 1 ≤ d → d < n → P d → ⊥
none_from P i n f p d h k q = by_cases (ℕ_discrete d (i - 1)) (λ e. p (subst P e q)) (λ e. f d (omega arith) k q)

-- a test that is false where something does not hold
pub no_state : {A : Type 0} → (A → ⊥) → (false ≡ true) ↔ A
no_state f = (λ e. clash e, λ x. absurd (f x))

-- ## The start

-- the entry of component c at tick 0
pub record Fresh (bs : List ℕ) (c : ℕ) (e : Entry) : Type 0 where
  pub location : e.location ≡ (component_in bs c).initial
  pub tick : e.tick ≡ 0
  pub clocks : e.clocks ≡ 0 ∷ 0 ∷ 0 ∷ 0 ∷ []
  pub values : e.values ≡ pos 0 ∷ pos 0 ∷ pos 0 ∷ pos 0 ∷ []

pub fresh_more : (bs : List ℕ) (es : List Entry) (c : ℕ) (e : Entry) → c < length es → ((d : ℕ) → d < c → Fresh bs d (get_or es d no_entry)) → Fresh bs c e → (d : ℕ) → d < c + 1 → Fresh bs d (get_or (set es c e) d no_entry)
fresh_more bs es c e l f p d h = by_cases (ℕ_discrete d c)
    (λ q. subst (Fresh bs d) (sym (ap (λ (x : ℕ). get_or (set es c e) x no_entry) q ∙ get_or-set_same es c e no_entry l)) (subst (λ (x : ℕ). Fresh bs x e) (sym q) p))
    (λ q. subst (Fresh bs d) (sym (get_or-set_other es c d e no_entry q)) (f d (omega arith)))
