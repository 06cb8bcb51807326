-- The chain of a component that passes its locations in a ring, period after period. Assumes nothing.
use mathlib.Core.Path.{◌≡◌, refl, sym, ap, ap₂, subst, ◌∙◌}
use mathlib.Core.List.{List, [], ◌∷◌, ◌++◌, map, append-nil}
use mathlib.Core.Option.{Option, none, some}
use Prim.Native.Nat.{ℕ, zero, suc, ◌+◌, ◌-◌, ◌*◌, ◌≤◌, ◌<◌}
use native.Mathlib.Omega.{arith}
use Rattle.model.specs.Lists.{from, below}
use Rattle.model.specs.Table.{Component, arc_of}
use Rattle.model.specs.Window.{Entry, leads_to, leaves}
use Rattle.model.specs.Schedule.{Passage, start_entry}
use Rattle.model.specs.Chains.{Opens, Chain, last, link, Chained}
use Rattle.slot_plan.specs.PlanSchedule.{stays}
use Rattle.slot_plan.proofs.Ring.{Ring, enters, opens, leads_on, leads_anew}

-- each location is entered as the one before it ends; the last edge leads back to the first and resets the clock
pub record Turns (C : Component) (most : ℕ) (at low high : ℕ → ℕ) (m : ℕ → Option ℕ) : Type 0 where
  pub start : at 0 ≡ 0
  pub next : (j : ℕ) → j < most → at (suc j) ≡ high j
  pub early : (j : ℕ) → j ≤ most → at j ≤ low j
  pub wide : (j : ℕ) → j ≤ most → low j < high j
  pub onward : (j : ℕ) → j < most → leads_to (arc_of C j) (m j) ≡ suc j
  pub kept : (j : ℕ) → j < most → (arc_of C j).edge.mask ≡ 0
  pub back : leads_to (arc_of C most) (m most) ≡ 0
  pub reset : (arc_of C most).edge.mask ≡ 1

module _ (c : ℕ) {C : Component} {most : ℕ} {at low high : ℕ → ℕ} {m : ℕ → Option ℕ} (r : Ring C most low high) (t : Turns C most at low high m) where
  abbrev pub passage : ℕ → ℕ → Passage
  passage b j = stays c b j (at j) (low j) (high j) (m j)

  -- each passage opens where its location is entered
  pub here : (b j : ℕ) → j ≤ most → Opens c C (enters b j (at j)) (passage b j)
  here b j h = opens c r b j (at j) h (t.early j h) (t.wide j h) (m j)

  -- the next one in the ring
  on : (b j : ℕ) → j < most → Opens c C (leaves (arc_of C j) (m j) (b + high j) (enters b j (at j))) (passage b (suc j))
  on b j h =
      let e = leads_on c r b j (at j) (omega arith) (t.early j (omega arith)) (t.wide j (omega arith)) (m j) (suc j) (t.onward j h) (t.kept j h)
      ∙ ap (enters b (suc j)) (sym (t.next j h)) in
      subst (λ (x : Entry). Opens c C x (passage b (suc j))) (sym e) (here b (suc j) (omega arith))

  -- the first one of the next period
  round : (b : ℕ) → Opens c C (leaves (arc_of C most) (m most) (b + high most) (enters b most (at most))) (passage (b + high most) 0)
  round b =
      let e = leads_anew c r b most (at most) (omega arith) (t.early most (omega arith)) (t.wide most (omega arith)) (m most) t.back t.reset
      ∙ ap (enters (b + high most) 0) (sym t.start) in
      subst (λ (x : Entry). Opens c C x (passage (b + high most) 0)) (sym e) (here (b + high most) 0 (omega arith))

  module _ (H p : ℕ) (hp : high most ≡ p) where
    -- along one period, from passage j on
    along : (b n j : ℕ) → j + n ≡ most → ((i : ℕ) → i < most → b + high i < H) → {ws : List Passage} → Chain H c C (passage b most) ws
        → Chain H c C (passage b j) (map (passage b) (from (suc j) n) ++ ws)
    along b zero j e below' {ws} w = let q : most ≡ j = omega (arith, e) in subst (λ i. Chain H c C (passage b i) ws) q w
    along b (suc n) j e below' w = link (below' j (omega (arith, e))) (on b j (omega (arith, e))) (along b n (suc j) (omega (arith, e)) below' w)

    -- periods from number q on, so many
    unfoldable pub own_periods : ℕ → ℕ → List Passage
    own_periods q zero = []
    own_periods q (suc K) = map (passage (q * p)) (below (suc most)) ++ own_periods (suc q) K

    pub rounds : (K q : ℕ) → (q + suc K) * p ≡ H → ((b i : ℕ) → i < most → b + p ≤ H → b + high i < H) → 1 ≤ p
        → Chain H c C (passage (q * p) 0) (map (passage (q * p)) (from 1 most) ++ own_periods (suc q) K)
    unfolding own_periods
    rounds zero q e low' one = along (q * p) most 0 (omega arith) (λ i h. low' (q * p) i h (omega (arith, e))) (last (omega (arith, e, hp)))
    rounds (suc K) q e low' one =
        let base : suc q * p ≡ q * p + high most = omega (arith, hp) in
        let full : (q + suc (suc K)) * p ≡ q * p + p + (p + K * p) = omega arith in
        let rest = rounds K (suc q) (let z : (suc q + suc K) * p ≡ (q + suc (suc K)) * p = ap (λ (x : ℕ). x * p) (omega arith) in z ∙ e) low' one in
        along (q * p) most 0 (omega arith) (λ i h. low' (q * p) i h (omega (arith, e, full))) (link (omega (arith, e, full, hp)) (subst (λ (b : ℕ). Opens c C (leaves (arc_of C most) (m most) (q * p + high most) (enters (q * p) most (at most))) (passage b 0)) (sym base) (round (q * p))) rest)

    -- the chain of a component that starts with its clock at 0
    pub chained : (K : ℕ) → suc K * p ≡ H → ((b i : ℕ) → i < most → b + p ≤ H → b + high i < H) → 1 ≤ p → start_entry C ≡ enters 0 0 0 → {vs : List Passage} → vs ≡ own_periods 0 (suc K) → Chained H c C vs
    unfolding own_periods
    chained K e low' one s v =
        record {
          head = passage (0 * p) 0;
          tail = map (passage (0 * p)) (from 1 most) ++ own_periods 1 K;
          is = v;
          starts = subst (λ (x : Entry). Opens c C x (passage (0 * p) 0))
              ((let z : 0 * p ≡ 0 = omega arith in ap₂ (λ (b x : ℕ). enters b 0 x) z t.start) ∙ sym s)
              (here (0 * p) 0 (omega arith));
          chain = rounds K 0 (let z : (0 + suc K) * p ≡ suc K * p = ap (λ (x : ℕ). x * p) (omega arith) in z ∙ e) low' one;
        }
