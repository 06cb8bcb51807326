-- A plan's passages stand in the order of opening; those of each component are its periods one after the other. Assumes nothing.
use mathlib.Core.Path.{◌≡◌, refl, sym, ap, ap₂, subst, ◌∙◌}
use mathlib.Core.Logic.{◌⊎◌, inl, inr, by_cases}
use mathlib.Core.List.{List, [], ◌∷◌, ◌++◌, map, append-nil}
use Prim.Native.Nat.{ℕ, zero, suc, ◌+◌, ◌-◌, ◌*◌, ◌≤◌, ◌<◌}
use native.Mathlib.Omega.{arith}
use lib.ListN.{length}
use Rattle.model.specs.Lists.{from, below, ◌∈◌, here, there, All}
use Rattle.model.specs.Schedule.{Passage, own}
use Rattle.model.specs.Chains.{Before, Ordered}
use Rattle.model.specs.Chains.{none as no-passage, more as first-passage}
use Rattle.model.proofs.Basics.Members.{in_append, not_in}
use Rattle.model.proofs.Schedule.Own.{in_all, own_here, own_other, own_append}
use Rattle.model.proofs.Schedule.Scheduled.{ordered_append}
use Rattle.slot_plan.specs.declared.Slots.{Slots}
use Rattle.slot_plan.specs.Plan.{Fits, width, begins, send_from, send_to, hear_to}
use Rattle.slot_plan.specs.PlanSchedule.{sends, rests, hub_stays, slots_from, period_at, periods}
use Rattle.slot_plan.proofs.Apart.{steps, slot_in}
use Rattle.slot_plan.proofs.Shapes.{in_map}

module _ (slots : Slots) (f : Fits slots) where
  -- what stands from probe a on: rests of later probes, and the hub's later passages
  slots-of : (b n a : ℕ) {v : Passage} → v ∈ slots_from slots b (from a n)
      → ((i : ℕ) × (a ≤ i) × (i < a + n) × (v ≡ rests slots b i)) ⊎ ((i : ℕ) × (a < i) × (i ≤ a + n) × (v ≡ hub_stays slots b i))
  unfolding slots_from
  slots-of b zero a m = absurd (not_in m)
  slots-of b (suc n) a (here e) = inl (a, omega arith, omega arith, e)
  slots-of b (suc n) a (there (here e)) = inr (suc a, omega arith, omega arith, e)
  slots-of b (suc n) a {v} (there (there m)) = go (slots-of b n (suc a) m)
    where
      go : ((i : ℕ) × (suc a ≤ i) × (i < suc a + n) × (v ≡ rests slots b i)) ⊎ ((i : ℕ) × (suc a < i) × (i ≤ suc a + n) × (v ≡ hub_stays slots b i))
          → ((i : ℕ) × (a ≤ i) × (i < a + suc n) × (v ≡ rests slots b i)) ⊎ ((i : ℕ) × (a < i) × (i ≤ a + suc n) × (v ≡ hub_stays slots b i))
      go (inl r) = inl (r.0, (let h = r.1 in omega arith), (let h = r.2 in omega arith), r.3)
      go (inr r) = inr (r.0, (let h = r.1 in omega arith), (let h = r.2 in omega arith), r.3)

  -- they are entered from the end of probe a's send on, the hub's from the next slot on
  slots_later : (b n a : ℕ) {v : Passage} → v ∈ slots_from slots b (from a n) → b + send_to slots a ≤ v.entry.tick
  slots_later b n a {v} m = go (slots-of b n a m)
    where
      mono : (i : ℕ) → a ≤ i → begins slots a ≤ begins slots i
      mono i h = by_cases (native.Mathlib.Decide.ℕ_discrete a i) (λ e. (let z = ap (begins slots) e in omega (arith, z))) (λ e. (let s = steps (width slots) a i (omega arith) in omega arith))

      go : ((i : ℕ) × (a ≤ i) × (i < a + n) × (v ≡ rests slots b i)) ⊎ ((i : ℕ) × (a < i) × (i ≤ a + n) × (v ≡ hub_stays slots b i)) → b + send_to slots a ≤ v.entry.tick
      go (inl r) = let z = ap (λ (x : Passage). x.entry.tick) r.3 in let y = mono r.0 r.1 in omega (arith, z)
      go (inr r) = let z = ap (λ (x : Passage). x.entry.tick) r.3 in let y = steps (width slots) a r.0 r.1 in omega (arith, z)

  slots_ordered : (b n a : ℕ) → Ordered (slots_from slots b (from a n))
  unfolding slots_from
  slots_ordered b zero a = no-passage
  slots_ordered b (suc n) a =
      first-passage {v = rests slots b a}
      (in_all _ (λ v m. inl (after_rest v m)))
      (first-passage {v = hub_stays slots b (suc a)} (in_all _ (λ v m. inl (let l = slots_later b n (suc a) m in omega (arith, f.least_slot)))) (slots_ordered b n (suc a)))
    where
      after_rest : (v : Passage) → v ∈ (hub_stays slots b (suc a) ∷ slots_from slots b (from (suc a) n)) → b + send_to slots a < v.entry.tick
      after_rest v (here e) = let z = ap (λ (x : Passage). x.entry.tick) e in omega (arith, z, f.least_guard)
      after_rest v (there m) = let l = slots_later b n (suc a) m in omega (arith, f.least_guard, f.least_slot)

  sends_ordered : (b n a : ℕ) → Ordered (map (sends slots b) (from a n))
  sends_ordered b zero a = no-passage
  sends_ordered b (suc n) a = first-passage {v = sends slots b a} (in_all _ (λ v m. inr (let r = in_map (sends slots b) n (suc a) m in let x = ap (λ (x : Passage). x.entry.tick) r.3 in let y = ap (λ (x : Passage). x.component) r.3 in let z = r.1 in (omega (arith, x), omega (arith, y))))) (sends_ordered b n (suc a))

  period_ordered : (b : ℕ) → Ordered (period_at slots b)
  unfolding period_at
  period_ordered b =
      ordered_append (sends_ordered b slots.probes 0)
      (first-passage {v = hub_stays slots b 0} (in_all _ (λ v m. inl (let l = slots_later b slots.probes 0 m in omega (arith, f.least_slot)))) (slots_ordered b slots.probes 0))
      (in_all _ (λ v m. let r = in_map (sends slots b) slots.probes 0 m in in_all _ (λ w u. before v r.0 r.2 r.3 w u)))
    where
      before : (v : Passage) (i : ℕ) → i < 0 + slots.probes → v ≡ sends slots b i → (w : Passage) → w ∈ (hub_stays slots b 0 ∷ slots_from slots b (below slots.probes)) → Before v w
      before v i h e w (here q) =
          let x = ap (λ (x : Passage). x.entry.tick) e in let y = ap (λ (x : Passage). x.entry.tick) q in
          let c = ap (λ (x : Passage). x.component) e in let d = ap (λ (x : Passage). x.component) q in
          inr (omega (arith, x, y), omega (arith, c, d))
      before v i h e w (there m) = let x = ap (λ (x : Passage). x.entry.tick) e in let l = slots_later b slots.probes 0 m in inl (omega (arith, x, f.least_slot))

  -- a period's passages are entered in it
  pub entered_in : (b : ℕ) {v : Passage} → v ∈ period_at slots b → (b ≤ v.entry.tick) × (v.entry.tick < b + slots.period)
  unfolding period_at
  entered_in b {v} m = go ((in_append (map (sends slots b) (below slots.probes)) (hub_stays slots b 0 ∷ slots_from slots b (below slots.probes))).0 m)
    where
      slot : ((i : ℕ) × (0 ≤ i) × (i < 0 + slots.probes) × (v ≡ rests slots b i)) ⊎ ((i : ℕ) × (0 < i) × (i ≤ 0 + slots.probes) × (v ≡ hub_stays slots b i)) → (b ≤ v.entry.tick) × (v.entry.tick < b + slots.period)
      slot (inl r) = let z = ap (λ (x : Passage). x.entry.tick) r.3 in let y = slot_in slots f r.0 (let h = r.2 in omega arith) in (omega (arith, z), omega (arith, z))
      slot (inr r) =
          let z = ap (λ (x : Passage). x.entry.tick) r.3 in
          let y : begins slots r.0 ≤ begins slots slots.probes = native.Mathlib.Nat.mul-le-mul {n₁ = r.0} {m₁ = width slots} {n₂ = slots.probes} {m₂ = width slots} (let h = r.2 in omega arith) (omega arith) in
          (omega (arith, z), omega (arith, z, f.room))

      go : (v ∈ map (sends slots b) (below slots.probes)) ⊎ (v ∈ (hub_stays slots b 0 ∷ slots_from slots b (below slots.probes))) → (b ≤ v.entry.tick) × (v.entry.tick < b + slots.period)
      go (inl x) = let r = in_map (sends slots b) slots.probes 0 x in let z = ap (λ (x : Passage). x.entry.tick) r.3 in (omega (arith, z), omega (arith, z, f.room))
      go (inr (here e)) = let z = ap (λ (x : Passage). x.entry.tick) e in (omega (arith, z), omega (arith, z, f.room))
      go (inr (there x)) = slot (slots-of b slots.probes 0 x)

  later_periods : (K q : ℕ) {v : Passage} → v ∈ periods slots (from q K) → q * slots.period ≤ v.entry.tick
  unfolding periods
  later_periods zero q m = absurd (not_in m)
  later_periods (suc K) q {v} m = go (λ x. later_periods K (suc q) x) ((in_append (period_at slots (q * slots.period)) (periods slots (from (suc q) K))).0 m)
    where
      go : (v ∈ periods slots (from (suc q) K) → suc q * slots.period ≤ v.entry.tick) → (v ∈ period_at slots (q * slots.period)) ⊎ (v ∈ periods slots (from (suc q) K)) → q * slots.period ≤ v.entry.tick
      go ih (inl x) = (entered_in (q * slots.period) x).0
      go ih (inr x) = let h = ih x in omega arith

  pub plan_ordered : (K q : ℕ) → Ordered (periods slots (from q K))
  unfolding periods
  plan_ordered zero q = no-passage
  plan_ordered (suc K) q =
      ordered_append (period_ordered (q * slots.period)) (plan_ordered K (suc q))
      (in_all _ (λ v m. in_all _ (λ w u. inl (let a = (entered_in (q * slots.period) m).1 in let b = later_periods K (suc q) u in omega arith))))

  -- ## The passages of one component

  sends_none : (b n a c : ℕ) → (c < a) ⊎ (a + n ≤ c) → own c (map (sends slots b) (from a n)) ≡ []
  sends_none b zero a c h = refl
  sends_none b (suc n) a c (inl h) = own_other c (sends slots b a) (map (sends slots b) (from (suc a) n)) (λ e. omega (arith, e)) ∙ sends_none b n (suc a) c (inl (omega arith))
  sends_none b (suc n) a c (inr h) = own_other c (sends slots b a) (map (sends slots b) (from (suc a) n)) (λ e. omega (arith, e)) ∙ sends_none b n (suc a) c (inr (omega arith))

  sends_own : (b n a c : ℕ) → a ≤ c → c < a + n → own c (map (sends slots b) (from a n)) ≡ sends slots b c ∷ []
  sends_own b zero a c h l = absurd (omega arith)
  sends_own b (suc n) a c h l =
      by_cases (native.Mathlib.Decide.ℕ_discrete a c)
      (λ e. own_here c (sends slots b a) (map (sends slots b) (from (suc a) n)) e ∙ ap₂ (λ (x : Passage) (xs : List Passage). x ∷ xs) (ap (sends slots b) e) (sends_none b n (suc a) c (inl (omega arith))))
      (λ e. own_other c (sends slots b a) (map (sends slots b) (from (suc a) n)) e ∙ sends_own b n (suc a) c (omega arith) (omega arith))

  -- of the slots: a probe's rest, or nothing
  slots_none : (b n a c : ℕ) → c < slots.probes → (c < a) ⊎ (a + n ≤ c) → own c (slots_from slots b (from a n)) ≡ []
  unfolding slots_from
  slots_none b zero a c l h = refl
  slots_none b (suc n) a c l h =
      own_other c (rests slots b a) (hub_stays slots b (suc a) ∷ slots_from slots b (from (suc a) n)) (out h)
      ∙ own_other c (hub_stays slots b (suc a)) (slots_from slots b (from (suc a) n)) (λ e. omega (arith, e))
      ∙ slots_none b n (suc a) c l (next h)
    where
      out : (c < a) ⊎ (a + suc n ≤ c) → a ≡ c → ⊥
      out (inl q) e = omega (arith, e)
      out (inr q) e = omega (arith, e)

      next : (c < a) ⊎ (a + suc n ≤ c) → (c < suc a) ⊎ (suc a + n ≤ c)
      next (inl q) = inl (omega arith)
      next (inr q) = inr (omega arith)

  slots_own : (b n a c : ℕ) → c < slots.probes → a ≤ c → c < a + n → own c (slots_from slots b (from a n)) ≡ rests slots b c ∷ []
  unfolding slots_from
  slots_own b zero a c l h u = absurd (omega arith)
  slots_own b (suc n) a c l h u =
      by_cases (native.Mathlib.Decide.ℕ_discrete a c)
      (λ e. own_here c (rests slots b a) (hub_stays slots b (suc a) ∷ slots_from slots b (from (suc a) n)) e
      ∙ ap₂ (λ (x : Passage) (xs : List Passage). x ∷ xs) (ap (rests slots b) e) (own_other c (hub_stays slots b (suc a)) (slots_from slots b (from (suc a) n)) (λ q. omega (arith, q)) ∙ slots_none b n (suc a) c l (inl (omega arith))))
      (λ e. own_other c (rests slots b a) (hub_stays slots b (suc a) ∷ slots_from slots b (from (suc a) n)) e
      ∙ own_other c (hub_stays slots b (suc a)) (slots_from slots b (from (suc a) n)) (λ q. omega (arith, q))
      ∙ slots_own b n (suc a) c l (omega arith) (omega arith))

  slots_hub : (b n a : ℕ) → a + n ≤ slots.probes → own slots.probes (slots_from slots b (from a n)) ≡ map (hub_stays slots b) (from (suc a) n)
  unfolding slots_from
  slots_hub b zero a l = refl
  slots_hub b (suc n) a l =
      own_other slots.probes (rests slots b a) (hub_stays slots b (suc a) ∷ slots_from slots b (from (suc a) n)) (λ e. omega (arith, e))
      ∙ own_here slots.probes (hub_stays slots b (suc a)) (slots_from slots b (from (suc a) n)) refl
      ∙ ap (λ (xs : List Passage). hub_stays slots b (suc a) ∷ xs) (slots_hub b n (suc a) (omega arith))

  pub period_probe : (b i : ℕ) → i < slots.probes → own i (period_at slots b) ≡ sends slots b i ∷ rests slots b i ∷ []
  unfolding period_at
  period_probe b i h =
      own_append i (map (sends slots b) (below slots.probes)) (hub_stays slots b 0 ∷ slots_from slots b (below slots.probes))
      ∙ ap₂ (λ (xs ys : List Passage). xs ++ ys) (sends_own b slots.probes 0 i (omega arith) (omega arith))
      (own_other i (hub_stays slots b 0) (slots_from slots b (below slots.probes)) (λ e. omega (arith, e)) ∙ slots_own b slots.probes 0 i h (omega arith) (omega arith))

  pub period_hub : (b : ℕ) → own slots.probes (period_at slots b) ≡ map (hub_stays slots b) (below (suc slots.probes))
  unfolding period_at
  period_hub b =
      own_append slots.probes (map (sends slots b) (below slots.probes)) (hub_stays slots b 0 ∷ slots_from slots b (below slots.probes))
      ∙ ap₂ (λ (xs ys : List Passage). xs ++ ys) (sends_none b slots.probes 0 slots.probes (inr (omega arith)))
      (own_here slots.probes (hub_stays slots b 0) (slots_from slots b (below slots.probes)) refl ∙ ap (λ (xs : List Passage). hub_stays slots b 0 ∷ xs) (slots_hub b slots.probes 0 (omega arith)))
