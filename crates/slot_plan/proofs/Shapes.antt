-- What the passages of a plan are, one by one. Assumes nothing.
use mathlib.Core.Path.{◌≡◌, refl, sym, ap, ap₂, subst, ◌∙◌}
use mathlib.Core.Logic.{◌⊎◌, inl, inr, by_cases}
use mathlib.Core.Bool.{Bool, true, false, cond}
use mathlib.Core.List.{List, [], ◌∷◌, ◌++◌, map}
use mathlib.Core.Option.{Option, none, some}
use Prim.Native.Nat.{ℕ, zero, suc, ◌+◌, ◌-◌, ◌*◌, ◌≤◌, ◌<◌}
use native.Mathlib.Omega.{arith}
use native.Mathlib.Decide.{ℕ_discrete}
use lib.ListN.{length, get_or}
use Rattle.model.specs.Lists.{from, below, snoc, ◌∈◌, here, there}
use Rattle.model.specs.Table.{Arc, Component, Table, arc_of, component_of, size, no_component}
use Rattle.model.specs.Window.{channel_of, listens}
use Rattle.model.specs.Schedule.{Passage, passage_arc}
use Rattle.model.specs.Checks.{is_send, is_receive}
use Rattle.model.proofs.Basics.Bools.{clash}
use Rattle.model.proofs.Basics.Members.{in_append, not_in}
use Rattle.model.proofs.Checks.Heard.{send_is}
use Rattle.slot_plan.specs.declared.Slots.{Slots}
use Rattle.slot_plan.specs.Plan.{Fits, width, begins, send_from, send_to, hear_to, send_arc, hear_arc, rest_arc, probe, hub, plan_table}
use Rattle.slot_plan.specs.PlanSchedule.{sends, rests, hub_stays, slots_from, period_at, periods}
use Rattle.slot_plan.proofs.Parts.{before_last, the_last, hub_arc, hub_rest}

-- a member of a list of images of numbers in a row
pub in_map : {A : Type 0} (f : ℕ → A) (n a : ℕ) {x : A} → x ∈ map f (from a n) → (i : ℕ) × (a ≤ i) × (i < a + n) × (x ≡ f i)
in_map f zero a m = absurd (not_in m)
in_map f (suc n) a (here e) = (a, omega arith, omega arith, e)
in_map f (suc n) a (there m) = let r = in_map f n (suc a) m in (r.0, (let h = r.1 in omega arith), (let h = r.2 in omega arith), r.3)

pub map_in : {A : Type 0} (f : ℕ → A) (n a i : ℕ) → a ≤ i → i < a + n → f i ∈ map f (from a n)
map_in f zero a i h l = absurd (omega arith)
map_in f (suc n) a i h l = by_cases (ℕ_discrete i a) (λ e. here (ap f e)) (λ e. there (map_in f n (suc a) i (omega arith) (omega arith)))

module _ (slots : Slots) where
  pub data Shape (qs : List ℕ) (v : Passage) : Type 0 where
    sent : (q i : ℕ) → q ∈ qs → i < slots.probes → v ≡ sends slots (q * slots.period) i → Shape qs v
    rested : (q i : ℕ) → q ∈ qs → i < slots.probes → v ≡ rests slots (q * slots.period) i → Shape qs v
    stayed : (q i : ℕ) → q ∈ qs → i ≤ slots.probes → v ≡ hub_stays slots (q * slots.period) i → Shape qs v

  later : {qs : List ℕ} {r : ℕ} {v : Passage} → Shape qs v → Shape (r ∷ qs) v
  later (sent q i m h e) = sent q i (there m) h e
  later (rested q i m h e) = rested q i (there m) h e
  later (stayed q i m h e) = stayed q i (there m) h e

  slots_shape : (q n a : ℕ) {qs : List ℕ} {v : Passage} → q ∈ qs → a + n ≤ slots.probes → v ∈ slots_from slots (q * slots.period) (from a n) → Shape qs v
  unfolding slots_from
  slots_shape q zero a m l h = absurd (not_in h)
  slots_shape q (suc n) a m l (here e) = rested q a m (omega arith) e
  slots_shape q (suc n) a m l (there (here e)) = stayed q (suc a) m (omega arith) e
  slots_shape q (suc n) a m l (there (there h)) = slots_shape q n (suc a) m (omega arith) h

  period_shape : (q : ℕ) {qs : List ℕ} {v : Passage} → q ∈ qs → v ∈ period_at slots (q * slots.period) → Shape qs v
  unfolding period_at
  period_shape q {qs} {v} m h = go ((in_append (map (sends slots (q * slots.period)) (below slots.probes)) (hub_stays slots (q * slots.period) 0 ∷ slots_from slots (q * slots.period) (below slots.probes))).0 h)
    where
      go : (v ∈ map (sends slots (q * slots.period)) (below slots.probes)) ⊎ (v ∈ (hub_stays slots (q * slots.period) 0 ∷ slots_from slots (q * slots.period) (below slots.probes))) → Shape qs v
      go (inl x) = let r = in_map (sends slots (q * slots.period)) slots.probes 0 x in sent q r.0 m (let l = r.2 in omega arith) r.3
      go (inr (here e)) = stayed q 0 m (omega arith) e
      go (inr (there x)) = slots_shape q slots.probes 0 m (omega arith) x

  pub shape-of : (qs : List ℕ) {v : Passage} → v ∈ periods slots qs → Shape qs v
  unfolding periods
  shape-of [] m = absurd (not_in m)
  shape-of (q ∷ qs) {v} m = go (λ x. shape-of qs x) ((in_append (period_at slots (q * slots.period)) (periods slots qs)).0 m)
    where
      go : (v ∈ periods slots qs → Shape qs v) → (v ∈ period_at slots (q * slots.period)) ⊎ (v ∈ periods slots qs) → Shape (q ∷ qs) v
      go ih (inl x) = period_shape q (here refl) x
      go ih (inr x) = later (ih x)

  -- and back, for sends and the hub's passages
  slots_in : (b n a i : ℕ) → a < i → i ≤ a + n → hub_stays slots b i ∈ slots_from slots b (from a n)
  unfolding slots_from
  slots_in b zero a i h l = absurd (omega arith)
  slots_in b (suc n) a i h l = by_cases (ℕ_discrete i (suc a)) (λ e. there (here (ap (hub_stays slots b) e))) (λ e. there (there (slots_in b n (suc a) i (omega arith) (omega arith))))

  pub in_period : (qs : List ℕ) {q : ℕ} → q ∈ qs → {v : Passage} → v ∈ period_at slots (q * slots.period) → v ∈ periods slots qs
  unfolding periods
  in_period [] m x = absurd (not_in m)
  in_period (r ∷ qs) (here e) {v} x = (in_append (period_at slots (r * slots.period)) (periods slots qs)).1 (inl (subst (λ y. v ∈ period_at slots (y * slots.period)) e x))
  in_period (r ∷ qs) (there m) x = (in_append (period_at slots (r * slots.period)) (periods slots qs)).1 (inr (in_period qs m x))

  pub send_in : {qs : List ℕ} {q : ℕ} (i : ℕ) → q ∈ qs → i < slots.probes → sends slots (q * slots.period) i ∈ periods slots qs
  unfolding period_at
  send_in {qs} {q} i m h =
      in_period qs m ((in_append (map (sends slots (q * slots.period)) (below slots.probes)) (hub_stays slots (q * slots.period) 0 ∷ slots_from slots (q * slots.period) (below slots.probes))).1
      (inl (map_in (sends slots (q * slots.period)) slots.probes 0 i (omega arith) (omega arith))))

  pub hub_in : {qs : List ℕ} {q : ℕ} (i : ℕ) → q ∈ qs → i ≤ slots.probes → hub_stays slots (q * slots.period) i ∈ periods slots qs
  unfolding period_at
  hub_in {qs} {q} i m h =
      in_period qs m ((in_append (map (sends slots (q * slots.period)) (below slots.probes)) (hub_stays slots (q * slots.period) 0 ∷ slots_from slots (q * slots.period) (below slots.probes))).1
      (inr (by_cases (ℕ_discrete i 0) (λ e. here (ap (hub_stays slots (q * slots.period)) e)) (λ e. there (slots_in (q * slots.period) slots.probes 0 i (omega arith) (omega arith))))))

  module _ (f : Fits slots) where
    abbrev T : Table
    T = (plan_table slots).table

    pub probe_is : (i : ℕ) → i < slots.probes → component_of T i ≡ probe slots i
    probe_is i h = before_last (probe slots) (hub slots) no_component slots.probes 0 i h ∙ (let e : 0 + i ≡ i = omega arith in ap (probe slots) e)

    pub hub_is : component_of T slots.probes ≡ hub slots
    hub_is = the_last (probe slots) (hub slots) no_component slots.probes 0

    pub send-arc : (b i : ℕ) → i < slots.probes → passage_arc T (sends slots b i) ≡ send_arc slots i
    send-arc b i h = ap (λ (C : Component). arc_of C 0) (probe_is i h)

    pub rest-arc : (b i : ℕ) → i < slots.probes → passage_arc T (rests slots b i) ≡ rest_arc slots 1
    rest-arc b i h = ap (λ (C : Component). arc_of C 1) (probe_is i h)

    pub slot_arc : (b i : ℕ) → i < slots.probes → passage_arc T (hub_stays slots b i) ≡ hear_arc slots i
    slot_arc b i h = ap (λ (C : Component). arc_of C i) hub_is ∙ hub_arc slots f i h

    pub last_arc : (b : ℕ) → passage_arc T (hub_stays slots b slots.probes) ≡ rest_arc slots slots.probes
    last_arc b = ap (λ (C : Component). arc_of C slots.probes) hub_is ∙ hub_rest slots f

    -- the kinds of passages: a send is a probe's
    pub record Sent (qs : List ℕ) (v : Passage) : Type 0 where
      pub period : ℕ
      pub probe : ℕ
      pub listed : period ∈ qs
      pub there : probe < slots.probes
      pub is : v ≡ sends slots (period * slots.period) probe

    -- and a receive one of the hub's slots
    pub record Slot (qs : List ℕ) (v : Passage) : Type 0 where
      pub period : ℕ
      pub slot : ℕ
      pub listed : period ∈ qs
      pub there : slot < slots.probes
      pub is : v ≡ hub_stays slots (period * slots.period) slot

    no_channel : (a : Arc) {x : ℕ} → channel_of a ≡ none → channel_of a ≡ some x → ⊥
    no_channel a e g = let z : none ≡ some _ = sym e ∙ g in (let y : ◌≡◌ {A = ℕ} 0 1 = cc in omega arith)

    pub sent_of : (qs : List ℕ) (H : ℕ) (v : Passage) → v ∈ periods slots qs → is_send T H v ≡ true → Sent qs v
    sent_of qs H v m e = go (shape-of qs m)
      where
        go : Shape qs v → Sent qs v
        go (sent q i l h x) = record { period = q; probe = i; listed = l; there = h; is = x }
        go (rested q i l h x) = absurd (no_channel (passage_arc T v) (ap (λ w. channel_of (passage_arc T w)) x ∙ ap channel_of (rest-arc (q * slots.period) i h)) ((send_is T H v).0 e).1)
        go (stayed q i l h x) = by_cases (ℕ_discrete i slots.probes)
            (λ y. absurd (no_channel (passage_arc T v) (ap (λ w. channel_of (passage_arc T w)) (x ∙ ap (hub_stays slots (q * slots.period)) y) ∙ ap channel_of (last_arc (q * slots.period))) ((send_is T H v).0 e).1))
            (λ y. absurd (no_channel (passage_arc T v) (ap (λ w. channel_of (passage_arc T w)) x ∙ ap channel_of (slot_arc (q * slots.period) i (omega arith))) ((send_is T H v).0 e).1))

    pub slot_of : (qs : List ℕ) (v : Passage) → v ∈ periods slots qs → is_receive T v ≡ true → Slot qs v
    slot_of qs v m e = go (shape-of qs m)
      where
        go : Shape qs v → Slot qs v
        go (sent q i l h x) = clash (sym (ap (λ w. listens (passage_arc T w)) x ∙ ap listens (send-arc (q * slots.period) i h)) ∙ e)
        go (rested q i l h x) = clash (sym (ap (λ w. listens (passage_arc T w)) x ∙ ap listens (rest-arc (q * slots.period) i h)) ∙ e)
        go (stayed q i l h x) = by_cases (ℕ_discrete i slots.probes)
            (λ y. clash (sym (ap (λ w. listens (passage_arc T w)) (x ∙ ap (hub_stays slots (q * slots.period)) y) ∙ ap listens (last_arc (q * slots.period))) ∙ e))
            (λ y. record { period = q; slot = i; listed = l; there = omega arith; is = x })
