-- The schedule of a plan, and that every plan is accepted. Assumes nothing.
use mathlib.Core.Path.{◌≡◌, refl, sym, ap, ap₂, subst, ◌∙◌}
use mathlib.Core.Logic.{◌⊎◌, inl, inr, by_cases}
use mathlib.Core.Bool.{Bool, true, false, cond}
use mathlib.Core.List.{List, [], ◌∷◌, ◌++◌, map}
use mathlib.Core.Option.{Option, none, some}
use Prim.Native.Nat.{ℕ, zero, suc, ◌+◌, ◌-◌, ◌*◌, ◌≤◌, ◌<◌}
use native.Mathlib.Omega.{arith}
use native.Mathlib.Decide.{ℕ_discrete}
use borrow.Author.Tests.{eq-eqb}
use lib.ListN.{length, length-map, length-append}
use Rattle.model.specs.Lists.{from, below, ◌∈◌, here, there, All, accepted, ◌after◌}
use Rattle.model.specs.Table.{Arc, Component, Table, size, component_of}
use Rattle.model.specs.Window.{channel_of, listens}
use Rattle.model.specs.Schedule.{Passage, passage_arc, names, others, own, message_in, heard_by, earliest, carried, schedule}
use Rattle.model.specs.Checks.{checked, accepted_schedule, accepted_schedule_at, accepted_schedule_of, limit, no_passage, passage_at}
use Rattle.model.specs.Chains.{Chained, IsSchedule}
use Rattle.model.proofs.Basics.Bools.{clash}
use Rattle.model.proofs.Basics.Members.{not_in, number-of, earliest_some}
use Rattle.model.proofs.Schedule.Own.{in_all, own_append}
use Rattle.model.proofs.Schedule.Soonest.{earliest_none}
use Rattle.model.proofs.Checks.Heard.{heard_is, others_is, Windows}
use Rattle.model.proofs.Schedule.Exactly.{is-accepted}
use Rattle.model.proofs.Checks.Independence.{independent}
use Rattle.slot_plan.specs.declared.Slots.{Slots}
use Rattle.slot_plan.specs.Plan.{Fits, width, begins, send_from, send_to, hear_to, send_arc, hear_arc, rest_arc, probe, hub, plan_table}
use Rattle.slot_plan.specs.PlanSchedule.{sends, rests, hub_stays, hub_low, hub_high, hub_message, slots_from, period_at, periods, plan_passages}
use Rattle.slot_plan.proofs.Apart.{steps, slot_in}
use Rattle.slot_plan.proofs.Rounds.{own_periods, chained}
use Rattle.slot_plan.proofs.Parts.{length_from, low_is, high_is, message_is, low_rest, high_rest, message_rest, by_part, hub_ring, hub_turns, probe_at, probe_low, probe_high, probe_message, probe_ring, probe_turns}
use Rattle.slot_plan.proofs.Shapes.{Shape, sent, rested, stayed, shape-of, send_in, hub_in, probe_is, hub_is, send-arc, rest-arc, slot_arc, last_arc}
use Rattle.slot_plan.proofs.Alone.{named, plan_independent}
use Rattle.slot_plan.proofs.Order.{plan_ordered, period_probe, period_hub}

in_from : (n a : ℕ) {q : ℕ} → q ∈ from a n → (a ≤ q) × (q < a + n)
in_from zero a m = absurd (not_in m)
in_from (suc n) a (here e) = (omega (arith, e), omega (arith, e))
in_from (suc n) a (there m) = let r = in_from n (suc a) m in (omega (arith, r.0), omega (arith, r.1))

module _ (slots : Slots) (f : Fits slots) where
  abbrev T : Table
  T = (plan_table slots).table

  pub size_is : size T ≡ suc slots.probes
  size_is = length-append (map (probe slots) (below slots.probes)) (hub slots ∷ []) ∙ (let z = length-map (below slots.probes) (probe slots) ∙ length_from slots.probes 0 in omega (arith, z))

  -- ## Each component's chain

  module _ (H : ℕ) where
    probe_periods : (i : ℕ) (h : i < slots.probes) (K q : ℕ) → own i (periods slots (from q K)) ≡ own_periods i (probe_ring slots f i h) (probe_turns slots f i h) H slots.period refl q K
    unfolding periods own_periods
    probe_periods i h zero q = refl
    probe_periods i h (suc K) q = own_append i (period_at slots (q * slots.period)) (periods slots (from (suc q) K)) ∙ ap₂ (λ (xs ys : List Passage). xs ++ ys) (period_probe slots f (q * slots.period) i h) (probe_periods i h K (suc q))

    hub_periods : (K q : ℕ) → own slots.probes (periods slots (from q K)) ≡ own_periods slots.probes (hub_ring slots f) (hub_turns slots f) H slots.period (high_rest slots f) q K
    unfolding periods own_periods
    hub_periods zero q = refl
    hub_periods (suc K) q = own_append slots.probes (period_at slots (q * slots.period)) (periods slots (from (suc q) K)) ∙ ap₂ (λ (xs ys : List Passage). xs ++ ys) (period_hub slots f (q * slots.period)) (hub_periods K (suc q))

  probe_chain : (K i : ℕ) (h : i < slots.probes) → Chained (suc K * slots.period) i (probe slots i) (own i (periods slots (from 0 (suc K))))
  probe_chain K i h =
      chained i (probe_ring slots f i h) (probe_turns slots f i h) (suc K * slots.period) slots.period refl K refl
      low' (omega (arith, f.room)) refl (probe_periods (suc K * slots.period) i h (suc K) 0)
    where
      low' : (b j : ℕ) → j < 1 → b + slots.period ≤ suc K * slots.period → b + probe_high slots f i h j < suc K * slots.period
      low' b zero q l = omega (arith, slot_in slots f i h)
      low' b (suc j) q l = absurd (omega arith)

  hub_chain : (K : ℕ) → Chained (suc K * slots.period) slots.probes (hub slots) (own slots.probes (periods slots (from 0 (suc K))))
  hub_chain K =
      chained slots.probes (hub_ring slots f) (hub_turns slots f) (suc K * slots.period) slots.period (high_rest slots f) K refl
      (λ b j q l. omega (arith, high_is slots f j q, slot_in slots f j q))
      (omega (arith, f.room)) refl (hub_periods (suc K * slots.period) (suc K) 0)

  -- ## Messages, windows and number

  module _ (K : ℕ) where
    abbrev H : ℕ
    H = suc K * slots.period

    abbrev S : List Passage
    S = periods slots (from 0 (suc K))

    heard_in : (q i : ℕ) → q ∈ from 0 (suc K) → i < slots.probes → heard_by T H (hub_stays slots (q * slots.period) i) (sends slots (q * slots.period) i) ≡ true
    heard_in q i m h =
        let z = steps slots.period q (suc K) (let r = in_from (suc K) 0 m in omega (arith, r.1)) in
        (heard_is 0 T H (hub_stays slots (q * slots.period) i) (sends slots (q * slots.period) i)).1 (
          ap₂ names (slot_arc slots f (q * slots.period) i h) (ap channel_of (send-arc slots f (q * slots.period) i h)) ∙ rw (eq-eqb i i refl),
          (others_is (hub_stays slots (q * slots.period) i) (sends slots (q * slots.period) i)).1 (λ e. omega (arith, e)),
          omega (arith, low_is slots f i h, f.least_guard),
          omega (arith, slot_in slots f i h, z),
          omega (arith, high_is slots f i h, f.least_guard),
        )

    -- the hub's message of slot i is channel i
    slot_message : (q i : ℕ) → q ∈ from 0 (suc K) → i < slots.probes → carried T (earliest (heard_by T H (hub_stays slots (q * slots.period) i)) S none) ≡ some i
    slot_message q i m h = go (earliest (heard_by T H v) S none) refl
      where
        v : Passage
        v = hub_stays slots (q * slots.period) i

        channel : (c : Option ℕ) → names (passage_arc T v) c ≡ true → c ≡ some i
        channel none e = clash e
        channel (some x) e = ap some (named slots f (q * slots.period) i h x e)

        go : (o : Option Passage) → earliest (heard_by T H v) S none ≡ o → carried T (earliest (heard_by T H v) S none) ≡ some i
        go none e =
            let n = number-of no_passage (send_in slots {qs = from 0 (suc K)} i m h) in
            clash (sym ((earliest_none (heard_by T H v) S none e).1 n.0 n.1) ∙ ap (heard_by T H v) n.2 ∙ heard_in q i m h)
        go (some s) e = ap (carried T) e ∙ from_one (earliest_some (heard_by T H v) S none e)
          where
            from_one : (none ≡ some s) ⊎ ((s ∈ S) × (heard_by T H v s ≡ true)) → channel_of (passage_arc T s) ≡ some i
            from_one (inl x) = let y : ◌≡◌ {A = ℕ} 0 1 = cc in absurd (omega arith)
            from_one (inr x) = channel (channel_of (passage_arc T s)) ((heard_is 0 T H v s).0 x.1).0

    messages : (v : Passage) → v ∈ S → v.message ≡ message_in T H S v
    unfolding message_in
    messages v m = go (shape-of slots (from 0 (suc K)) m)
      where
        said : (w : Passage) (a : Arc) → v ≡ w → passage_arc T w ≡ a → listens a ≡ false → w.message ≡ channel_of a → v.message ≡ message_in T H S v
        said w a e x l c =
            ap (λ (y : Passage). y.message) e ∙ c
            ∙ sym (ap (λ (y : Passage). cond (listens (passage_arc T y)) (carried T (earliest (heard_by T H y) S none)) (channel_of (passage_arc T y))) e
            ∙ ap (λ (y : Arc). cond (listens y) (carried T (earliest (heard_by T H w) S none)) (channel_of y)) x
            ∙ ap (λ (t : Bool). cond t (carried T (earliest (heard_by T H w) S none)) (channel_of a)) l)

        go : Shape slots (from 0 (suc K)) v → v.message ≡ message_in T H S v
        go (sent q i l h e) = said (sends slots (q * slots.period) i) (send_arc slots i) e (send-arc slots f (q * slots.period) i h) refl refl
        go (rested q i l h e) = said (rests slots (q * slots.period) i) (rest_arc slots 1) e (rest-arc slots f (q * slots.period) i h) refl refl
        go (stayed q i l h e) =
            by_cases (ℕ_discrete i slots.probes)
            (λ x. said (hub_stays slots (q * slots.period) slots.probes) (rest_arc slots slots.probes) (e ∙ ap (hub_stays slots (q * slots.period)) x) (last_arc slots f (q * slots.period)) refl (message_rest slots f))
            (λ x. let u : i < slots.probes = omega arith in
            ap (λ (y : Passage). y.message) e ∙ message_is slots f i u
            ∙ sym (ap (λ (y : Passage). cond (listens (passage_arc T y)) (carried T (earliest (heard_by T H y) S none)) (channel_of (passage_arc T y))) e
            ∙ ap (λ (t : Bool). cond t (carried T (earliest (heard_by T H (hub_stays slots (q * slots.period) i)) S none)) (channel_of (passage_arc T (hub_stays slots (q * slots.period) i)))) (ap listens (slot_arc slots f (q * slots.period) i u))
            ∙ slot_message q i l u))

    present : (v : Passage) → v ∈ S → v.component < size T
    present v m = go (shape-of slots (from 0 (suc K)) m)
      where
        go : Shape slots (from 0 (suc K)) v → v.component < size T
        go (sent q i l h e) = let a = ap (λ (x : Passage). x.component) e in omega (arith, a, size_is)
        go (rested q i l h e) = let a = ap (λ (x : Passage). x.component) e in omega (arith, a, size_is)
        go (stayed q i l h e) = let a = ap (λ (x : Passage). x.component) e in omega (arith, a, size_is)

    chains : (c : ℕ) → c < size T → Chained H c (component_of T c) (own c S)
    chains c h = by_cases (ℕ_discrete c slots.probes)
        (λ e. subst (λ (i : ℕ). Chained H i (component_of T i) (own i S)) (sym e) (subst (λ (C : Component). Chained H slots.probes C (own slots.probes S)) (sym (hub_is slots f)) (hub_chain K)))
        (λ e. let u : c < slots.probes = omega (arith, size_is) in subst (λ (C : Component). Chained H c C (own c S)) (sym (probe_is slots f c u)) (probe_chain K c u))

    pub plan_schedule : (limit : ℕ) → length S ≤ limit → IsSchedule limit T H S
    plan_schedule limit few =
        record {
          few = few;
          present = in_all S present;
          chains = chains;
          messages = in_all S messages;
          order = plan_ordered slots f (suc K) 0;
        }

  pub windows : (qs : List ℕ) → Windows (periods slots qs)
  windows qs v m = go (shape-of slots qs m)
    where
      go : Shape slots qs v → v.ready ≤ v.end
      go (sent q i l h e) = let a = ap (λ (x : Passage). x.ready) e in let b = ap (λ (x : Passage). x.end) e in omega (arith, a, b)
      go (rested q i l h e) = let a = ap (λ (x : Passage). x.ready) e in let b = ap (λ (x : Passage). x.end) e in omega (arith, a, b)
      go (stayed q i l h e) =
          let a = ap (λ (x : Passage). x.ready) e in let b = ap (λ (x : Passage). x.end) e in
          omega (arith, a, b, by_part slots f (λ j. hub_low slots j ≤ hub_high slots j) (λ j u. omega (arith, low_is slots f j u, high_is slots f j u)) (omega (arith, low_rest slots f, high_rest slots f)) i h)

  -- ## The law

  slots_length : (b n a : ℕ) → length (slots_from slots b (from a n)) ≡ 2 * n
  unfolding slots_from
  slots_length b zero a = refl
  slots_length b (suc n) a = let z = slots_length b n (suc a) in omega (arith, z)

  period_length : (b : ℕ) → length (period_at slots b) ≡ 3 * slots.probes + 1
  unfolding period_at
  period_length b =
      let z = slots_length b slots.probes 0 in
      let y = length-map (below slots.probes) (sends slots b) ∙ length_from slots.probes 0 in
      length-append (map (sends slots b) (below slots.probes)) (hub_stays slots b 0 ∷ slots_from slots b (below slots.probes)) ∙ omega (arith, z, y)

  plan_length : (K q : ℕ) → length (periods slots (from q K)) ≡ K * (3 * slots.probes + 1)
  unfolding periods
  plan_length zero q = omega arith
  plan_length (suc K) q =
      let z = plan_length K (suc q) in let y = period_length (q * slots.period) in
      length-append (period_at slots (q * slots.period)) (periods slots (from (suc q) K)) ∙ omega (arith, z, y)

  -- checks 7 to 12 pass at every spread below the guard, and the schedule is the one in closed form
  pub plan_accepted_at : (G : ℕ) → G < slots.guard → accepted_schedule_at G (plan_table slots) ≡ accepted (plan_passages slots)
  unfolding accepted_schedule plan_passages
  plan_accepted_at G less =
      ap (λ x. x after λ S. checked G T (2 * slots.period) S) (is-accepted limit T (2 * slots.period) (periods slots (below 2)) (plan_schedule 1 limit (let z = plan_length 2 0 in omega (arith, z, f.most_probes))))
      ∙ (independent G T (2 * slots.period) (periods slots (below 2)) (windows (below 2))).1 (plan_independent slots f G less (below 2) (plan_ordered slots f 2 0) (2 * slots.period))

  pub plan_accepted : accepted_schedule_of (plan_table slots) ≡ accepted (plan_passages slots)
  plan_accepted = plan_accepted_at 0 f.least_guard
