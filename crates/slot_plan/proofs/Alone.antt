-- A plan's passages are independent of a global scheduler, whatever offsets below its guard the nodes have. Assumes nothing.
use mathlib.Core.Path.{◌≡◌, refl, sym, ap, ap₂, subst, subst₂, ◌∙◌}
use mathlib.Core.Logic.{◌⊎◌, inl, inr, by_cases}
use mathlib.Core.Bool.{Bool, true, false, cond}
use mathlib.Core.List.{List, [], ◌∷◌, ◌++◌, map}
use mathlib.Core.Option.{Option, none, some}
use Prim.Native.Nat.{ℕ, zero, suc, ◌+◌, ◌-◌, ◌*◌, ◌≤◌, ◌<◌}
use native.Mathlib.Omega.{arith}
use native.Mathlib.Decide.{ℕ_discrete}
use borrow.Author.Tests.{eq-eqb, lt-ltb, ltb-true, ltb-false}
use lib.Dec.{ltb}
use lib.ListN.{length, get_or}
use Rattle.model.specs.Lists.{from, below, ◌∈◌, accepted}
use Rattle.model.specs.Table.{Arc, Table}
use Rattle.model.specs.Window.{channel_of, listens}
use Rattle.model.specs.Schedule.{Passage, passage_arc, names, others, message_in, heard_by, earliest, carried}
use Rattle.model.specs.Checks.{is_send, is_receive, no_passage, passage_at, InShifted, Hears, Heard, SendsOn, Independent, IndependentWithin}
use Rattle.model.specs.Chains.{Before, Ordered}
use Rattle.model.proofs.Basics.Bools.{clash}
use Rattle.model.proofs.Basics.Members.{in_at, number-of, alone, earliest_some}
use Rattle.model.proofs.Schedule.Passages.{ordered_at}
use Rattle.model.proofs.Schedule.Soonest.{earliest_none}
use Rattle.model.proofs.Checks.Heard.{send_is, names_is, others_is, heard_is}
use Rattle.slot_plan.specs.declared.Slots.{Slots}
use Rattle.slot_plan.specs.Plan.{Fits, width, begins, send_from, send_to, hear_to, send_arc, hear_arc, plan_table}
use Rattle.slot_plan.specs.PlanSchedule.{sends, rests, hub_stays, hub_low, hub_high, hub_message, periods}
use Rattle.slot_plan.proofs.Apart.{steps, sends_apart, sends_apart_later, hears_later, hears_before}
use Rattle.slot_plan.proofs.Parts.{low_is, high_is, message_is}
use Rattle.slot_plan.proofs.Shapes.{Sent, Slot, sent_of, slot_of, send_in, hub_in, send-arc, slot_arc}

-- two numbers: one below, equal, above
trichotomy : (a b : ℕ) → (a < b) ⊎ ((a ≡ b) ⊎ (b < a))
trichotomy a b = by_cases (ℕ_discrete a b) (λ e. inr (inl e)) (λ e. go e (ltb a b) refl)
  where
    go : (a ≡ b → ⊥) → (t : Bool) → ltb a b ≡ t → (a < b) ⊎ ((a ≡ b) ⊎ (b < a))
    go n true e = inl (ltb-true a b e)
    go n false e = inr (inr (let h = ltb-false a b e in omega arith))

-- an ordered list has a passage once
pub once : {S : List Passage} → Ordered S → (i j : ℕ) → i < length S → j < length S → passage_at S i ≡ passage_at S j → i ≡ j
once {S} o i j a b e = go (trichotomy i j)
  where
    never : (v w : Passage) → v ≡ w → Before v w → ⊥
    never v w q (inl h) = let z = ap (λ (x : Passage). x.entry.tick) q in omega (arith, z)
    never v w q (inr h) = let z = ap (λ (x : Passage). x.component) q in omega (arith, z, h.1)

    go : (i < j) ⊎ ((i ≡ j) ⊎ (j < i)) → i ≡ j
    go (inl h) = absurd (never (passage_at S i) (passage_at S j) e (ordered_at o i j h b))
    go (inr (inl h)) = h
    go (inr (inr h)) = absurd (never (passage_at S j) (passage_at S i) (sym e) (ordered_at o j i h a))

module _ (slots : Slots) (f : Fits slots) where
  abbrev T : Table
  T = (plan_table slots).table

  abbrev base : ℕ → ℕ
  base q = q * slots.period

  -- the hub's slot names its own channel alone
  pub named : (b i : ℕ) → i < slots.probes → (x : ℕ) → names (passage_arc T (hub_stays slots b i)) (some x) ≡ true → x ≡ i
  named b i h x e =
      let q = (names_is (hear_arc slots i) x).0 (subst (λ (a : Arc). names a (some x) ≡ true) (slot_arc slots f b i h) e) in
      sym q.2 ∙ ap (λ (p : Rattle.model.specs.declared.Pair.Pair). p.channel) (alone q.1)

  -- component c's clock starts late c ticks after the common one, by less than the guard
  module _ (late : ℕ → ℕ) (less : (c : ℕ) → late c < slots.guard) where
    -- sends of two probes have no tick in common
    pub apart : (q r i j t : ℕ) → i < slots.probes → j < slots.probes → (i ≡ j → ⊥) → InShifted late t (sends slots (base q) i) → InShifted late t (sends slots (base r) j) → ⊥
    apart q r i j t a b n u v = go (trichotomy q r) (trichotomy i j)
      where
        go : (q < r) ⊎ ((q ≡ r) ⊎ (r < q)) → (i < j) ⊎ ((i ≡ j) ⊎ (j < i)) → ⊥
        go (inl h) x = omega (arith, sends_apart_later slots f q r i j h a b, u.to, v.from, less i, less j)
        go (inr (inr h)) x = omega (arith, sends_apart_later slots f r q j i h b a, u.from, v.to, less i, less j)
        go (inr (inl h)) (inl l) = let z = ap (λ (x : ℕ). x * slots.period) h in omega (arith, sends_apart slots f i j l, u.to, v.from, z, less i, less j)
        go (inr (inl h)) (inr (inl l)) = n l
        go (inr (inl h)) (inr (inr l)) = let z = ap (λ (x : ℕ). x * slots.period) h in omega (arith, sends_apart slots f j i l, u.from, v.to, z, less i, less j)

    -- a send and the hub's slot on its channel that have a tick in common are of one period
    pub same_period : (q r i t : ℕ) → i < slots.probes → InShifted late t (sends slots (base q) i) → InShifted late t (hub_stays slots (base r) i) → r ≡ q
    same_period q r i t a u v = go (trichotomy q r)
      where
        lows : hub_low slots i ≡ begins slots i
        lows = low_is slots f i a

        highs : hub_high slots i ≡ hear_to slots i
        highs = high_is slots f i a

        go : (q < r) ⊎ ((q ≡ r) ⊎ (r < q)) → r ≡ q
        go (inl h) = absurd (omega (arith, hears_later slots f q r i h a, u.to, v.from, lows, less i, less slots.probes))
        go (inr (inl h)) = sym h
        go (inr (inr h)) = absurd (omega (arith, hears_before slots f r q i h a, u.from, v.to, highs, less i, less slots.probes))

    module _ (qs : List ℕ) (o : Ordered (periods slots qs)) where
      abbrev S : List Passage
      S = periods slots qs

      -- what hears a send is the hub's slot of its period
      only_slot : (v : Passage) → v ∈ S → (q i : ℕ) → i < slots.probes → Hears late T v (sends slots (base q) i) → v ≡ hub_stays slots (base q) i
      only_slot v m q i h l =
          let s = slot_of slots f qs v m l.receive in
          let x : i ≡ s.slot = named (base s.period) s.slot s.there i (subst₂ (λ (w : Passage) c. names (passage_arc T w) c ≡ true) s.is (ap channel_of (send-arc slots f (base q) i h)) l.named) in
          let v' : v ≡ hub_stays slots (base s.period) i = s.is ∙ ap (hub_stays slots (base s.period)) (sym x) in
          let p : s.period ≡ q = same_period q s.period i l.tick h l.in_send (subst (λ w. InShifted late l.tick w) v' l.in_receive) in
          v' ∙ ap (λ y. hub_stays slots (base y) i) p

      -- and a slot hears no other send than that of its period
      only_send : (H : ℕ) (v : Passage) → v ∈ S → is_send T H v ≡ true → (q i : ℕ) → i < slots.probes → Hears late T (hub_stays slots (base q) i) v → v ≡ sends slots (base q) i
      only_send H v m e q i h l =
          let s = sent_of slots f qs H v m e in
          let x : s.probe ≡ i = named (base q) i h s.probe (subst (λ c. names (passage_arc T (hub_stays slots (base q) i)) c ≡ true) (ap (λ (w : Passage). channel_of (passage_arc T w)) s.is ∙ ap channel_of (send-arc slots f (base s.period) s.probe s.there)) l.named) in
          let v' : v ≡ sends slots (base s.period) i = s.is ∙ ap (sends slots (base s.period)) x in
          let p : q ≡ s.period = same_period s.period q i l.tick h (subst (λ w. InShifted late l.tick w) v' l.in_send) l.in_receive in
          v' ∙ ap (λ y. sends slots (base y) i) (sym p)

      slot_hears : (q i : ℕ) → i < slots.probes → Hears late T (hub_stays slots (base q) i) (sends slots (base q) i)
      slot_hears q i h =
          record {
            receive = ap listens (slot_arc slots f (base q) i h);
            other = (others_is (hub_stays slots (base q) i) (sends slots (base q) i)).1 (λ e. omega (arith, e));
            named = ap₂ names (slot_arc slots f (base q) i h) (ap channel_of (send-arc slots f (base q) i h)) ∙ rw (eq-eqb i i refl);
            tick = base q + send_from slots i + late i;
            in_receive = record { from = omega (arith, low_is slots f i h, less slots.probes); to = omega (arith, high_is slots f i h, less i) };
            in_send = record { from = omega arith; to = omega arith };
          }

      heard : (H : ℕ) (s : Passage) → s ∈ S → is_send T H s ≡ true → Heard late T S s
      heard H s m e =
          let w = sent_of slots f qs H s m e in
          let q = w.period in
          let i = w.probe in
          let n = number-of no_passage (hub_in slots {qs = qs} i w.listed (let h = w.there in omega arith)) in
          subst (Heard late T S) (sym w.is)
          (record {
            index = n.0;
            there = n.1;
            hears = subst (λ v. Hears late T v (sends slots (base q) i)) (sym n.2) (slot_hears q i w.there);
            earlier = subst (λ (v : Passage). v.ready + late v.component < (sends slots (base q) i).ready + late i) (sym n.2) (omega (arith, low_is slots f i w.there, less slots.probes));
            later = subst (λ (v : Passage). (sends slots (base q) i).end + late i < v.end + late v.component) (sym n.2) (omega (arith, high_is slots f i w.there, less i));
            alone = λ j u l. once o j n.0 u n.1 (only_slot (passage_at S j) (in_at no_passage S j u) q i w.there l ∙ sym n.2);
          })

      independent_late : (H : ℕ) → Independent late T H S
      independent_late H =
          record {
            apart = λ s v j l ms mv es ev d b t u x.
                let a = sent_of slots f qs H s ms ((send_is T H s).1 (j, es.channel, es.ready)) in
                let c = sent_of slots f qs H v mv ((send_is T H v).1 (l, ev.channel, ev.ready)) in
                apart a.period c.period a.probe c.probe t a.there c.there
                (λ y. (others_is v s).0 d (ap (λ (w : Passage). w.component) c.is ∙ sym y ∙ sym (ap (λ (w : Passage). w.component) a.is)))
                (subst (InShifted late t) a.is u)
                (subst (InShifted late t) c.is x);
            heard = heard H;
            single = λ r m e i j u v a b x y.
                let s = slot_of slots f qs r m e in
                let p = only_send H (passage_at S i) (in_at no_passage S i u) a s.period s.slot s.there (subst (λ w. Hears late T w (passage_at S i)) s.is x) in
                let z = only_send H (passage_at S j) (in_at no_passage S j v) b s.period s.slot s.there (subst (λ w. Hears late T w (passage_at S j)) s.is y) in
                once o i j u v (p ∙ sym z);
          }

  -- a plan is independent at every spread below its guard
  pub plan_independent : (G : ℕ) → G < slots.guard → (qs : List ℕ) → Ordered (periods slots qs) → (H : ℕ) → IndependentWithin G T H (periods slots qs)
  plan_independent G below qs o H late most = independent_late late (λ c. omega (arith, most c)) qs o H
