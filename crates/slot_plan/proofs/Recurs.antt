-- A plan's state at tick 0 comes again at tick p, and none comes again sooner. Assumes nothing.
use mathlib.Core.Path.{◌≡◌, refl, sym, ap, subst, ◌∙◌}
use mathlib.Core.Logic.{by_cases}
use mathlib.Core.List.{List, [], ◌∷◌}
use Prim.Native.Nat.{ℕ, zero, suc, ◌+◌, ◌-◌, ◌*◌, ◌≤◌, ◌<◌}
use native.Mathlib.Omega.{arith}
use native.Mathlib.Decide.{ℕ_discrete}
use borrow.Author.Tests.{eq-eqb, ltb-true, ltb-false}
use lib.Dec.{ltb, eqb}
use mathlib.Core.Bool.{Bool, true, false}
use Rattle.model.specs.declared.Verdict.TheVariants.{Accepted}
use Rattle.model.specs.Lists.{below, ◌∈◌, here, there, Answer}
use Rattle.model.specs.Bytes.{table_bytes}
use Rattle.model.specs.Checks.{limit}
use Rattle.model.specs.Calls.{verdict_of}
use Rattle.model.specs.Table.{Table, size}
use Rattle.model.specs.Window.{Entry}
use Rattle.model.specs.Schedule.{Passage, own}
use Rattle.recurrence.specs.Recurrence.{timeless, EntersAt, Recurs, FirstRecurs, recurrence_found, recurrence_of, recurrence_read, recurrence_call}
use Rattle.model.proofs.Basics.Members.{only_is}
use Rattle.model.proofs.Schedule.Own.{own_in}
use Rattle.model.proofs.Reader.RoundTrip.{read_written}
use Rattle.model.proofs.Run.Tied.{schedule_at}
use Rattle.recurrence.proofs.Found.{recurs_found}
use Rattle.slot_plan.specs.declared.Slots.{Slots}
use Rattle.slot_plan.specs.Plan.{Fits, begins, plan_table}
use Rattle.slot_plan.specs.PlanSchedule.{sends, rests, hub_stays, periods, plan_passages}
use Rattle.slot_plan.proofs.Apart.{steps}
use Rattle.slot_plan.proofs.Shapes.{Shape, sent, rested, stayed, shape-of, send_in, hub_in}
use Rattle.slot_plan.proofs.Accepted.{size_is, plan_accepted}
use Rattle.slot_plan.proofs.Within.{plan_in}

module _ (slots : Slots) (f : Fits slots) where
  abbrev T : Table
  T = (plan_table slots).table

  abbrev p : ℕ
  p = slots.period

  -- what a component shows at the start of a period: location 0, its clock 0
  abbrev anew : Entry
  anew = record { location = 0; tick = 0; clocks = 0 ∷ []; values = [] }

  -- every component enters at the start of each of the two periods
  starts : (q c : ℕ) → q ∈ below 2 → c < size T → EntersAt (plan_passages slots) c (q * p) anew
  unfolding plan_passages
  starts q c m h = by_cases (ℕ_discrete c slots.probes)
      (λ e. record {
        passage = hub_stays slots (q * p) 0;
        listed = (only_is (λ (v : Passage). eqb v.component c) (periods slots (below 2))).1 (hub_in slots {qs = below 2} 0 m (omega arith), eq-eqb slots.probes c (sym e));
        tick = omega arith;
        state = ap (λ (n : ℕ). record { location = 0; tick = 0; clocks = n ∷ []; values = [] }) (let z : begins slots 0 ≡ 0 = omega arith in z);
      })
      (λ e. record {
        passage = sends slots (q * p) c;
        listed = (only_is (λ (v : Passage). eqb v.component c) (periods slots (below 2))).1 (send_in slots {qs = below 2} c m (omega (arith, size_is slots f)), eq-eqb c c refl);
        tick = omega arith;
        state = refl;
      })

  -- before p no clock was reset: it shows the tick
  clock_is : (v : Passage) → v ∈ plan_passages slots → v.entry.tick < p → v.entry.clocks ≡ v.entry.tick ∷ []
  unfolding plan_passages
  clock_is v m l = go (shape-of slots (below 2) m)
    where
      -- a passage of the first period
      stay : (q k : ℕ) → q * p + k < p → v.entry.tick ≡ q * p + k → v.entry.clocks ≡ k ∷ [] → v.entry.clocks ≡ v.entry.tick ∷ []
      stay zero k h e c = c ∙ ap (λ (n : ℕ). n ∷ []) (let z : k ≡ v.entry.tick = omega (arith, e) in z)
      stay (suc q) k h e c = absurd (omega (arith, steps p 0 (suc q) (omega arith)))

      go : Shape slots (below 2) v → v.entry.clocks ≡ v.entry.tick ∷ []
      go (sent q i n h e) = stay q 0 (omega (arith, ap (λ (x : Passage). x.entry.tick) e)) (ap (λ (x : Passage). x.entry.tick) e) (ap (λ (x : Passage). x.entry.clocks) e)
      go (rested q i n h e) = stay q _ (omega (arith, ap (λ (x : Passage). x.entry.tick) e)) (ap (λ (x : Passage). x.entry.tick) e) (ap (λ (x : Passage). x.entry.clocks) e)
      go (stayed q i n h e) = stay q _ (omega (arith, ap (λ (x : Passage). x.entry.tick) e)) (ap (λ (x : Passage). x.entry.tick) e) (ap (λ (x : Passage). x.entry.clocks) e)

  -- "Every plan of Wish 4 has such a pair, 0 and p"
  pub plan_recurs : FirstRecurs T (2 * p) (plan_passages slots) 0 p
  plan_recurs =
      record {
        recurs = record {
          before = omega (arith, f.room);
          below = omega (arith, f.room);
          enters = λ c h. (anew, at 0 0 c (here refl) h (omega arith), at 1 p c (there (here refl)) h (omega arith));
        };
        first_b = λ x y r. sooner x y r (ltb y p) refl;
        first_a = λ x r. omega arith;
      }
    where
      at : (q x c : ℕ) → q ∈ below 2 → c < size T → q * p ≡ x → EntersAt (plan_passages slots) c x anew
      at q x c m h e = subst (λ (n : ℕ). EntersAt (plan_passages slots) c n anew) e (starts q c m h)

      first_of : {m n : ℕ} → m ∷ [] ≡ n ∷ [] → m ≡ n
      first_of e = cc

      sooner : (x y : ℕ) → Recurs T (2 * p) (plan_passages slots) x y → (t : Bool) → ltb y p ≡ t → p ≤ y
      sooner x y r false e = ltb-false y p e
      sooner x y r true e =
          let k = r.enters 0 (omega (arith, size_is slots f)) in
          let u = k.1 in
          let w = k.2 in
          let b = r.before in
          let l = ltb-true y p e in
          let cu = clock_is u.passage (own_in 0 (plan_passages slots) u.listed).0 (omega (arith, u.tick)) in
          let cw = clock_is w.passage (own_in 0 (plan_passages slots) w.listed).0 (omega (arith, w.tick)) in
          let same : u.passage.entry.clocks ≡ w.passage.entry.clocks = ap (λ (n : Entry). n.clocks) (u.state ∙ sym w.state) in
          absurd (omega (arith, u.tick, w.tick, first_of (sym cu ∙ same ∙ cw)))

  -- the call says so of the bytes written
  pub plan_pair : recurrence_call (table_bytes (plan_table slots)) ≡ record { verdict = Accepted; found = true; from = 0; to = slots.period }
  unfolding recurrence_call
  plan_pair =
      let e = plan_accepted slots f in
      let s = (schedule_at 0 T (2 * p) limit (plan_passages slots) e).0 in
      ap recurrence_read (read_written (plan_table slots) (plan_in slots f))
      ∙ ap (λ (a : Answer (List Passage)). recurrence_found (verdict_of a) (recurrence_of (plan_table slots) a)) e
      ∙ ap (recurrence_found Accepted) (recurs_found limit T (2 * p) (plan_passages slots) s 0 p plan_recurs)
