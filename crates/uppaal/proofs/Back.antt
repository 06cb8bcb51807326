-- Each step of the written network is a step of the table's network that enters well. Assumes nothing.
use mathlib.Core.Path.{◌≡◌, refl, sym, ap, subst, ◌∙◌}
use mathlib.Core.Logic.{◌↔◌, ◌⊎◌, inl, inr}
use mathlib.Core.Bool.{Bool, true, false}
use mathlib.Core.List.{List, [], ◌∷◌, ◌++◌, map}
use mathlib.Core.Option.{Option, none, some}
use Prim.Native.Nat.{ℕ, suc, ◌+◌, ◌-◌, ◌≤◌, ◌<◌}
use native.Mathlib.Omega.{arith}
use borrow.Author.Tests.{le-leb, eq-eqb}
use lib.Dec.{eqb}
use lib.IntN.{ℤ}
use lib.ListN.{length, set, length-set}
use Rattle.model.specs.declared.Action.{Action}
use Rattle.model.specs.declared.Action.TheVariants.{Internal, Send, Receive}
use Rattle.model.specs.declared.Pair.{Pair}
use Rattle.model.specs.declared.TableHeader.{TableHeader}
use Rattle.model.specs.Lists.{all, any, ◌∈◌, here, there}
use Rattle.model.specs.Table.{Arc, Component, Table, size, component_of, arc_of, location_of}
use Rattle.model.specs.Limits.{ComponentIn}
use Rattle.model.specs.Window.{clock_at, sends, receives, channel_of, listens, leads_to, leaves}
use Rattle.model.specs.Network.{PathPassage, Taken, State, no_path_passage, passage_in, stayed, past_in, Label, tick, step_in, together, step_out, waits, with_passage, enters_at}
use Rattle.model.specs.NetworkRules.{Passes, StepsIn, ByItself, internally, times_out, Step, ticks, enters, joins, leaves_it}
use Rattle.model.proofs.Basics.Bools.{clash}
use Rattle.model.proofs.Basics.Members.{in_append, any_is}
use Rattle.model.proofs.Basics.Members.{alone as only-member}
use Rattle.uppaal.specs.Xta.{Name, location, waiting, Atom, at_most, Sync, Transition, Process, process_of}
use Rattle.uppaal.specs.XtaNetwork.{Stand, stand_of, atom_holds, keeps, stands, all_stand, all_assigned, Fires, Move, delay, alone, joint, Moves, delays, goes, meet}
use Rattle.uppaal.specs.Xta.{sends as sends_on, receives as receives_on}
use Rattle.uppaal.specs.Export.{uppers, ends, entries, outcomes, sync_of, assignments_of, step_in_with, step_out_with, process_for, system_for}
use Rattle.uppaal.specs.SamePaths.{clocks_now, name_of, stand_for, view_of, reached, entry_for, goes_in, goes_out, move_of, invariant_kept, enters_well}
use Rattle.uppaal.proofs.Ends.{AtEnd, kept, only_one, from_map}
use Rattle.uppaal.proofs.Ranges.{set_here}
use Rattle.uppaal.proofs.Picks.{Picked, is_in, is_out, picked}
use Rattle.uppaal.proofs.Guards.{Sized, keeps_in, end_in}
use Rattle.uppaal.proofs.One.{Waits, Rests, HeldAt, free_stands, waiting_stands, In, tells_in, after_out, entered_sized}
use Rattle.uppaal.proofs.Held.{Limited, Held, component-in, waits_at}
use Rattle.uppaal.proofs.Views.{process_count, process_at, view_at, view_set, view_tick, all_one}

no_sync : {A : Type 0} {x : Sync} → some x ≡ none → A
no_sync e = let z : ◌≡◌ {A = ℕ} 0 1 = cc in absurd (omega arith)

-- ## A step in: what its synchronisation tells

module _ {header : TableHeader} {C : Component} (k : ComponentIn header C) {now : ℕ} {p : PathPassage} (z : Sized C now p) {e : ℕ} {m : Option ℕ} {g : List Atom} {y : Stand}
    (h : e < length C.arcs) (i : In C now p e m g y) where
  -- a guard on all upper bounds that holds: before the end has passed
  window-end : g ≡ map at_most (uppers C (arc_of C e)) → stayed now p < past_in C p e
  window-end q =
      (keeps_in k z e h i.source).0
      (sym (kept (uppers C (arc_of C e)) (clocks_now now p) p.entry.values) ∙ subst (λ x. all (atom_holds (clocks_now now p) p.entry.values) x ≡ true) q i.guard)

  -- the step in, before the end has passed
  steps_in : stayed now p < past_in C p e → StepsIn C now p e
  steps_in l = record { free = i.free; there = h; source = i.source; bounds = i.bounds; ranged = i.ranged; ready = i.ready; end = l }

  -- without one: by itself
  alone_pick : (x : Action) → m ∈ outcomes (arc_of C e) x → g ∈ entries (uppers C (arc_of C e)) x m → sync_of x m ≡ none
      → (none ≡ m) × (entry_for C (arc_of C e) x none (clocks_now now p) ≡ g) × ByItself C now p e x × (stayed now p < past_in C p e)
  alone_pick Internal o f q =
      let a = only-member o in
      let b : g ≡ map at_most (uppers C (arc_of C e)) = only-member f in
      (sym a, sym b, internally, window-end b)
  alone_pick (Send j) o f q = no_sync (subst (λ (n : Option ℕ). sync_of (Send j) n ≡ none) (only-member o) q)
  alone_pick Receive o f q = go m refl f q
    where
      go : (n : Option ℕ) → m ≡ n → g ∈ entries (uppers C (arc_of C e)) Receive n → sync_of Receive n ≡ none
          → (none ≡ m) × (reached (uppers C (arc_of C e)) (clocks_now now p) ≡ g) × ByItself C now p e Receive × (stayed now p < past_in C p e)
      go none u v w =
          let r = only_one (uppers C (arc_of C e)) (clocks_now now p) p.entry.values g v i.guard in
          let t = (end_in k z e h i.source).0 r.0 in
          (sym u, sym r.1, times_out t, omega (arith, t))
      go (some j) u v w = no_sync w

  -- of a sender
  send_pick : (n : ℕ) (x : Action) → m ∈ outcomes (arc_of C e) x → g ∈ entries (uppers C (arc_of C e)) x m → sync_of x m ≡ some (sends_on n)
      → (some n ≡ m) × (entry_for C (arc_of C e) x (some n) (clocks_now now p) ≡ g) × (sends x ≡ some n) × (stayed now p < past_in C p e)
  send_pick n Internal o f q = no_sync (sym (subst (λ (m' : Option ℕ). sync_of Internal m' ≡ some (sends_on n)) (only-member o) q))
  send_pick n (Send j) o f q =
      let a : m ≡ some j = only-member o in
      let b : g ≡ map at_most (uppers C (arc_of C e)) = only-member f in
      let c : some (sends_on j) ≡ some (sends_on n) = subst (λ (m' : Option ℕ). sync_of (Send j) m' ≡ some (sends_on n)) a q in
      let d : j ≡ n = cc in
      (ap some (sym d) ∙ sym a, sym b, ap some d, window-end b)
  send_pick n Receive o f q = go m refl q
    where
      go : (m' : Option ℕ) → m ≡ m' → sync_of Receive m' ≡ some (sends_on n)
          → (some n ≡ m) × (entry_for C (arc_of C e) Receive (some n) (clocks_now now p) ≡ g) × (sends Receive ≡ some n) × (stayed now p < past_in C p e)
      go none u w = no_sync (sym w)
      go (some j) u w = let z : ◌≡◌ {A = ℕ} 0 1 = cc in absurd (omega arith)

  -- of a receiver
  hear_pick : (n : ℕ) (x : Action) → m ∈ outcomes (arc_of C e) x → g ∈ entries (uppers C (arc_of C e)) x m → sync_of x m ≡ some (receives_on n)
      → (some n ≡ m) × (entry_for C (arc_of C e) x (some n) (clocks_now now p) ≡ g) × (receives x ≡ true) × (any (λ q. eqb q.channel n) (arc_of C e).pairs ≡ true) × (stayed now p < past_in C p e)
  hear_pick n Internal o f q = no_sync (sym (subst (λ (m' : Option ℕ). sync_of Internal m' ≡ some (receives_on n)) (only-member o) q))
  hear_pick n (Send j) o f q =
      let c : some (sends_on j) ≡ some (receives_on n) = subst (λ (m' : Option ℕ). sync_of (Send j) m' ≡ some (receives_on n)) (only-member o) q in
      let z : ◌≡◌ {A = ℕ} 0 1 = cc in
      absurd (omega arith)
  hear_pick n Receive o f q = go m refl o f q
    where
      qs : List (Option ℕ)
      qs = map (λ (r : Pair). some r.channel) (arc_of C e).pairs

      go : (m' : Option ℕ) → m ≡ m' → m' ∈ (qs ++ (none ∷ [])) → g ∈ entries (uppers C (arc_of C e)) Receive m' → sync_of Receive m' ≡ some (receives_on n)
          → (some n ≡ m) × (entry_for C (arc_of C e) Receive (some n) (clocks_now now p) ≡ g) × (true ≡ true) × (any (λ r. eqb r.channel n) (arc_of C e).pairs ≡ true) × (stayed now p < past_in C p e)
      go none u o' f' w = no_sync (sym w)
      go (some j) u o' f' w =
          let d : j ≡ n = cc in
          let b : g ≡ map at_most (uppers C (arc_of C e)) = only-member f' in
          (ap some (sym d) ∙ sym u, sym b, refl, named ((in_append qs (none ∷ [])).0 o') d, window-end b)
        where
          named : (some j ∈ qs) ⊎ (some j ∈ (none ∷ [])) → j ≡ n → any (λ r. eqb r.channel n) (arc_of C e).pairs ≡ true
          named (inl v) d =
              let r = from_map (λ (r : Pair). some r.channel) (arc_of C e).pairs v in
              let s : j ≡ r.0.channel = cc r.2 in
              (any_is (λ (r' : Pair). eqb r'.channel n) (arc_of C e).pairs).1 (r.0, r.1, eq-eqb r.0.channel n (sym s ∙ d))
          named (inr v) d = let c = only-member v in let z : ◌≡◌ {A = ℕ} 0 1 = cc in absurd (omega arith)

-- where a process waits that leaves a waiting location
pub waits_on : (p : PathPassage) (e : ℕ) (m : Option ℕ) (o : Option Taken) → name_of p o ≡ waiting e m → o ≡ some (record { edge = e; message = m })
waits_on p e m none q = let z : ◌≡◌ {A = ℕ} 0 1 = cc in absurd (omega arith)
waits_on p e m (some w) q =
    let a : w.edge ≡ e = cc in
    let b : w.message ≡ m = cc in
    rw (← a, ← b) refl

-- ## The law

-- a step of the table's network for that step of the written one
pub record Answers (T : Table) (s : State) (m : Move) (y : List Stand) : Type 0 where
  pub label : Label
  pub next : State
  pub step : Step T s label next
  pub enters : enters_well T next label ≡ true
  pub move : move_of T s label ≡ m
  pub view : view_of next ≡ y

module _ (T : Table) (s : State) (L : Limited T) (h : Held T s) where
  -- one process's transitions and firings, as its component's
  mine : {c : ℕ} {t : Transition} → c < size T → t ∈ (process_of (system_for T) c).transitions → t ∈ (process_for (component_of T c)).transitions
  mine {c} {t} i k = subst (λ (P : Process). t ∈ P.transitions) (process_at T c i) k

  ours : {c : ℕ} {t : Transition} {y : Stand} → c < size T → Fires (stand_of (view_of s) c) t y → Fires (stand_for s.tick (passage_in s c)) t y
  ours {c} {t} {y} i f = subst (λ x. Fires x t y) (view_at s c (omega (arith, i, h.count))) f

  -- a delay
  back_delay : all_stand (system_for T).processes (map (Rattle.uppaal.specs.XtaNetwork.grown) (view_of s)) ≡ true → Answers T s delay (map Rattle.uppaal.specs.XtaNetwork.grown (view_of s))
  back_delay e = record { label = tick; next = after; step = ticks each; enters = refl; move = refl; view = view_tick T s h }
    where
      after : State
      after = record { tick = suc s.tick; present = s.present }

      each : (c : ℕ) → c < size T → (c < length s.present) × Passes (component_of T c) s.tick (passage_in s c) (passage_in s c).waiting
      each c i = (omega (arith, i, h.count), go p.waiting (h.each c i).rests (all_one T after h.count (sym' e) c i))
        where
          p : PathPassage
          p = passage_in s c

          C : Component
          C = component_of T c

          sym' : all_stand (system_for T).processes (map Rattle.uppaal.specs.XtaNetwork.grown (view_of s)) ≡ true → all_stand (system_for T).processes (view_of after) ≡ true
          sym' f = subst (λ v. all_stand (system_for T).processes v ≡ true) (sym (view_tick T s h)) f

          z : Sized C (suc s.tick) p
          z = let o = (h.each c i).sized in record { clocks = o.clocks; values = o.values; place = o.place; since = omega (arith, o.since) }

          grows : stayed (suc s.tick) p ≡ suc (stayed s.tick p)
          grows = omega (arith, (h.each c i).sized.since)

          go : (o : Option Taken) → Rests C s.tick p o → stands (process_for C) (record { at = name_of p o; clocks = clocks_now (suc s.tick) p; values = p.entry.values }) ≡ true → Passes C s.tick p o
          go none r f = omega (arith, grows, (free_stands (component-in T L c i) z).0 f)
          go (some w) r f = omega (arith, grows, (waiting_stands (component-in T L c i) z w.edge w.message r.there r.source r.outcome).0 f)

  -- a step in by itself
  back_alone : {c : ℕ} {t : Transition} {y : Stand} → c < size T → (e : ℕ) → e < length (component_of T c).arcs → (m : Option ℕ)
      → m ∈ outcomes (arc_of (component_of T c) e) (arc_of (component_of T c) e).edge.action → (g : List Atom)
      → g ∈ entries (uppers (component_of T c) (arc_of (component_of T c) e)) (arc_of (component_of T c) e).edge.action m → t ≡ step_in_with e (arc_of (component_of T c) e) m g
      → t.sync ≡ none → Fires (stand_for s.tick (passage_in s c)) t y → Answers T s (alone c t) (set (view_of s) c y)
  unfolding step_in_with
  back_alone {c} {t} {y} i e n m o g v q u f =
      let C = component_of T c in
      let a = arc_of C e in
      let p = passage_in s c in
      let k = component-in T L c i in
      let z = (h.each c i).sized in
      let r = tells_in k z e m g y n (subst (λ x. Fires (stand_for s.tick p) x y) q f) in
      let w = alone_pick k z n r a.edge.action o v (ap (λ (x : Transition). x.sync) (sym q) ∙ u) in
      record {
        label = step_in c e;
        next = with_passage s c (waits p e none);
        step = enters i (steps_in k z n r w.3) w.2;
        enters = refl;
        move = ap (alone c) (ap (step_in_with e a none) w.1 ∙ ap (λ (x : Option ℕ). step_in_with e a x g) w.0 ∙ sym q);
        view = view_set s c (waits p e none) ∙ ap (λ (x : Option ℕ). set (view_of s) c (stand_for s.tick (waits p e x))) w.0 ∙ ap (set (view_of s) c) r.after;
      }

  -- a step out
  back_out : {c : ℕ} {t : Transition} {y : Stand} → c < size T → (e : ℕ) → e < length (component_of T c).arcs → (m : Option ℕ) → (g : List Atom)
      → g ∈ ends (uppers (component_of T c) (arc_of (component_of T c) e)) → t ≡ step_out_with (component_of T c).clocks e (arc_of (component_of T c) e) m g
      → Fires (stand_for s.tick (passage_in s c)) t y → all_stand (system_for T).processes (set (view_of s) c y) ≡ true → Answers T s (alone c t) (set (view_of s) c y)
  unfolding step_out_with
  back_out {c} {t} {y} i e n m g v q f w =
      record {
        label = step_out c;
        next = after;
        step = leaves_it i free end;
        enters = well;
        move = ap (λ (o : Option Taken). alone c (goes_out T s c o)) free ∙ ap (alone c) (ap (step_out_with C.clocks e a m) (sym r.1) ∙ sym q);
        view = seen;
      }
    where
      C : Component
      C = component_of T c

      a : Arc
      a = arc_of C e

      p : PathPassage
      p = passage_in s c

      k : ComponentIn (record { channels = T.channels; budgets = L.budgets }) C
      k = component-in T L c i

      z : Sized C s.tick p
      z = (h.each c i).sized

      f' : Fires (stand_for s.tick p) (step_out_with C.clocks e a m g) y
      f' = subst (λ x. Fires (stand_for s.tick p) x y) q f

      on : Taken
      on = record { edge = e; message = m }

      free : p.waiting ≡ some on
      free = waits_on p e m p.waiting f'.source

      held : Waits C s.tick p on
      held = waits_at (h.each c i) free

      r : (AtEnd (clocks_now s.tick p) (uppers C a) ≡ true) × (g ≡ reached (uppers C a) (clocks_now s.tick p))
      r = only_one (uppers C a) (clocks_now s.tick p) p.entry.values g v f'.guard

      end : suc (stayed s.tick p) ≡ past_in C p e
      end = (end_in k z e n held.source).0 r.0

      new : PathPassage
      new = enters_at (leaves a m s.tick p.entry)

      after : State
      after = with_passage s c new

      same : stand_for s.tick new ≡ y
      same = let o = sym (after_out k z e m held.ranged.0 held.ranged.1) ∙ f'.after in cc

      seen : view_of after ≡ set (view_of s) c y
      seen = view_set s c new ∙ ap (set (view_of s) c) same

      there' : passage_in after c ≡ new
      there' = set_here no_path_passage s.present c new (omega (arith, i, h.count))

      kept' : stands (process_for C) (stand_for s.tick new) ≡ true
      kept' = subst (λ x. stands (process_for C) (stand_for s.tick x) ≡ true) there'
          (all_one T after (length-set s.present c new ∙ h.count) (subst (λ x. all_stand (system_for T).processes x ≡ true) (sym seen) w) c i)

      bound : clock_at new.entry.clocks (location_of C new.entry.location).clock ≤ (location_of C new.entry.location).bound
      bound = omega (arith, (free_stands k (entered_sized k z on held)).0 kept')

      well : invariant_kept C (passage_in after c) ≡ true
      well = subst (λ x. invariant_kept C x ≡ true) (sym there') (le-leb (clock_at new.entry.clocks (location_of C new.entry.location).clock) (location_of C new.entry.location).bound bound)

  -- what a transition with a message tells of its component
  record Told (c : ℕ) (t : Transition) (y : Stand) (n : ℕ) : Type 0 where
    edge : ℕ
    steps : StepsIn (component_of T c) s.tick (passage_in s c) edge
    move : goes_in T s c edge (some n) ≡ t
    view : stand_for s.tick (waits (passage_in s c) edge (some n)) ≡ y

  told_send : {c n : ℕ} {t : Transition} {y : Stand} → c < size T → t ∈ (process_of (system_for T) c).transitions → t.sync ≡ some (sends_on n) → Fires (stand_of (view_of s) c) t y
      → (r : Told c t y n) × (channel_of (arc_of (component_of T c) r.edge) ≡ some n)
  unfolding step_in_with step_out_with
  told_send {c} {n} {t} {y} i k u f = let r = picked (component_of T c) t (mine i k) in go r.0 r.1 r.2.0 r.2.1 r.2.2
    where
      C : Component
      C = component_of T c

      go : (e : ℕ) → e < length C.arcs → (m : Option ℕ) → m ∈ outcomes (arc_of C e) (arc_of C e).edge.action → Picked C t e (arc_of C e) m
          → (r : Told c t y n) × (channel_of (arc_of C r.edge) ≡ some n)
      go e l m o (is_in g v q) =
          let r = tells_in (component-in T L c i) (h.each c i).sized e m g y l (subst (λ x. Fires (stand_for s.tick (passage_in s c)) x y) q (ours i f)) in
          let w = send_pick (component-in T L c i) (h.each c i).sized l r n (arc_of C e).edge.action o v (ap (λ (x : Transition). x.sync) (sym q) ∙ u) in (
            record {
              edge = e;
              steps = steps_in (component-in T L c i) (h.each c i).sized l r w.3;
              move = ap (step_in_with e (arc_of C e) (some n)) w.1 ∙ ap (λ (x : Option ℕ). step_in_with e (arc_of C e) x g) w.0 ∙ sym q;
              view = ap (λ (x : Option ℕ). stand_for s.tick (waits (passage_in s c) e x)) w.0 ∙ r.after;
            },
            w.2,
          )
      go e l m o (is_out g v q) = no_sync (sym u ∙ ap (λ (x : Transition). x.sync) q)

  told_hear : {c n : ℕ} {t : Transition} {y : Stand} → c < size T → t ∈ (process_of (system_for T) c).transitions → t.sync ≡ some (receives_on n) → Fires (stand_of (view_of s) c) t y
      → (r : Told c t y n) × (listens (arc_of (component_of T c) r.edge) ≡ true) × (any (λ q. eqb q.channel n) (arc_of (component_of T c) r.edge).pairs ≡ true)
  unfolding step_in_with step_out_with
  told_hear {c} {n} {t} {y} i k u f = let r = picked (component_of T c) t (mine i k) in go r.0 r.1 r.2.0 r.2.1 r.2.2
    where
      C : Component
      C = component_of T c

      go : (e : ℕ) → e < length C.arcs → (m : Option ℕ) → m ∈ outcomes (arc_of C e) (arc_of C e).edge.action → Picked C t e (arc_of C e) m
          → (r : Told c t y n) × (listens (arc_of C r.edge) ≡ true) × (any (λ q. eqb q.channel n) (arc_of C r.edge).pairs ≡ true)
      go e l m o (is_in g v q) =
          let r = tells_in (component-in T L c i) (h.each c i).sized e m g y l (subst (λ x. Fires (stand_for s.tick (passage_in s c)) x y) q (ours i f)) in
          let w = hear_pick (component-in T L c i) (h.each c i).sized l r n (arc_of C e).edge.action o v (ap (λ (x : Transition). x.sync) (sym q) ∙ u) in (
            record {
              edge = e;
              steps = steps_in (component-in T L c i) (h.each c i).sized l r w.4;
              move = ap (step_in_with e (arc_of C e) (some n)) w.1 ∙ ap (λ (x : Option ℕ). step_in_with e (arc_of C e) x g) w.0 ∙ sym q;
              view = ap (λ (x : Option ℕ). stand_for s.tick (waits (passage_in s c) e x)) w.0 ∙ r.after;
            },
            w.2,
            w.3,
          )
      go e l m o (is_out g v q) = no_sync (sym u ∙ ap (λ (x : Transition). x.sync) q)

  -- each step of the written network
  pub back : {m : Move} {y : List Stand} → Moves (system_for T) (view_of s) m y → Answers T s m y
  back (delays e) = back_delay e
  back (goes {p = c} {t = t} {y = y} i k u f w) =
      let j : c < size T = omega (arith, i, process_count T) in
      let r = picked (component_of T c) t (mine j k) in
      go j r.0 r.1 r.2.0 r.2.1 r.2.2
    where
      go : c < size T → (e : ℕ) → e < length (component_of T c).arcs → (m : Option ℕ) → m ∈ outcomes (arc_of (component_of T c) e) (arc_of (component_of T c) e).edge.action
          → Picked (component_of T c) t e (arc_of (component_of T c) e) m → Answers T s (alone c t) (set (view_of s) c y)
      go j e l m o (is_in g v q) = back_alone j e l m o g v q u (ours j f)
      go j e l m o (is_out g v q) = back_out j e l m g v q (ours j f) w
  back (meet {p = a} {q = b} {k = n} {t = t} {u = u} {y = y} {z = z} i j d ta ub st su fa fb w) =
      let ia : a < size T = omega (arith, i, process_count T) in
      let jb : b < size T = omega (arith, j, process_count T) in
      let x = told_send ia ta st fa in
      let v = told_hear jb ub su fb in
      let e = x.0.edge in
      let f = v.0.edge in
      record {
        label = together a e b f;
        next = with_passage (with_passage s a (waits (passage_in s a) e (some n))) b (waits (passage_in s b) f (some n));
        step = joins ia jb d x.0.steps v.0.steps x.1 v.1 v.2;
        enters = refl;
        move = ap (λ (o : Option ℕ). joint a (goes_in T s a e o) b (goes_in T s b f o)) x.1
            ∙ ap (λ (t' : Transition). joint a t' b (goes_in T s b f (some n))) x.0.move
            ∙ ap (λ (u' : Transition). joint a t b u') v.0.move;
        view = view_set (with_passage s a (waits (passage_in s a) e (some n))) b (waits (passage_in s b) f (some n))
            ∙ ap (λ x'. set x' b (stand_for s.tick (waits (passage_in s b) f (some n)))) (view_set s a (waits (passage_in s a) e (some n)))
            ∙ ap (λ (y' : Stand). set (set (view_of s) a y') b (stand_for s.tick (waits (passage_in s b) f (some n)))) x.0.view
            ∙ ap (λ (z' : Stand). set (set (view_of s) a y) b z') v.0.view;
      }
