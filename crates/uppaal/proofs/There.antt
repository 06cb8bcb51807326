-- Each step of the table's network that enters well is a step of the written network. Assumes nothing.
use mathlib.Core.Path.{◌≡◌, refl, sym, ap, subst, ◌∙◌}
use mathlib.Core.Logic.{◌↔◌}
use mathlib.Core.Bool.{Bool, true, false}
use mathlib.Core.List.{List, [], ◌∷◌, ◌++◌, map}
use mathlib.Core.Option.{Option, none, some}
use Prim.Native.Nat.{ℕ, suc, ◌+◌, ◌≤◌, ◌<◌}
use native.Mathlib.Omega.{arith}
use lib.ListN.{length, set, length-set}
use Rattle.model.specs.declared.Action.{Action}
use Rattle.model.specs.declared.Action.TheVariants.{Internal, Send, Receive}
use Rattle.model.specs.declared.TableHeader.{TableHeader}
use Rattle.model.specs.Lists.{all, ◌∈◌, here}
use Rattle.model.specs.Table.{Arc, Component, Table, size, component_of, arc_of}
use Rattle.model.specs.Limits.{ComponentIn}
use Rattle.model.specs.Window.{sends, receives, channel_of, listens, leaves}
use Rattle.model.specs.Network.{PathPassage, Taken, State, no_path_passage, passage_in, stayed, past_in, Label, tick, step_in, together, step_out, waits, with_passage, enters_at}
use Rattle.model.specs.NetworkRules.{StepsIn, ByItself, internally, times_out, Step, ticks, enters, joins, leaves_it}
use Rattle.model.proofs.Basics.Bools.{clash}
use Rattle.uppaal.specs.Xta.{Atom, at_most, Sync, Transition, Process, process_of}
use Rattle.uppaal.specs.XtaNetwork.{Stand, stand_of, atom_holds, keeps, all_stand, Fires, Move, delay, alone, joint, Moves, delays, goes, meet}
use Rattle.uppaal.specs.Xta.{sends as sends_on, receives as receives_on}
use Rattle.uppaal.specs.Export.{uppers, ends, entries, outcomes, sync_of, step_in_with, step_out_with, process_for, system_for}
use Rattle.uppaal.specs.SamePaths.{clocks_now, stand_for, view_of, reached, entry_for, goes_in, goes_out, move_of, enters_well}
use Rattle.uppaal.proofs.Ends.{AtEnd, member, kept, holds}
use Rattle.uppaal.proofs.Ranges.{set_else}
use Rattle.uppaal.proofs.Picks.{Picked, is_in, is_out, in_transitions}
use Rattle.uppaal.proofs.Guards.{Sized, keeps_in, end_in}
use Rattle.uppaal.proofs.One.{Waits, HeldAt, fires_in, fires_out}
use Rattle.uppaal.proofs.Held.{Limited, Held, component-in, held_kept, alone_outcome, send_outcome, hear_outcome, waits_at}
use Rattle.uppaal.proofs.Views.{process_count, process_at, view_at, view_set, view_tick, held_all}

-- ## The guard of a step in on the upper bounds

pub record Entry (C : Component) (now : ℕ) (p : PathPassage) (e : ℕ) (m : Option ℕ) (g : List Atom) : Type 0 where
  pub among : g ∈ entries (uppers C (arc_of C e)) (arc_of C e).edge.action m
  pub guard : all (atom_holds (clocks_now now p) p.entry.values) g ≡ true

module _ {header : TableHeader} {C : Component} (k : ComponentIn header C) {now : ℕ} {p : PathPassage} (z : Sized C now p) {e : ℕ} (s : StepsIn C now p e) where
  -- anywhere in the window
  window_holds : all (atom_holds (clocks_now now p) p.entry.values) (map at_most (uppers C (arc_of C e))) ≡ true
  window_holds = kept (uppers C (arc_of C e)) (clocks_now now p) p.entry.values ∙ (keeps_in k z e s.there s.source).1 s.end

  -- of one that goes by itself
  alone_entry : ByItself C now p e (arc_of C e).edge.action → Entry C now p e none (entry_for C (arc_of C e) (arc_of C e).edge.action none (clocks_now now p))
  alone_entry b = let r = go (arc_of C e).edge.action b in record { among = r.0; guard = r.1 }
    where
      go : (x : Action) → ByItself C now p e x
          → (entry_for C (arc_of C e) x none (clocks_now now p) ∈ entries (uppers C (arc_of C e)) x none)
          × (all (atom_holds (clocks_now now p) p.entry.values) (entry_for C (arc_of C e) x none (clocks_now now p)) ≡ true)
      go x internally = (here refl, window_holds)
      go x (times_out i) =
          let t = (end_in k z e s.there s.source).1 i in
          (member (uppers C (arc_of C e)) (clocks_now now p) t, holds (uppers C (arc_of C e)) (clocks_now now p) p.entry.values t)

  -- of one that has a message
  message_entry : (n : ℕ) → Entry C now p e (some n) (entry_for C (arc_of C e) (arc_of C e).edge.action (some n) (clocks_now now p))
  message_entry n = let r = go (arc_of C e).edge.action in record { among = r.0; guard = r.1 }
    where
      go : (x : Action) → (entry_for C (arc_of C e) x (some n) (clocks_now now p) ∈ entries (uppers C (arc_of C e)) x (some n))
          × (all (atom_holds (clocks_now now p) p.entry.values) (entry_for C (arc_of C e) x (some n) (clocks_now now p)) ≡ true)
      go Internal = (here refl, window_holds)
      go (Send j) = (here refl, window_holds)
      go Receive = (here refl, window_holds)

send_sync : (x : Action) (n : ℕ) → sends x ≡ some n → sync_of x (some n) ≡ some (sends_on n)
send_sync Internal n e = let z : ◌≡◌ {A = ℕ} 0 1 = cc in absurd (omega arith)
send_sync (Send j) n e = refl
send_sync Receive n e = let z : ◌≡◌ {A = ℕ} 0 1 = cc in absurd (omega arith)

hear_sync : (x : Action) (n : ℕ) → receives x ≡ true → sync_of x (some n) ≡ some (receives_on n)
hear_sync Internal n e = clash e
hear_sync (Send j) n e = clash e
hear_sync Receive n e = refl

-- ## The law

module _ (T : Table) (s : State) (L : Limited T) (h : Held T s) where
  -- component c steps in on edge e with outcome m
  in_fires : (c e : ℕ) (m : Option ℕ) → c < size T → StepsIn (component_of T c) s.tick (passage_in s c) e
      → m ∈ outcomes (arc_of (component_of T c) e) (arc_of (component_of T c) e).edge.action
      → Entry (component_of T c) s.tick (passage_in s c) e m (entry_for (component_of T c) (arc_of (component_of T c) e) (arc_of (component_of T c) e).edge.action m (clocks_now s.tick (passage_in s c)))
      → (goes_in T s c e m ∈ (process_of (system_for T) c).transitions) × Fires (stand_of (view_of s) c) (goes_in T s c e m) (stand_for s.tick (waits (passage_in s c) e m))
  in_fires c e m i k o g = (
    subst (λ (P : Process). goes_in T s c e m ∈ P.transitions) (sym (process_at T c i))
        (in_transitions (component_of T c) (goes_in T s c e m) e k.there o (is_in _ g.among refl)),
    subst (λ x. Fires x (goes_in T s c e m) (stand_for s.tick (waits (passage_in s c) e m))) (sym (view_at s c (omega (arith, i, h.count))))
        (fires_in (component-in T L c i) (h.each c i).sized e m _ k g.guard),
  )

  pub there : {l : Label} {t : State} → Step T s l t → enters_well T t l ≡ true → Moves (system_for T) (view_of s) (move_of T s l) (view_of t)
  unfolding step_in_with step_out_with
  there {t = t} (ticks f) e =
      let k = held_all T t L (held_kept L h (ticks f) e) in
      let q = view_tick T s h in
      subst (Moves (system_for T) (view_of s) delay) (sym q) (delays (subst (λ v. all_stand (system_for T).processes v ≡ true) q k))
  there {t = t} (enters {c = c} {e = e} i k x) g =
      let C = component_of T c in
      let w = held_all T t L (held_kept L h (enters i k x) g) in
      let r = in_fires c e none i k (alone_outcome (arc_of C e) x) (alone_entry (component-in T L c i) (h.each c i).sized k x) in
      let q = view_set s c (waits (passage_in s c) e none) in
      subst (Moves (system_for T) (view_of s) (alone c (goes_in T s c e none))) (sym q)
      (goes (omega (arith, i, process_count T)) r.0 refl r.1 (subst (λ v. all_stand (system_for T).processes v ≡ true) q w))
  there {t = t} (joins {a = a} {e = e} {b = b} {f = f} {k = n} i j d x y ch li na) g = go (channel_of (arc_of (component_of T a) e)) ch
    where
      A : Component
      A = component_of T a

      B : Component
      B = component_of T b

      q : view_of t ≡ set (set (view_of s) a (stand_for s.tick (waits (passage_in s a) e (some n)))) b (stand_for s.tick (waits (passage_in s b) f (some n)))
      q = view_set (with_passage s a (waits (passage_in s a) e (some n))) b (waits (passage_in s b) f (some n))
          ∙ ap (λ v. set v b (stand_for s.tick (waits (passage_in s b) f (some n)))) (view_set s a (waits (passage_in s a) e (some n)))

      r : (goes_in T s a e (some n) ∈ (process_of (system_for T) a).transitions) × Fires (stand_of (view_of s) a) (goes_in T s a e (some n)) (stand_for s.tick (waits (passage_in s a) e (some n)))
      r = in_fires a e (some n) i x (send_outcome (arc_of A e) (arc_of A e).edge.action n ch) (message_entry (component-in T L a i) (h.each a i).sized x n)

      u : (goes_in T s b f (some n) ∈ (process_of (system_for T) b).transitions) × Fires (stand_of (view_of s) b) (goes_in T s b f (some n)) (stand_for s.tick (waits (passage_in s b) f (some n)))
      u = in_fires b f (some n) j y (hear_outcome (arc_of B f) (arc_of B f).edge.action n li na) (message_entry (component-in T L b j) (h.each b j).sized y n)

      go : (o : Option ℕ) → o ≡ some n → Moves (system_for T) (view_of s) (joint a (goes_in T s a e o) b (goes_in T s b f o)) (view_of t)
      go o z =
          subst (λ (o' : Option ℕ). Moves (system_for T) (view_of s) (joint a (goes_in T s a e o') b (goes_in T s b f o')) (view_of t)) (sym z)
          (subst (Moves (system_for T) (view_of s) (joint a (goes_in T s a e (some n)) b (goes_in T s b f (some n)))) (sym q)
          (meet (omega (arith, i, process_count T)) (omega (arith, j, process_count T)) d r.0 u.0
          (send_sync (arc_of A e).edge.action n ch) (hear_sync (arc_of B f).edge.action n li) r.1 u.1
          (subst (λ v. all_stand (system_for T).processes v ≡ true) q (held_all T t L (held_kept L h (joins i j d x y ch li na) g)))))
  there {t = t} (leaves_it {c = c} {w = w} i x y) g =
      let C = component_of T c in
      let p = passage_in s c in
      let a = arc_of C w.edge in
      let k = waits_at (h.each c i) x in
      let new = enters_at (leaves a w.message s.tick p.entry) in
      let q = view_set s c new in
      let v = goes_out T s c (some w) in
      let m : v ∈ (process_of (system_for T) c).transitions = subst (λ (P : Process). v ∈ P.transitions) (sym (process_at T c i))
      (in_transitions C v w.edge k.there k.outcome (is_out _ (member (uppers C a) (clocks_now s.tick p) ((end_in (component-in T L c i) (h.each c i).sized w.edge k.there k.source).1 y)) refl)) in
      let f : Fires (stand_of (view_of s) c) v (stand_for s.tick new) = subst (λ z. Fires z v (stand_for s.tick new)) (sym (view_at s c (omega (arith, i, h.count))))
      (fires_out (component-in T L c i) (h.each c i).sized w x k y) in
      subst (λ (o : Option Taken). Moves (system_for T) (view_of s) (alone c (goes_out T s c o)) (view_of t)) (sym x)
      (subst (Moves (system_for T) (view_of s) (alone c v)) (sym q)
      (goes (omega (arith, i, process_count T)) m refl f (subst (λ u. all_stand (system_for T).processes u ≡ true) q (held_all T t L (held_kept L h (leaves_it i x y) g)))))
