-- What holds of every state on a path of the table's network that enters no location with its invariant broken. Assumes nothing.
use mathlib.Core.Path.{◌≡◌, refl, sym, ap, subst, ◌∙◌}
use mathlib.Core.Logic.{◌↔◌, ◌⊎◌, inl, inr}
use mathlib.Core.Bool.{Bool, true, false, cond, ◌&&◌}
use mathlib.Core.List.{List, [], ◌∷◌, ◌++◌, map}
use mathlib.Core.Option.{Option, none, some}
use Prim.Native.Nat.{ℕ, zero, suc, ◌+◌, ◌-◌, ◌≤◌, ◌<◌}
use native.Mathlib.Omega.{arith}
use borrow.Author.Tests.{leb-true, eqb-true, eqb-false}
use lib.Dec.{leb, eqb}
use lib.IntN.{ℤ, pos}
use lib.ListN.{length, get_or, set, replicate, length-set, length-map, length-replicate, get_or-replicate}
use Rattle.model.specs.declared.Action.{Action}
use Rattle.model.specs.declared.Action.TheVariants.{Internal, Send, Receive}
use Rattle.model.specs.declared.Pair.{Pair}
use Rattle.model.specs.declared.TableHeader.{TableHeader}
use Rattle.model.specs.Lists.{any, All, ◌∈◌, here, there}
use Rattle.model.specs.Table.{Arc, Component, Table, no_component, no_location, size, component_of, arc_of, location_of}
use Rattle.model.specs.Limits.{ComponentIn}
use Rattle.model.specs.Window.{clock_at, sends, receives, channel_of, listens, leaves}
use Rattle.model.specs.Network.{PathPassage, Taken, State, no_path_passage, passage_in, start_passage, start, stayed, past_in, Label, tick, step_in, together, step_out, waits, with_passage, enters_at}
use Rattle.model.specs.NetworkRules.{Passes, StepsIn, ByItself, internally, times_out, Step, ticks, enters, joins, leaves_it}
use Rattle.model.proofs.Basics.Bools.{clash}
use Rattle.model.proofs.Basics.Members.{in_append, any_is}
use Rattle.model.proofs.Basics.Walk.{all_at}
use Rattle.model.proofs.Schedule.Retrace.{at_map}
use Rattle.uppaal.specs.Export.{outcomes}
use Rattle.uppaal.specs.SamePaths.{invariant_kept, enters_well}
use Rattle.uppaal.proofs.Ends.{in_map}
use Rattle.uppaal.proofs.Ranges.{set_here, set_else}
use Rattle.uppaal.proofs.Guards.{Sized}
use Rattle.uppaal.proofs.One.{Waits, Rests, HeldAt, entered_held}

-- ## The outcomes of a step in

-- by itself: none
pub alone_outcome : {C : Component} {now : ℕ} {p : PathPassage} {e : ℕ} (a : Arc) {x : Action} → ByItself C now p e x → none ∈ outcomes a x
alone_outcome a internally = here refl
alone_outcome a (times_out i) = (in_append (map (λ (q : Pair). some q.channel) a.pairs) (none ∷ [])).1 (inr (here refl))

-- of a send its channel
pub send_outcome : (a : Arc) (x : Action) (k : ℕ) → sends x ≡ some k → some k ∈ outcomes a x
send_outcome a Internal k e = let z : ◌≡◌ {A = ℕ} 0 1 = cc in absurd (omega arith)
send_outcome a (Send j) k e = here (sym e)
send_outcome a Receive k e = let z : ◌≡◌ {A = ℕ} 0 1 = cc in absurd (omega arith)

-- of a receive a channel that it names
pub hear_outcome : (a : Arc) (x : Action) (k : ℕ) → receives x ≡ true → any (λ q. eqb q.channel k) a.pairs ≡ true → some k ∈ outcomes a x
hear_outcome a Internal k e h = clash e
hear_outcome a (Send j) k e h = clash e
hear_outcome a Receive k e h =
    let r = (any_is (λ (q : Pair). eqb q.channel k) a.pairs).0 h in
    (in_append (map (λ (q : Pair). some q.channel) a.pairs) (none ∷ [])).1
    (inl (subst (λ n. some n ∈ map (λ (q : Pair). some q.channel) a.pairs) (eqb-true r.0.channel k r.2) (in_map (λ (q : Pair). some q.channel) r.1)))

-- ## States

-- a table in its limits: its edges have a budget or they have none
pub record Limited (T : Table) : Type 0 where
  pub budgets : Bool
  pub components : All (ComponentIn (record { channels = T.channels; budgets = budgets })) T.components

pub component-in : (T : Table) (L : Limited T) (c : ℕ) → c < size T → ComponentIn (record { channels = T.channels; budgets = L.budgets }) (component_of T c)
component-in T L c h = all_at no_component L.components c h

pub record Held (T : Table) (s : State) : Type 0 where
  pub count : length s.present ≡ size T
  pub each : (c : ℕ) → c < size T → HeldAt (component_of T c) s.tick (passage_in s c)

-- one component's passage is another
pub held_set : {T : Table} {s : State} {c : ℕ} {p : PathPassage} → Held T s → c < size T → HeldAt (component_of T c) s.tick p → Held T (with_passage s c p)
held_set {T} {s} {c} {p} h i k =
    record { count = length-set s.present c p ∙ h.count; each = λ d j. go d j (eqb c d) refl }
  where
    go : (d : ℕ) → d < size T → (b : Bool) → eqb c d ≡ b → HeldAt (component_of T d) s.tick (passage_in (with_passage s c p) d)
    go d j true e =
        subst (λ n. HeldAt (component_of T n) s.tick (passage_in (with_passage s c p) n)) (eqb-true c d e)
        (subst (HeldAt (component_of T c) s.tick) (sym (set_here no_path_passage s.present c p (omega (arith, h.count, i)))) k)
    go d j false e =
        subst (HeldAt (component_of T d) s.tick) (sym (set_else no_path_passage s.present c d p (λ z. absurd (eqb-false c d e z)))) (h.each d j)

-- at the start
start_held : {header : TableHeader} (C : Component) → ComponentIn header C → HeldAt C 0 (start_passage C)
start_held C k =
    let l = location_of C C.initial in
    let i = (all_at no_location k.locations C.initial k.initial).clock in
    let e : clock_at (replicate C.clocks 0) l.clock ≡ 0 = get_or-replicate C.clocks l.clock 0 0 i in
    record {
      sized = record { clocks = length-replicate C.clocks 0; values = length-replicate C.variables (pos 0); place = k.initial; since = omega arith };
      rests = omega (arith, e);
    }

pub held_start : (T : Table) → Limited T → Held T (start T)
held_start T L =
    record {
      count = length-map T.components start_passage;
      each = λ c h. subst (HeldAt (component_of T c) 0) (sym (at_map start_passage T.components c no_component no_path_passage h)) (start_held (component_of T c) (component-in T L c h));
    }

-- a component that lets a tick pass
tick_held : (C : Component) (now : ℕ) (p : PathPassage) → HeldAt C now p → Passes C now p p.waiting → HeldAt C (suc now) p
tick_held C now p h q =
    record {
      sized = record { clocks = h.sized.clocks; values = h.sized.values; place = h.sized.place; since = omega (arith, h.sized.since) };
      rests = go p.waiting h.rests q;
    }
  where
    grows : stayed (suc now) p ≡ suc (stayed now p)
    grows = omega (arith, h.sized.since)

    go : (o : Option Taken) → Rests C now p o → Passes C now p o → Rests C (suc now) p o
    go none r f = omega (arith, grows, f)
    go (some w) r f = record { there = r.there; source = r.source; outcome = r.outcome; end = omega (arith, grows, f); ranged = r.ranged }

-- a component that has stepped in
pub in_held : {C : Component} {now : ℕ} {p : PathPassage} {e : ℕ} (m : Option ℕ) → HeldAt C now p → StepsIn C now p e → m ∈ outcomes (arc_of C e) (arc_of C e).edge.action
    → HeldAt C now (waits p e m)
in_held m h s o =
    record {
      sized = record { clocks = h.sized.clocks; values = h.sized.values; place = h.sized.place; since = h.sized.since };
      rests = record { there = s.there; source = s.source; outcome = o; end = s.end; ranged = s.ranged };
    }

-- what a waiting component's rest is
pub waits_at : {C : Component} {now : ℕ} {p : PathPassage} {w : Taken} → HeldAt C now p → p.waiting ≡ some w → Waits C now p w
waits_at {C} {now} {p} h q = subst (Rests C now p) q h.rests

-- each step that enters well keeps it
pub held_kept : {T : Table} {s : State} {l : Label} {t : State} → Limited T → Held T s → Step T s l t → enters_well T t l ≡ true → Held T t
held_kept {T} {s} L h (ticks f) e =
    record { count = h.count; each = λ c i. tick_held (component_of T c) s.tick (passage_in s c) (h.each c i) (f c i).1 }
held_kept {T} {s} L h (enters {c = c} {e = e} i k x) g =
    held_set h i (in_held none (h.each c i) k (alone_outcome (arc_of (component_of T c) e) x))
held_kept {T} {s} L h (joins {a = a} {e = e} {b = b} {f = f} {k = k} i j n x y ch li na) g =
    let r = held_set h i (in_held (some k) (h.each a i) x (send_outcome (arc_of (component_of T a) e) (arc_of (component_of T a) e).edge.action k ch)) in
    held_set r j (in_held (some k) (h.each b j) y (hear_outcome (arc_of (component_of T b) f) (arc_of (component_of T b) f).edge.action k li na))
held_kept {T} {s} L h (leaves_it {c = c} {w = w} i q x) g =
    let k = h.each c i in
    let new = leaves (arc_of (component_of T c) w.edge) w.message s.tick (passage_in s c).entry in
    let u = subst (λ p. invariant_kept (component_of T c) p ≡ true) (set_here no_path_passage s.present c (enters_at new) (omega (arith, h.count, i))) g in
    held_set h i (entered_held (component-in T L c i) k.sized w (waits_at k q)
    (leb-true (clock_at new.clocks (location_of (component_of T c) new.location).clock) (location_of (component_of T c) new.location).bound u))
