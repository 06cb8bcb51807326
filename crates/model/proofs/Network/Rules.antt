-- `step` allows exactly the rules of specs/NetworkRules.antt. Assumes nothing.
use mathlib.Core.Path.{◌≡◌, refl, sym, ap, subst, ◌∙◌}
use mathlib.Core.Logic.{◌↔◌}
use mathlib.Core.Bool.{Bool, true, false, cond, ◌&&◌, not}
use mathlib.Core.List.{List, [], ◌∷◌}
use mathlib.Core.Option.{Option, none, some}
use Prim.Native.Nat.{ℕ, zero, suc, ◌+◌, ◌≤◌, ◌<◌}
use native.Mathlib.Omega.{arith}
use borrow.Author.Tests.{ltb-true, lt-ltb, leb-true, le-leb, eqb-true, eq-eqb, eqb-false, ne_eqb, not-true}
use lib.Dec.{leb, ltb, eqb}
use lib.IntN.{ℤ}
use lib.ListN.{length, get_or}
use Rattle.model.specs.declared.Action.{Action}
use Rattle.model.specs.declared.Action.TheVariants.{Internal, Send, Receive}
use Rattle.model.specs.Lists.{is_none}
use Rattle.model.specs.Table.{Arc, Component, Table, size, component_of, no_component, arc_of, location_of}
use Rattle.model.specs.Window.{clock_at, ready_of, data_holds, updated, channel_of, listens, leaves}
use Rattle.model.specs.Schedule.{names}
use Rattle.model.specs.Network.{State, PathPassage, Taken, no_path_passage, passage_in, stayed, past_in, in_window, at_end, Label, tick, step_in, together, step_out, present, may_tick, all_may_tick, may_step_in, waits, alone, hears_on, with_passage, enters_at, out_of, may_join, step}
pub use Rattle.model.specs.NetworkRules.{Passes, StepsIn, ByItself, internally, times_out, Step, ticks, enters, joins, leaves_it}
use Rattle.model.proofs.Basics.Bools.{clash, and_is}

-- ## Tests, taken apart

-- six tests at once
six_is : (a b c d e f : Bool) → (a && b && c && d && e && f ≡ true) ↔ (a ≡ true) × (b ≡ true) × (c ≡ true) × (d ≡ true) × (e ≡ true) × (f ≡ true)
six_is true true true true true f = (λ h. (refl, refl, refl, refl, refl, h), λ h. h.5)
six_is true true true true false f = (λ h. clash h, λ h. h.4)
six_is true true true false e f = (λ h. clash h, λ h. h.3)
six_is true true false d e f = (λ h. clash h, λ h. h.2)
six_is true false c d e f = (λ h. clash h, λ h. h.1)
six_is false b c d e f = (λ h. clash h, λ h. h.0)

-- an option that is something
some_is : {A : Type 0} (o : Option A) → (not (is_none o) ≡ true) ↔ ((a : A) × (o ≡ some a))
some_is none = (λ e. clash e, λ h. let z : ◌≡◌ {A = ℕ} 0 1 = cc h.1 in absurd (omega arith))
some_is (some a) = (λ e. (a, refl), λ h. refl)

-- an option that is nothing
none_is : {A : Type 0} (o : Option A) → (is_none o ≡ true) ↔ (o ≡ none)
none_is none = (λ e. refl, λ h. refl)
none_is (some a) = (λ e. clash e, λ h. let z : ◌≡◌ {A = ℕ} 0 1 = cc in absurd (omega arith))

-- a tested result is there exactly if the test is true
cond_is : (t : Bool) (s u : State) → (cond t (some s) none ≡ some u) ↔ (t ≡ true) × (s ≡ u)
cond_is true s u = (λ e. (refl, cc), λ h. ap some h.1)
cond_is false s u = (λ e. let z : ◌≡◌ {A = ℕ} 0 1 = cc in absurd (omega arith), λ h. clash h.0)

-- a component lets the tick pass
passes_is : (C : Component) (now : ℕ) (p : PathPassage) (o : Option Taken) → (may_tick C now p o ≡ true) ↔ Passes C now p o
passes_is C now p none =
    let x = clock_at p.entry.clocks (location_of C p.entry.location).clock in
    let q = (location_of C p.entry.location).bound in
    (λ e. omega (arith, ltb-true (x + stayed now p) q e), λ h. lt-ltb (x + stayed now p) q (omega arith))
passes_is C now p (some w) = (ltb-true (suc (stayed now p)) (past_in C p w.edge), lt-ltb (suc (stayed now p)) (past_in C p w.edge))

-- all do
all_pass : (now : ℕ) (Cs : List Component) (ps : List PathPassage) → (all_may_tick now Cs ps ≡ true)
    ↔ ((c : ℕ) → c < length Cs → (c < length ps) × Passes (get_or Cs c no_component) now (get_or ps c no_path_passage) (get_or ps c no_path_passage).waiting)
unfolding all_may_tick
all_pass now [] ps = (λ e c h. absurd (omega arith), λ h. refl)
all_pass now (C ∷ Cs) [] = (λ e. clash e, λ h. absurd (omega (arith, (h 0 (omega arith)).0)))
all_pass now (C ∷ Cs) (p ∷ ps) =
    let ih = all_pass now Cs ps in (
      λ e.
          let t = (and_is (may_tick C now p p.waiting) (all_may_tick now Cs ps)).0 e in
          each ((passes_is C now p p.waiting).0 t.0) (ih.0 t.1),
      λ h.
          (and_is (may_tick C now p p.waiting) (all_may_tick now Cs ps)).1 (
            (passes_is C now p p.waiting).1 (h 0 (omega arith)).1,
            ih.1 (λ c k. let g = h (suc c) (omega arith) in (omega (arith, g.0), g.1)),
          ),
    )
  where
    each : Passes C now p p.waiting → ((c : ℕ) → c < length Cs → (c < length ps) × Passes (get_or Cs c no_component) now (get_or ps c no_path_passage) (get_or ps c no_path_passage).waiting)
        → (c : ℕ) → c < length (C ∷ Cs) → (c < length (p ∷ ps)) × Passes (get_or (C ∷ Cs) c no_component) now (get_or (p ∷ ps) c no_path_passage) (get_or (p ∷ ps) c no_path_passage).waiting
    each a b zero h = (omega arith, a)
    each a b (suc c) h = let g = b c (omega arith) in (omega (arith, g.0), g.1)

-- a component may step in
steps_in_is : (C : Component) (now : ℕ) (p : PathPassage) (e : ℕ) → (may_step_in C now p e ≡ true) ↔ StepsIn C now p e
unfolding may_step_in
steps_in_is C now p e = (
  λ h.
      let t = tests.0 h in
      let w = (and_is (leb r d) (ltb d (past_in C p e))).0 t.5 in
      record {
        free = (none_is p.waiting).0 t.0;
        there = ltb-true e (length C.arcs) t.1;
        source = eqb-true (arc_of C e).edge.source p.entry.location t.2;
        bounds = t.3;
        ranged = (some_is (updated (arc_of C e).updates p.entry.values)).0 t.4;
        ready = leb-true r d w.0;
        end = ltb-true d (past_in C p e) w.1;
      },
  λ k.
      tests.1 (
        (none_is p.waiting).1 k.free,
        lt-ltb e (length C.arcs) k.there,
        eq-eqb (arc_of C e).edge.source p.entry.location k.source,
        k.bounds,
        (some_is (updated (arc_of C e).updates p.entry.values)).1 k.ranged,
        (and_is (leb r d) (ltb d (past_in C p e))).1 (le-leb r d k.ready, lt-ltb d (past_in C p e) k.end),
      ),
)
  where
    d : ℕ
    d = stayed now p

    r : ℕ
    r = ready_of (arc_of C e).clock_guards p.entry.clocks

    tests : (may_step_in C now p e ≡ true)
        ↔ (is_none p.waiting ≡ true) × (ltb e (length C.arcs) ≡ true) × (eqb (arc_of C e).edge.source p.entry.location ≡ true)
        × (data_holds (arc_of C e).data_guards p.entry.values ≡ true) × (not (is_none (updated (arc_of C e).updates p.entry.values)) ≡ true)
        × (in_window C now p e ≡ true)
    tests = six_is (is_none p.waiting) (ltb e (length C.arcs)) (eqb (arc_of C e).edge.source p.entry.location)
        (data_holds (arc_of C e).data_guards p.entry.values)
        (not (is_none (updated (arc_of C e).updates p.entry.values)))
        (in_window C now p e)

-- a component may step in by itself
by_itself_is : (C : Component) (now : ℕ) (p : PathPassage) (e : ℕ) (x : Action) → (alone C now p e x ≡ true) ↔ ByItself C now p e x
by_itself_is C now p e Internal = (λ h. internally, λ k. refl)
by_itself_is C now p e (Send k) = (λ h. clash h, elim [ ])
by_itself_is C now p e Receive = (λ h. times_out (eqb-true (suc (stayed now p)) (past_in C p e) h), λ k. elim k [ times_out i ↦ eq-eqb (suc (stayed now p)) (past_in C p e) i ])

-- a receive hears
hears_on_is : (a : Arc) (k : ℕ) → (hears_on a (some k) ≡ true) ↔ (listens a ≡ true) × (names a (some k) ≡ true)
hears_on_is a k = and_is (listens a) (names a (some k))

-- ## The law

module _ (T : Table) (s : State) where
  -- the tests of a joint step
  joins_is : (a f b g : ℕ) → (may_join T s a f b g ≡ true)
      ↔ (present T a ≡ true) × (present T b ≡ true) × (not (eqb a b) ≡ true) × (may_step_in (component_of T a) s.tick (passage_in s a) f ≡ true)
      × (may_step_in (component_of T b) s.tick (passage_in s b) g ≡ true) × (hears_on (arc_of (component_of T b) g) (channel_of (arc_of (component_of T a) f)) ≡ true)
  joins_is a f b g = six_is (present T a) (present T b) (not (eqb a b)) (may_step_in (component_of T a) s.tick (passage_in s a) f)
      (may_step_in (component_of T b) s.tick (passage_in s b) g)
      (hears_on (arc_of (component_of T b) g) (channel_of (arc_of (component_of T a) f)))

  -- what `step` allows follows the rules
  follows_rules : (l : Label) (t : State) → step T s l ≡ some t → Step T s l t
  unfolding step
  follows_rules tick t e =
      let h = (cond_is (all_may_tick s.tick T.components s.present) (record { tick = suc s.tick; present = s.present }) t).0 e in
      subst (Step T s tick) h.1 (ticks ((all_pass s.tick T.components s.present).0 h.0))
  follows_rules (step_in c f) t e =
      let x = (arc_of (component_of T c) f).edge.action in
      let in' = may_step_in (component_of T c) s.tick (passage_in s c) f in
      let by = alone (component_of T c) s.tick (passage_in s c) f x in
      let h = (cond_is (present T c && in' && by) (with_passage s c (waits (passage_in s c) f none)) t).0 e in
      let i = (and_is (present T c && in') by).0 h.0 in
      let j = (and_is (present T c) in').0 i.0 in
      subst (Step T s (step_in c f)) h.1
      (enters (ltb-true c (size T) j.0) ((steps_in_is (component_of T c) s.tick (passage_in s c) f).0 j.1) ((by_itself_is (component_of T c) s.tick (passage_in s c) f x).0 i.1))
  follows_rules (together a f b g) t e = go (channel_of (arc_of (component_of T a) f)) refl
    where
      after : Option ℕ → State
      after o = with_passage (with_passage s a (waits (passage_in s a) f o)) b (waits (passage_in s b) g o)

      h : (may_join T s a f b g ≡ true) × (after (channel_of (arc_of (component_of T a) f)) ≡ t)
      h = (cond_is (may_join T s a f b g) (after (channel_of (arc_of (component_of T a) f))) t).0 e

      i : (present T a ≡ true) × (present T b ≡ true) × (not (eqb a b) ≡ true) × (may_step_in (component_of T a) s.tick (passage_in s a) f ≡ true)
          × (may_step_in (component_of T b) s.tick (passage_in s b) g ≡ true) × (hears_on (arc_of (component_of T b) g) (channel_of (arc_of (component_of T a) f)) ≡ true)
      i = (joins_is a f b g).0 h.0

      go : (o : Option ℕ) → channel_of (arc_of (component_of T a) f) ≡ o → Step T s (together a f b g) t
      go none q = clash (subst (λ (o : Option ℕ). hears_on (arc_of (component_of T b) g) o ≡ true) q i.5)
      go (some k) q =
          let n = (hears_on_is (arc_of (component_of T b) g) k).0 (subst (λ (o : Option ℕ). hears_on (arc_of (component_of T b) g) o ≡ true) q i.5) in
          subst (Step T s (together a f b g)) (ap after (sym q) ∙ h.1)
          (joins (ltb-true a (size T) i.0) (ltb-true b (size T) i.1) (eqb-false a b (not-true (eqb a b) i.2))
          ((steps_in_is (component_of T a) s.tick (passage_in s a) f).0 i.3)
          ((steps_in_is (component_of T b) s.tick (passage_in s b) g).0 i.4)
          q
          n.0
          n.1)
  follows_rules (step_out c) t e = go (present T c) refl (passage_in s c).waiting refl e
    where
      go : (u : Bool) → present T c ≡ u → (o : Option Taken) → (passage_in s c).waiting ≡ o → cond u (out_of (component_of T c) s c (passage_in s c) o) none ≡ some t
          → Step T s (step_out c) t
      go false q o r h = let z : ◌≡◌ {A = ℕ} 0 1 = cc in absurd (omega arith)
      go true q none r h = let z : ◌≡◌ {A = ℕ} 0 1 = cc in absurd (omega arith)
      go true q (some w) r h =
          let k = (cond_is (at_end (component_of T c) s.tick (passage_in s c) w.edge) (out w) t).0 h in
          subst (Step T s (step_out c)) k.1
          (leaves_it (ltb-true c (size T) q) r (eqb-true (suc (stayed s.tick (passage_in s c))) (past_in (component_of T c) (passage_in s c) w.edge) k.0))
        where
          out : Taken → State
          out w = with_passage s c (enters_at (leaves (arc_of (component_of T c) w.edge) w.message s.tick (passage_in s c).entry))

  -- what the rules allow, `step` allows
  allows : (l : Label) (t : State) → Step T s l t → step T s l ≡ some t
  unfolding step
  allows tick t (ticks h) = rw ((all_pass s.tick T.components s.present).1 h)
  allows (step_in c f) t (enters h k x) =
      rw (
        lt-ltb c (size T) h,
        (steps_in_is (component_of T c) s.tick (passage_in s c) f).1 k,
        (by_itself_is (component_of T c) s.tick (passage_in s c) f (arc_of (component_of T c) f).edge.action).1 x,
      )
  allows (together a f b g) t (joins {k = k} ha hb n ka kb ch li na) =
      (cond_is (may_join T s a f b g) (after (channel_of (arc_of (component_of T a) f))) (after (some k))).1 (
        (joins_is a f b g).1 (
          lt-ltb a (size T) ha,
          lt-ltb b (size T) hb,
          rw (ne_eqb a b n),
          (steps_in_is (component_of T a) s.tick (passage_in s a) f).1 ka,
          (steps_in_is (component_of T b) s.tick (passage_in s b) g).1 kb,
          ap (hears_on (arc_of (component_of T b) g)) ch ∙ (hears_on_is (arc_of (component_of T b) g) k).1 (li, na),
        ),
        ap after ch,
      )
    where
      after : Option ℕ → State
      after o = with_passage (with_passage s a (waits (passage_in s a) f o)) b (waits (passage_in s b) g o)
  allows (step_out c) t (leaves_it {w = w} h r x) =
      ap (λ (o : Option Taken). cond (present T c) (out_of (component_of T c) s c (passage_in s c) o) none) r
      ∙ rw (lt-ltb c (size T) h, eq-eqb (suc (stayed s.tick (passage_in s c))) (past_in (component_of T c) (passage_in s c) w.edge) x)

  -- a step is allowed, to where it leads, exactly if a rule says so
  pub step_is : (l : Label) (t : State) → (step T s l ≡ some t) ↔ Step T s l t
  step_is l t = (follows_rules l t, allows l t)
