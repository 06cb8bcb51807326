-- The guards of an edge's transitions say what the table's network asks of a step in. Assumes nothing.
use mathlib.Core.Path.{◌≡◌, refl, sym, ap, subst, ◌∙◌}
use mathlib.Core.Logic.{◌↔◌}
use mathlib.Core.Bool.{Bool, true, false, cond, ◌&&◌, not}
use mathlib.Core.List.{List, [], ◌∷◌, ◌++◌, map}
use mathlib.Core.Option.{Option, none, some}
use Prim.Native.Nat.{ℕ, suc, ◌+◌, ◌≤◌, ◌<◌}
use native.Mathlib.Omega.{arith}
use borrow.Author.Tests.{le-leb}
use lib.Dec.{leb}
use lib.IntN.{ℤ, pos, negsuc, ◌+ℤ◌, +ℤ_idr}
use lib.Signed.{le_z}
use lib.ListN.{length, get_or, replicate, length-replicate, get_or-replicate}
use Rattle.model.specs.declared.Action.{Action}
use Rattle.model.specs.declared.Action.TheVariants.{Internal, Send, Receive}
use Rattle.model.specs.declared.ClockGuard.{ClockGuard}
use Rattle.model.specs.declared.DataGuard.{DataGuard}
use Rattle.model.specs.declared.Sizes.{Sizes}
use Rattle.model.specs.declared.Update.{Update}
use Rattle.model.specs.declared.TableHeader.{TableHeader}
use Rattle.model.specs.Lists.{all, All, empty, more, is_none}
use Rattle.model.specs.Table.{Arc, Component, no_arc, no_location, sizes_of, arc_of, location_of}
use Rattle.model.specs.Limits.{Int16, ClockGuardIn, UpdateIn, ActionIn, ArcIn, ComponentIn}
use Rattle.model.specs.Window.{value_at, in_range, ready_of, past_of, data_holds, updated}
use Rattle.model.specs.Network.{PathPassage, Taken, stayed, past_in}
use Rattle.model.proofs.Basics.Bools.{clash, and_is}
use Rattle.model.proofs.Basics.Walk.{all_at}
use Rattle.uppaal.specs.Xta.{Atom}
use Rattle.uppaal.specs.XtaNetwork.{atom_holds, keeps}
use Rattle.uppaal.specs.Export.{Sum, uppers, lows, data_atoms, summed, range_atoms, others}
use Rattle.uppaal.specs.Export.{more as further}
use Rattle.uppaal.specs.SamePaths.{clocks_now}
use Rattle.uppaal.proofs.Ends.{AtEnd}
use Rattle.uppaal.proofs.Windows.{keeps_is, lows_are, end_is}
use Rattle.uppaal.proofs.Ranges.{Agree, Fine, worth, all_append, ranges_are}

-- ## Lists of parts in their limits

pub all_to : {A : Type 0} {P Q : A → Type 0} → ((x : A) → P x → Q x) → {xs : List A} → All P xs → All Q xs
all_to f empty = empty
all_to f (more {x = x} p a) = more (f x p) (all_to f a)

int16_ranged : (z : ℤ) → Int16 z → in_range z ≡ true
int16_ranged (pos n) h = le-leb n 32767 (omega arith)
int16_ranged (negsuc n) h = rw (le-leb n 32767 (omega arith))

pub updates_in : (s : Sizes) (a : Arc) (x : Action) → ActionIn s a x → All (UpdateIn s) a.updates
updates_in s a Internal h = h.updates
updates_in s a (Send k) h = subst (All (UpdateIn s)) (sym h.updates) empty
updates_in s a Receive h = subst (All (UpdateIn s)) (sym h.updates) empty

-- ## Data bounds

data_are : (xs : List ℕ) (vs : List ℤ) (gs : List DataGuard) → all (atom_holds xs vs) (data_atoms gs) ≡ data_holds gs vs
data_are xs vs [] = refl
data_are xs vs (g ∷ gs) = go (le_z g.low (value_at vs g.variable)) (data_are xs vs gs)
  where
    high : Bool
    high = le_z (value_at vs g.variable) g.high

    go : (b : Bool) → all (atom_holds xs vs) (data_atoms gs) ≡ data_holds gs vs → b && (high && all (atom_holds xs vs) (data_atoms gs)) ≡ (b && high) && data_holds gs vs
    go true e = ap (λ (c : Bool). high && c) e
    go false e = refl

-- ## The values at entry

agree_start : (vs : List ℤ) → Agree vs [] vs
unfolding summed
agree_start vs = record { values = refl; same = λ i k. sym (+ℤ_idr (value_at vs i)) }

-- an option that is something
pub some_is : {A : Type 0} (o : Option A) → (not (is_none o) ≡ true) ↔ ((a : A) × (o ≡ some a))
some_is none = (λ e. clash e, λ h. let z : ◌≡◌ {A = ℕ} 0 1 = cc h.1 in absurd (omega arith))
some_is (some a) = (λ e. (a, refl), λ h. refl)

-- ## A component's passage

-- as many clocks and values as the component has; its location is there; it was entered before
pub record Sized (C : Component) (now : ℕ) (p : PathPassage) : Type 0 where
  pub clocks : length p.entry.clocks ≡ C.clocks
  pub values : length p.entry.values ≡ C.variables
  pub place : p.entry.location < length C.locations
  pub since : p.entry.tick ≤ now

module _ {header : TableHeader} {C : Component} (k : ComponentIn header C) {now : ℕ} {p : PathPassage} (z : Sized C now p) where
  -- an edge in its limits
  pub arc_in : (e : ℕ) → e < length C.arcs → ArcIn (sizes_of header C) (arc_of C e)
  arc_in e h = all_at no_arc k.arcs e h

  -- its clocks are there
  guards_here : (e : ℕ) → e < length C.arcs → All (λ (g : ClockGuard). g.clock < length p.entry.clocks) (arc_of C e).clock_guards
  guards_here e h = all_to (λ g i. omega (arith, i.clock, z.clocks)) (arc_in e h).clock_guards

  pub clock_here : (l : ℕ) → l < length C.locations → (location_of C l).clock < length p.entry.clocks
  clock_here l h = omega (arith, (all_at no_location k.locations l h).clock, z.clocks)

  module _ (e : ℕ) (h : e < length C.arcs) (q : (arc_of C e).edge.source ≡ p.entry.location) where
    -- no bound of the edge is passed exactly before its end has passed
    pub keeps_in : (all (keeps (clocks_now now p)) (uppers C (arc_of C e)) ≡ true) ↔ (stayed now p < past_in C p e)
    keeps_in =
        subst (λ l. (all (keeps (clocks_now now p)) (uppers C (arc_of C e)) ≡ true) ↔ (stayed now p < past_of (location_of C l) (arc_of C e).clock_guards p.entry.clocks)) q
        (keeps_is (location_of C (arc_of C e).edge.source) (arc_of C e).clock_guards p.entry.clocks (stayed now p) (clock_here (arc_of C e).edge.source (arc_in e h).source) (guards_here e h))

    -- the edge is at its end exactly if no bound is passed and one is reached
    pub end_in : (AtEnd (clocks_now now p) (uppers C (arc_of C e)) ≡ true) ↔ (suc (stayed now p) ≡ past_in C p e)
    end_in =
        subst (λ l. (AtEnd (clocks_now now p) (uppers C (arc_of C e)) ≡ true) ↔ (suc (stayed now p) ≡ past_of (location_of C l) (arc_of C e).clock_guards p.entry.clocks)) q
        (end_is (location_of C (arc_of C e).edge.source) (arc_of C e).clock_guards p.entry.clocks (stayed now p) (clock_here (arc_of C e).edge.source (arc_in e h).source) (guards_here e h))

  -- the other conjuncts of a step in: ready, data bounds, updates in range
  pub others_in : (e : ℕ) → e < length C.arcs
      → (all (atom_holds (clocks_now now p) p.entry.values) (others (arc_of C e)) ≡ true)
      ↔ ((ready_of (arc_of C e).clock_guards p.entry.clocks ≤ stayed now p)
      × (data_holds (arc_of C e).data_guards p.entry.values ≡ true)
      × ((vs : List ℤ) × (updated (arc_of C e).updates p.entry.values ≡ some vs)))
  unfolding others
  others_in e h = (
    λ t.
        let s = (and_is (holds (lows (arc_of C e).clock_guards)) (holds (data_atoms (arc_of C e).data_guards ++ ranges))).0 (sym first_split ∙ t) in
        let r = (and_is (holds (data_atoms (arc_of C e).data_guards)) (holds ranges)).0 (sym second_split ∙ s.1) in
        (low.0 s.0, sym (data_are xs vs (arc_of C e).data_guards) ∙ r.0, (some_is (updated (arc_of C e).updates vs)).0 (sym range ∙ r.1)),
    λ t.
        first_split
        ∙ (and_is (holds (lows (arc_of C e).clock_guards)) (holds (data_atoms (arc_of C e).data_guards ++ ranges))).1 (
          low.1 t.0,
          second_split
              ∙ (and_is (holds (data_atoms (arc_of C e).data_guards)) (holds ranges)).1 (
                data_are xs vs (arc_of C e).data_guards ∙ t.1,
                range ∙ (some_is (updated (arc_of C e).updates vs)).1 t.2,
              ),
        ),
  )
    where
      xs : List ℕ
      xs = clocks_now now p

      vs : List ℤ
      vs = p.entry.values

      holds : List Atom → Bool
      holds g = all (atom_holds xs vs) g

      ranges : List Atom
      ranges = range_atoms [] (arc_of C e).updates

      first_split : holds (lows (arc_of C e).clock_guards ++ (data_atoms (arc_of C e).data_guards ++ ranges)) ≡ holds (lows (arc_of C e).clock_guards) && holds (data_atoms (arc_of C e).data_guards ++ ranges)
      first_split = all_append (atom_holds xs vs) (lows (arc_of C e).clock_guards) (data_atoms (arc_of C e).data_guards ++ ranges)

      second_split : holds (data_atoms (arc_of C e).data_guards ++ ranges) ≡ holds (data_atoms (arc_of C e).data_guards) && holds ranges
      second_split = all_append (atom_holds xs vs) (data_atoms (arc_of C e).data_guards) ranges

      low : (holds (lows (arc_of C e).clock_guards) ≡ true) ↔ (ready_of (arc_of C e).clock_guards p.entry.clocks ≤ stayed now p)
      low = lows_are (arc_of C e).clock_guards p.entry.clocks vs (stayed now p) (guards_here e h)

      range : holds ranges ≡ not (is_none (updated (arc_of C e).updates vs))
      range = ranges_are xs vs (arc_of C e).updates [] vs
          (all_to (λ u i. record { there = omega (arith, i.variable, z.values); number = int16_ranged u.number i.number }) (updates_in (sizes_of header C) (arc_of C e) (arc_of C e).edge.action (arc_in e h).action))
          (agree_start vs)
