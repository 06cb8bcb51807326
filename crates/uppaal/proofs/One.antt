-- One component: its transitions, taken where it stands, are its steps in and out. Assumes nothing.
use mathlib.Core.Path.{◌≡◌, refl, sym, ap, subst, ◌∙◌}
use mathlib.Core.Logic.{◌↔◌}
use mathlib.Core.Bool.{Bool, true, false, cond, ◌&&◌}
use mathlib.Core.List.{List, [], ◌∷◌, ◌++◌, map}
use mathlib.Core.Option.{Option, none, some}
use Prim.Native.Nat.{ℕ, zero, suc, ◌+◌, ◌-◌, ◌≤◌, ◌<◌}
use native.Mathlib.Omega.{arith}
use borrow.Author.Tests.{leb-true, le-leb}
use lib.Dec.{leb}
use lib.IntN.{ℤ}
use lib.ListN.{length, set, length-set}
use Rattle.model.specs.declared.Action.{Action}
use Rattle.model.specs.declared.Action.TheVariants.{Internal, Send, Receive}
use Rattle.model.specs.declared.Pair.{Pair}
use Rattle.model.specs.declared.Sizes.{Sizes}
use Rattle.model.specs.declared.Update.{Update}
use Rattle.model.specs.declared.TableHeader.{TableHeader}
use Rattle.model.specs.Lists.{all, All, empty, more, ◌∈◌, or_else}
use Rattle.model.specs.Table.{Arc, Component, sizes_of, arc_of, location_of}
use Rattle.model.specs.Limits.{PairIn, ActionIn, ComponentIn}
use Rattle.model.specs.Window.{Entry, clock_at, ready_of, data_holds, new_value, in_range, updated, aged, listens, paired, leads_to, leaves}
use Rattle.model.specs.Network.{PathPassage, Taken, stayed, past_in, waits, enters_at}
use Rattle.model.specs.NetworkRules.{StepsIn}
use Rattle.model.proofs.Basics.Bools.{clash, and_is}
use Rattle.model.proofs.Schedule.Passages.{length_aged}
use Rattle.uppaal.specs.Xta.{Name, location, waiting, Atom, at_most, Transition}
use Rattle.uppaal.specs.XtaNetwork.{Stand, atom_holds, guard_holds, keeps, stands, all_assigned, Fires}
use Rattle.uppaal.specs.Export.{uppers, others, outcomes, assignments_of, step_in_with, step_out_with, process_for}
use Rattle.uppaal.specs.SamePaths.{clocks_now, name_of, stand_for, reached}
use Rattle.uppaal.proofs.Ends.{AtEnd, holds}
use Rattle.uppaal.proofs.Ranges.{all_append}
use Rattle.uppaal.proofs.Windows.{grows}
use Rattle.uppaal.proofs.Assigned.{left_assigned}
use Rattle.uppaal.proofs.Names.{stands_location, stands_waiting}
use Rattle.uppaal.proofs.Guards.{Sized, clock_here, arc_in, keeps_in, end_in, others_in}

-- ## What holds of a component on a path that enters no location with its invariant broken

-- it waits on an edge from its location, with an outcome of it; the edge's end has not passed, and its updates stay in range
pub record Waits (C : Component) (now : ℕ) (p : PathPassage) (w : Taken) : Type 0 where
  pub there : w.edge < length C.arcs
  pub source : (arc_of C w.edge).edge.source ≡ p.entry.location
  pub outcome : w.message ∈ outcomes (arc_of C w.edge) (arc_of C w.edge).edge.action
  pub end : stayed now p < past_in C p w.edge
  pub ranged : (vs : List ℤ) × (updated (arc_of C w.edge).updates p.entry.values ≡ some vs)

-- its invariant holds now; or it waits
abbrev pub Rests : Component → ℕ → PathPassage → Option Taken → Type 0
Rests C now p none = clock_at p.entry.clocks (location_of C p.entry.location).clock + stayed now p ≤ (location_of C p.entry.location).bound
Rests C now p (some w) = Waits C now p w

pub record HeldAt (C : Component) (now : ℕ) (p : PathPassage) : Type 0 where
  pub sized : Sized C now p
  pub rests : Rests C now p p.waiting

-- ## Small laws

-- clocks that grow by nothing
grown_none : (xs : List ℕ) (n : ℕ) → map (λ x. x + (n - n)) xs ≡ xs
grown_none [] n = refl
grown_none (x ∷ xs) n = let e : x + (n - n) ≡ x = omega arith in rw (e, grown_none xs n)

updated_length : (us : List Update) (vs : List ℤ) {ws : List ℤ} → updated us vs ≡ some ws → length ws ≡ length vs
unfolding updated
updated_length [] vs {ws} e = let q : ws ≡ vs = cc in ap length q
updated_length (u ∷ us) vs {ws} e = go (in_range (new_value u vs)) e (λ h. updated_length us (set vs u.variable (new_value u vs)) h)
  where
    go : (t : Bool) → cond t (updated us (set vs u.variable (new_value u vs))) none ≡ some ws
        → (updated us (set vs u.variable (new_value u vs)) ≡ some ws → length ws ≡ length (set vs u.variable (new_value u vs))) → length ws ≡ length vs
    go true h f = f h ∙ length-set vs u.variable (new_value u vs)
    go false h f = let z : ◌≡◌ {A = ℕ} 0 1 = cc in absurd (omega arith)

-- where an edge leads to is a location
paired_in : (s : Sizes) (k d : ℕ) {qs : List Pair} → All (PairIn s) qs → d < s.locations → paired qs k d < s.locations
paired_in s k d empty h = h
paired_in s k d (more {x = q} {xs = qs} i a) h = go (lib.Dec.eqb q.channel k) (paired_in s k d a h)
  where
    go : (b : Bool) → paired qs k d < s.locations → cond b q.location (paired qs k d) < s.locations
    go true f = i.location
    go false f = f

pub pairs_in : (s : Sizes) (a : Arc) (x : Action) → ActionIn s a x → All (PairIn s) a.pairs
pairs_in s a Internal h = subst (All (PairIn s)) (sym h.pairs) empty
pairs_in s a (Send k) h = subst (All (PairIn s)) (sym h.pairs) empty
pairs_in s a Receive h = h.pairs

pub leads_in : (s : Sizes) (a : Arc) (m : Option ℕ) → a.edge.destination < s.locations → All (PairIn s) a.pairs → leads_to a m < s.locations
leads_in s a none h i = h
leads_in s a (some k) h i = go (listens a)
  where
    go : (b : Bool) → cond b (paired a.pairs k a.edge.destination) a.edge.destination < s.locations
    go true = paired_in s k a.edge.destination i h
    go false = h

-- what a step in of component C tells
pub record In (C : Component) (now : ℕ) (p : PathPassage) (e : ℕ) (m : Option ℕ) (g : List Atom) (y : Stand) : Type 0 where
  pub free : p.waiting ≡ none
  pub source : (arc_of C e).edge.source ≡ p.entry.location
  pub guard : all (atom_holds (clocks_now now p) p.entry.values) g ≡ true
  pub ready : ready_of (arc_of C e).clock_guards p.entry.clocks ≤ stayed now p
  pub bounds : data_holds (arc_of C e).data_guards p.entry.values ≡ true
  pub ranged : (vs : List ℤ) × (updated (arc_of C e).updates p.entry.values ≡ some vs)
  pub after : stand_for now (waits p e m) ≡ y

module _ {header : TableHeader} {C : Component} (k : ComponentIn header C) {now : ℕ} {p : PathPassage} where
  -- ## Invariants

  -- of a component that is not waiting
  pub free_stands : Sized C now p → (stands (process_for C) (record { at = location p.entry.location; clocks = clocks_now now p; values = p.entry.values }) ≡ true) ↔ Rests C now p none
  free_stands z =
      let l = location_of C p.entry.location in
      let g = grows p.entry.clocks l.clock (stayed now p) (clock_here k z p.entry.location z.place) in
      let e = stands_location C p.entry.location (clocks_now now p) p.entry.values z.place in (
        λ t. omega (arith, g, leb-true (clock_at (clocks_now now p) l.clock) l.bound (sym e ∙ t)),
        λ t. e ∙ le-leb (clock_at (clocks_now now p) l.clock) l.bound (omega (arith, g, t)),
      )

  -- of one that waits
  pub waiting_stands : Sized C now p → (e : ℕ) (m : Option ℕ) → e < length C.arcs → (arc_of C e).edge.source ≡ p.entry.location → m ∈ outcomes (arc_of C e) (arc_of C e).edge.action
      → (stands (process_for C) (record { at = waiting e m; clocks = clocks_now now p; values = p.entry.values }) ≡ true) ↔ (stayed now p < past_in C p e)
  waiting_stands z e m h q o =
      let s = stands_waiting C e m (clocks_now now p) p.entry.values h o in
      let i = keeps_in k z e h q in
      (λ t. i.0 (sym s ∙ t), λ t. s ∙ i.1 t)

  -- the invariant of where it stands holds
  pub held_stands : HeldAt C now p → stands (process_for C) (stand_for now p) ≡ true
  held_stands h = go p.waiting h.rests
    where
      go : (o : Option Taken) → Rests C now p o → stands (process_for C) (record { at = name_of p o; clocks = clocks_now now p; values = p.entry.values }) ≡ true
      go none r = (free_stands h.sized).1 r
      go (some w) r = (waiting_stands h.sized w.edge w.message r.there r.source r.outcome).1 r.end

  -- ## Steps in

  -- with a guard on the upper bounds that holds
  pub fires_in : Sized C now p → (e : ℕ) (m : Option ℕ) (g : List Atom) → StepsIn C now p e → all (atom_holds (clocks_now now p) p.entry.values) g ≡ true
      → Fires (stand_for now p) (step_in_with e (arc_of C e) m g) (stand_for now (waits p e m))
  unfolding step_in_with all_assigned
  fires_in z e m g s h =
      record {
        source = ap (name_of p) s.free ∙ ap location (sym s.source);
        guard = all_append (atom_holds (clocks_now now p) p.entry.values) g (others (arc_of C e))
            ∙ (and_is (all (atom_holds (clocks_now now p) p.entry.values) g) (all (atom_holds (clocks_now now p) p.entry.values) (others (arc_of C e)))).1 (
              h,
              (others_in k z e s.there).1 (s.ready, s.bounds, s.ranged),
            );
        after = refl;
      }

  pub tells_in : Sized C now p → (e : ℕ) (m : Option ℕ) (g : List Atom) (y : Stand) → e < length C.arcs → Fires (stand_for now p) (step_in_with e (arc_of C e) m g) y → In C now p e m g y
  unfolding step_in_with all_assigned
  tells_in z e m g y h f =
      let t = (and_is (all (atom_holds (clocks_now now p) p.entry.values) g) (all (atom_holds (clocks_now now p) p.entry.values) (others (arc_of C e)))).0
      (sym (all_append (atom_holds (clocks_now now p) p.entry.values) g (others (arc_of C e))) ∙ f.guard) in
      let o = (others_in k z e h).0 t.1 in
      let n = where' p.waiting f.source in
      record { free = n.0; source = n.1; guard = t.0; ready = o.0; bounds = o.1; ranged = o.2; after = same f.after }
    where
      where' : (o : Option Taken) → name_of p o ≡ location (arc_of C e).edge.source → (o ≡ none) × ((arc_of C e).edge.source ≡ p.entry.location)
      where' none q = (refl, cc)
      where' (some w) q = let z : ◌≡◌ {A = ℕ} 0 1 = cc in absurd (omega arith)

      same : some (stand_for now (waits p e m)) ≡ some y → stand_for now (waits p e m) ≡ y
      same q = cc

  -- ## Steps out

  -- where the entry after a passage stands
  pub after_out : Sized C now p → (e : ℕ) (m : Option ℕ) (ws : List ℤ) → updated (arc_of C e).updates p.entry.values ≡ some ws
      → all_assigned (assignments_of C.clocks (arc_of C e)) (record { at = location (leads_to (arc_of C e) m); clocks = clocks_now now p; values = p.entry.values })
      ≡ some (stand_for now (enters_at (leaves (arc_of C e) m now p.entry)))
  unfolding leaves
  after_out z e m ws q =
      left_assigned C (arc_of C e) (location (leads_to (arc_of C e) m)) (stayed now p) p.entry.clocks p.entry.values ws z.clocks q
      ∙ ap (λ (l : List ℕ). some (record { at = location (leads_to (arc_of C e) m); clocks = l; values = ws })) (sym (grown_none (aged (arc_of C e).edge.mask (stayed now p) 0 p.entry.clocks) now))
      ∙ ap (λ (o : Option (List ℤ)). some (record { at = location (leads_to (arc_of C e) m); clocks = map (λ x. x + (now - now)) (aged (arc_of C e).edge.mask (stayed now p) 0 p.entry.clocks); values = or_else o p.entry.values })) (sym q)

  pub fires_out : Sized C now p → (w : Taken) → p.waiting ≡ some w → Waits C now p w → suc (stayed now p) ≡ past_in C p w.edge
      → Fires (stand_for now p) (step_out_with C.clocks w.edge (arc_of C w.edge) w.message (reached (uppers C (arc_of C w.edge)) (clocks_now now p)))
      (stand_for now (enters_at (leaves (arc_of C w.edge) w.message now p.entry)))
  unfolding step_out_with
  fires_out z w q r e =
      record {
        source = ap (name_of p) q;
        guard = holds (uppers C (arc_of C w.edge)) (clocks_now now p) p.entry.values ((end_in k z w.edge r.there r.source).1 e);
        after = after_out z w.edge w.message r.ranged.0 r.ranged.1;
      }

  -- the entry after a passage
  pub entered_sized : Sized C now p → (w : Taken) → Waits C now p w → Sized C now (enters_at (leaves (arc_of C w.edge) w.message now p.entry))
  unfolding leaves
  entered_sized z w r =
      record {
        clocks = length_aged (arc_of C w.edge).edge.mask (now - p.entry.tick) 0 p.entry.clocks ∙ z.clocks;
        values = ap (λ (o : Option (List ℤ)). length (or_else o p.entry.values)) r.ranged.1 ∙ updated_length (arc_of C w.edge).updates p.entry.values r.ranged.1 ∙ z.values;
        place = leads_in (sizes_of header C) (arc_of C w.edge) w.message (arc_in k z w.edge r.there).destination (pairs_in (sizes_of header C) (arc_of C w.edge) (arc_of C w.edge).edge.action (arc_in k z w.edge r.there).action);
        since = omega arith;
      }

  -- where its invariant holds
  pub entered_held : Sized C now p → (w : Taken) → Waits C now p w
      → clock_at (leaves (arc_of C w.edge) w.message now p.entry).clocks (location_of C (leaves (arc_of C w.edge) w.message now p.entry).location).clock
      ≤ (location_of C (leaves (arc_of C w.edge) w.message now p.entry).location).bound
      → HeldAt C now (enters_at (leaves (arc_of C w.edge) w.message now p.entry))
  unfolding leaves
  entered_held z w r i = record { sized = entered_sized z w r; rests = omega (arith, i) }
