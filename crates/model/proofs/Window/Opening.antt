-- What an accepted opening says of the passage that it opens. Assumes nothing.
use mathlib.Core.Path.{◌≡◌, refl, sym, ap, subst, ◌∙◌}
use mathlib.Core.Bool.{true}
use mathlib.Core.List.{List}
use mathlib.Core.Option.{Option, none, some}
use mathlib.Core.Logic.{◌↔◌}
use Prim.Native.Nat.{ℕ, pred, ◌+◌, ◌≤◌, ◌<◌}
use native.Mathlib.Omega.{arith}
use lib.IntN.{ℤ}
use lib.ListN.{length}
use Rattle.model.specs.Lists.{accepted, refused}
use Rattle.model.specs.Table.{Component, arc_of, location_of}
use Rattle.model.specs.Window.{Entry, Pick, IsWindow, ready_of, past_of, data_holds, choice, updated, channel_of}
use Rattle.model.specs.Schedule.{Passage, passage_of, ranged, picked, opening}
use Rattle.model.proofs.Reader.Parts.{refused_clash, accepted_same}
use Rattle.model.proofs.Window.Interval.{is_window, invariant}
use Rattle.model.proofs.Window.Choice.{Picked, choice_taken, choice_picked}

-- v is the passage that component c opens as it enters there
pub record Opened (c : ℕ) (C : Component) (at : Entry) (v : Passage) : Type 0 where
  pub pick : Pick
  pub taken : choice C at ≡ some pick
  pub is : v ≡ passage_of c at pick (channel_of (arc_of C v.edge))
  pub component : v.component ≡ c
  pub entry : v.entry ≡ at
  pub there : v.edge < length C.arcs
  pub source : (arc_of C v.edge).edge.source ≡ at.location
  pub bounds : data_holds (arc_of C v.edge).data_guards at.values ≡ true
  -- ready and end are the first and the last tick of the window
  pub ready : v.ready ≡ at.tick + ready_of (arc_of C v.edge).clock_guards at.clocks
  pub end : v.end ≡ at.tick + pred (past_of (location_of C at.location) (arc_of C v.edge).clock_guards at.clocks)
  pub window : IsWindow (location_of C at.location) (arc_of C v.edge).clock_guards at.clocks pick.ready pick.end
  pub early : at.tick ≤ v.ready
  pub wide : v.ready < v.end
  -- the values after the updates
  pub values : List ℤ
  pub updates : updated (arc_of C v.edge).updates at.values ≡ some values
  pub message : v.message ≡ channel_of (arc_of C v.edge)

module _ (c : ℕ) (C : Component) (at : Entry) where
  -- the passage of a pick
  of_pick : (p : Pick) (ys : List ℤ) → choice C at ≡ some p → updated (arc_of C p.edge).updates at.values ≡ some ys
      → Opened c C at (passage_of c at p (channel_of (arc_of C p.edge)))
  of_pick p ys k u =
      record {
        pick = p;
        taken = k;
        is = refl;
        component = refl;
        entry = refl;
        there = k'.present;
        source = k'.source;
        bounds = k'.holds;
        ready = ap (λ (n : ℕ). at.tick + n) k'.ready;
        end = omega (arith, k'.past);
        window = subst (λ (x : Pick). IsWindow (location_of C at.location) (arc_of C p.edge).clock_guards at.clocks x.ready x.end) (sym (choice_taken C at k).window)
            (is_window (location_of C at.location) (arc_of C p.edge).clock_guards at.clocks (omega (arith, k'.ready, k'.past, k'.window)));
        early = omega arith;
        wide = omega (arith, k'.window);
        values = ys;
        updates = u;
        message = refl;
      }
    where
      k' : Picked C at p
      k' = choice_picked C at k

  -- an accepted opening
  pub opened : {v : Passage} → opening c C at ≡ accepted v → Opened c C at v
  unfolding opening
  opened {v} e = go (choice C at) refl e
    where
      ok : (p : Pick) → choice C at ≡ some p → (o : Option (List ℤ)) → updated (arc_of C p.edge).updates at.values ≡ o
          → ranged c o (passage_of c at p (channel_of (arc_of C p.edge))) ≡ accepted v → Opened c C at v
      ok p k none u q = refused_clash 9 c v q
      ok p k (some ys) u q = subst (Opened c C at) (accepted_same q) (of_pick p ys k u)

      go : (k : Option Pick) → choice C at ≡ k → picked c C at k ≡ accepted v → Opened c C at v
      go none k q = refused_clash 8 c v q
      go (some p) k q = ok p k (updated (arc_of C p.edge).updates at.values) refl q

  -- a passage that is the one opened there is accepted
  pub opened_accepted : {v : Passage} → Opened c C at v → opening c C at ≡ accepted v
  unfolding opening
  opened_accepted {v} o =
      ap (picked c C at) o.taken ∙ ap (λ u. ranged c u (passage_of c at o.pick (channel_of (arc_of C o.pick.edge)))) (ap (λ e. updated (arc_of C e).updates at.values) edge ∙ o.updates)
      ∙ ap accepted (ap (λ e. passage_of c at o.pick (channel_of (arc_of C e))) edge ∙ sym o.is)
    where
      edge : o.pick.edge ≡ v.edge
      edge = sym (ap (λ (x : Passage). x.edge) o.is)

  -- an opening is accepted exactly if the passage is the one opened there
  pub opening_is : {v : Passage} → (opening c C at ≡ accepted v) ↔ Opened c C at v
  opening_is = (opened, opened_accepted)

  -- 8. no candidate
  pub opening_8 : choice C at ≡ none → opening c C at ≡ refused 8 c
  unfolding opening
  opening_8 e = ap (picked c C at) e

  -- 9. an update leaves the range
  pub opening_9 : (p : Pick) → choice C at ≡ some p → updated (arc_of C p.edge).updates at.values ≡ none → opening c C at ≡ refused 9 c
  unfolding opening
  opening_9 p e u = ap (picked c C at) e ∙ ap (λ x. ranged c x (passage_of c at p (channel_of (arc_of C p.edge)))) u

  -- a passage ends no later than the invariant's bound after its entry
  pub end_bounded : {v : Passage} → Opened c C at v → v.end ≤ at.tick + (location_of C at.location).bound
  end_bounded {v} o =
      let gs = (arc_of C v.edge).clock_guards in
      let q = past_of (location_of C at.location) gs at.clocks in
      omega (arith, o.ready, o.end, o.wide, invariant (location_of C at.location) at.clocks (pred q) gs (omega (arith, o.ready, o.end, o.wide)))
