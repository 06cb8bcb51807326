-- The walk to the passage of a component at a tick: turn by turn. Assumes nothing.
use mathlib.Core.Path.{◌≡◌, sym, ap, ap₂, subst, ◌∙◌}
use mathlib.Core.List.{List, [], ◌∷◌}
use Prim.Native.Nat.{ℕ, suc, ◌+◌, ◌≤◌, ◌<◌}
use native.Mathlib.Omega.{arith}
use lib.ListN.{length, get_or}
use lib.IntN.{pos}
use mir.Syntax.{w8}
use mir.Val.{Fits}
use Rattle.model.specs.Lists.{All, Bytes, accepted}
use Rattle.model.specs.Table.{Arc, header_of, sizes_of, arc_of}
use Rattle.model.specs.Window.{leads_to, leaves}
use Rattle.model.specs.Reader.{byte}
use Rattle.model.specs.Places.{read_of, component_in, start_of}
use Rattle.model.specs.Schedule.{Passage, passage_arc, light, start_entry}
use Rattle.model.specs.Checks.{limit, passage_at}
use Rattle.model.specs.Chains.{IsSchedule}
use Rattle.model.proofs.Reader.Located.{valid_in}
use Rattle.model.proofs.Schedule.Replayed.{Ahead, ahead_start, ahead_other, ahead_here, ahead_next, ahead_end}
use Rattle.model.proofs.Schedule.Reasoned.{named}
use Rattle.window.specs.declared.Entry.{Entry}
use Rattle.window.specs.Views.{entry_of}
use Rattle.rows.specs.Rows.{num, message_of, row_passage, RowKnown}
use Rattle.rows.proofs.Placed.{known_bytes, row_known}
use Rattle.schedule.specs.Going.{cut}
use Rattle.schedule.proofs.Accepted.{row_is, is_schedule}
use Rattle.schedule.proofs.Cut.{leaves_cut, start_cut, arc_in, leads_in}
use Rattle.schedule.proofs.Tables.{initial_read, limits_of}
use Rattle.reasons.specs.declared.Stay.{Stay}
use Rattle.replay.specs.Growing.{relocated, Grown}
use Rattle.reasons.specs.Stays.{Walked, Stayed}

-- before row i the walk carries the entry of the component's next passage, but for its location
pub record On (bs l : List ℕ) (n c tick i : ℕ) (at : Entry) : Type 0 where
  pub walked : Walked bs l n c tick
  pub here : ℕ
  pub ahead : Ahead (read_of bs).horizon c (component_in bs c) walked.rows.passages i (cut (component_in bs c) (relocated here (entry_of at)))
  pub young : All (λ x. x ≤ at.tick) at.clocks
  pub early : at.tick ≤ tick
  pub location : here < length (component_in bs c).locations

module _ (bs l : List ℕ) (n c tick i : ℕ) (at : Entry) (o : On bs l n c tick i at) (h : i < n) where
  S : List Passage
  S = o.walked.rows.passages

  here : i < length S
  unfolding S
  here = omega (arith, o.walked.rows.count)

  -- row i is passage i
  is : row_passage l i ≡ light (passage_at S i)
  unfolding S
  is = row_is bs l n o.walked.rows i h

  law : IsSchedule limit (read_of bs).table (read_of bs).horizon S
  unfolding S
  law = is_schedule bs l n o.walked.rows

  pub known : RowKnown bs l i
  known = row_known bs l n i o.walked.rows.placed h

  -- a row of another component
  pub on_other : (num l i 0 ≡ c → ⊥) → On bs l n c tick (suc i) at
  unfolding S
  on_other d =
      record {
        walked = o.walked;
        here = o.here;
        ahead = ahead_other (read_of bs).horizon c (component_in bs c) S i _ here o.ahead (λ e. d (ap (λ (v : Passage). v.component) is ∙ e));
        young = o.young;
        early = o.early;
        location = o.location;
      }

  module _ (mine : num l i 0 ≡ c) where
    its : (passage_at S i).component ≡ c
    its = sym (ap (λ (v : Passage). v.component) is) ∙ mine

    entry_is : (passage_at S i).entry ≡ cut (component_in bs c) (relocated o.here (entry_of at))
    unfolding S
    entry_is = ahead_here (read_of bs).horizon c (component_in bs c) S i _ here o.ahead its

    -- it was entered at the tick that the walk carries
    pub entered_then : num l i 3 ≡ at.tick
    entered_then = ap (λ (v : Passage). v.entry.tick) is ∙ ap (λ (e : Rattle.model.specs.Window.Entry). e.tick) entry_is

    -- it was entered at the location of its row
    located : num l i 2 ≡ o.here
    located = ap (λ (v : Passage). v.entry.location) is ∙ ap (λ (e : Rattle.model.specs.Window.Entry). e.location) entry_is

    pub location_small : ((j : ℕ) → Fits w8 (get_or bs j 0)) → num l i 2 < 256
    location_small b = omega (arith, located, o.location, (limits_of bs b o.walked.rows.placed.valid c o.walked.present).most_locations)

    -- the tick lies before its end: it is the passage
    pub found : tick < num l i 5 → (r : Stay) → r.row ≡ i → entry_of r.at ≡ relocated (num l i 2) (entry_of at) → Stayed bs l n c tick r
    unfolding S
    found lt r row entry =
        let w = named law c tick o.walked.present o.walked.below in
        let t : (passage_at S i).entry.tick ≡ at.tick = ap (λ (e : Rattle.model.specs.Window.Entry). e.tick) entry_is in
        let e : num l i 5 ≡ (passage_at S i).end = ap (λ (v : Passage). v.end) is in
        let whole : entry_of r.at ≡ relocated o.here (entry_of at) = entry ∙ ap (λ k. relocated k (entry_of at)) located in
        let there : r.at.location ≡ o.here = ap (λ (e : Rattle.model.specs.Window.Entry). e.location) whole in
        let then : r.at.tick ≡ at.tick = ap (λ (e : Rattle.model.specs.Window.Entry). e.tick) whole in
        record {
          passages = S;
          accepted_schedule = o.walked.rows.accepted_schedule;
          row = row ∙ w.alone i here its (omega (arith, t, o.early)) (omega (arith, e));
          entry = ap (λ k. (passage_at S k).entry) row ∙ entry_is ∙ ap (cut (component_in bs c)) (sym whole);
          there = omega (arith, row, h);
          own = ap (λ k. num l k 0) row ∙ mine;
          shown = rw row is;
          location = omega (arith, there, o.location);
          early = omega (arith, then, o.early);
        }

    -- it ends at the tick or before: the next one is entered where it leads to
    module _ (b : (j : ℕ) → Fits w8 (get_or bs j 0)) (past : num l i 5 ≤ tick) (next : Entry)
        (grown : Grown (passage_arc (read_of bs).table (row_passage l i)) (num l i 5) at next) where
      abbrev arc : Arc
      arc = passage_arc (read_of bs).table (row_passage l i)

      ends : next.tick ≡ num l i 5
      unfolding leaves
      ends = ap (λ (e : Rattle.model.specs.Window.Entry). e.tick) (grown.leads (message_of (num l i 6)))

      -- the location that it leads to is one of the component
      leads_there : leads_to arc (message_of (num l i 6)) < length (component_in bs c).locations
      leads_there =
          let row = o.walked.rows.placed.row i h in
          let C = component_in bs (num l i 0) in
          let k = limits_of bs b o.walked.rows.placed.valid (num l i 0) row.present in
          let header = header_of (read_of bs) in
          let q = leads_in (sizes_of header C) (arc_of C (num l i 1)) (message_of (num l i 6)) (arc_in header C k (num l i 1) row.there) in
          subst (λ (m : ℕ). leads_to arc (message_of (num l i 6)) < length (component_in bs m).locations) mine q

      pub on_next : On bs l n c tick (suc i) next
      unfolding S leaves
      on_next =
          let H = (read_of bs).horizon in
          let C = component_in bs c in
          let v = passage_at S i in
          let end : num l i 5 ≡ v.end = ap (λ (v : Passage). v.end) is in
          let edge : num l i 1 ≡ v.edge = ap (λ (v : Passage). v.edge) is in
          let m : message_of (num l i 6) ≡ v.message = ap (λ (v : Passage). v.message) is in
          let row = o.walked.rows.placed.row i h in
          let from = relocated o.here (entry_of at) in
          let a = ahead_next H c C S i _ here o.ahead its (omega (arith, end, o.walked.below)) in
          let there : num l i 1 < length C.arcs = subst (λ k. num l i 1 < length (component_in bs k).arcs) mine row.there in
          let cutting = leaves_cut (header_of (read_of bs)) C (valid_in bs (known_bytes bs b) o.walked.rows.placed.valid c o.walked.present) v.edge (subst (λ k. k < length C.arcs) edge there) v.message v.end from in
          let is-arc : arc ≡ arc_of C v.edge = ap₂ (λ k e. arc_of (component_in bs k) e) mine edge in
          let step : leaves (arc_of C v.edge) v.message v.end from ≡ relocated (leads_to arc (message_of (num l i 6))) (entry_of next) = rw (← is-arc, ← m, ← end) (sym (grown.leads (message_of (num l i 6)))) in
          record {
            walked = o.walked;
            here = leads_to arc (message_of (num l i 6));
            ahead = subst (Ahead H c C S (suc i)) (cutting ∙ ap (cut C) step) a;
            young = rw ends grown.young;
            early = omega (arith, ends, past);
            location = leads_there;
          }

-- behind the last row there is none
pub on_end : (bs l : List ℕ) (n c tick i : ℕ) (at : Entry) → On bs l n c tick i at → i ≡ n → ⊥
on_end bs l n c tick i at o e = ahead_end (read_of bs).horizon c (component_in bs c) o.walked.rows.passages _ (subst (λ k. Ahead (read_of bs).horizon c (component_in bs c) o.walked.rows.passages k (cut (component_in bs c) (relocated o.here (entry_of at)))) (e ∙ o.walked.rows.count) o.ahead)

-- before the first row the component is as it starts
pub on_start : (bs l : List ℕ) (n c tick start : ℕ) → ((j : ℕ) → Fits w8 (get_or bs j 0)) → Walked bs l n c tick → start ≡ start_of bs c → (at : Entry)
    → at.location ≡ byte bs (start + 3) → at.tick ≡ 0 → at.clocks ≡ 0 ∷ 0 ∷ 0 ∷ 0 ∷ [] → at.values ≡ pos 0 ∷ pos 0 ∷ pos 0 ∷ pos 0 ∷ []
    → On bs l n c tick 0 at
on_start bs l n c tick start b w s at p q x y =
    let C = component_in bs c in
    let law = is_schedule bs l n w.rows in
    let i = valid_in bs (known_bytes bs b) w.rows.placed.valid c w.present in
    let e : start_entry C ≡ cut C (entry_of at) = start_cut (header_of (read_of bs)) C i (entry_of at) (initial_read bs b w.rows.placed.valid c start w.present s p) q x y in
    record {
      walked = w;
      here = at.location;
      ahead = subst (Ahead (read_of bs).horizon c C w.rows.passages 0) e (ahead_start law c w.present);
      young = rw (q, x) zeros;
      early = omega (arith, q);
      location = rw (initial_read bs b w.rows.placed.valid c start w.present s p) i.initial;
    }
  where
    zeros : All (λ x. x ≤ 0) (0 ∷ 0 ∷ 0 ∷ 0 ∷ [])
    zeros = Rattle.model.specs.Lists.more {x = 0} (omega arith) (Rattle.model.specs.Lists.more {x = 0} (omega arith) (Rattle.model.specs.Lists.more {x = 0} (omega arith) (Rattle.model.specs.Lists.more {x = 0} (omega arith) Rattle.model.specs.Lists.empty)))
