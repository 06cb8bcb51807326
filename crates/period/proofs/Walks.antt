-- The walk along the rows: one row more. Assumes nothing.
use mathlib.Core.Path.{◌≡◌, sym, ap, subst, ◌∙◌}
use mathlib.Core.Logic.{by_cases}
use mathlib.Core.List.{List, [], ◌∷◌}
use Prim.Native.Nat.{ℕ, suc, ◌+◌, ◌≤◌, ◌<◌}
use native.Mathlib.Omega.{arith}
use native.Mathlib.Decide.{ℕ_discrete}
use lib.IntN.{pos}
use lib.ListN.{length, get_or, set, length-set}
use lib.Seq.{get_or-set_same, get_or-set_other}
use mir.Syntax.{w8}
use mir.Val.{Fits}
use Rattle.model.specs.Lists.{All, empty, more, Answer}
use Rattle.model.specs.Table.{Arc, size, header_of, arc_of}
use Rattle.model.specs.Window.{leads_to, leaves}
use Rattle.model.specs.Places.{read_of, component_in}
use Rattle.model.specs.Schedule.{Passage, passage_arc, light, start_entry}
use Rattle.model.specs.Checks.{limit, passage_at}
use Rattle.model.specs.Chains.{IsSchedule}
use Rattle.model.proofs.Reader.Located.{valid_in}
use Rattle.window.specs.declared.Entry.{Entry}
use Rattle.window.specs.Views.{entry_of}
use Rattle.rows.specs.Rows.{num, message_of, row_passage, RowKnown}
use Rattle.rows.proofs.Placed.{known_bytes, row_known}
use Rattle.replay.specs.Growing.{relocated, Grown}
use Rattle.schedule.specs.Filled.{AcceptedRows}
use Rattle.schedule.specs.Going.{cut}
use Rattle.schedule.proofs.Accepted.{is_schedule}
use Rattle.schedule.proofs.Accepted.{row_is as row-is-passage}
use Rattle.schedule.proofs.Cut.{leaves_cut, start_cut}
use Rattle.recurrence.proofs.Upcoming.{Upcoming, upcoming_start, upcoming_other, upcoming_here, upcoming_next}
use Rattle.period.specs.declared.Walker.{Walker}
use Rattle.period.specs.Walking.{passages_of, schedule_in, no_entry, entry_at, Next, On}

module _ (bs l : List ℕ) (n : ℕ) (laid : AcceptedRows bs l n) where
  -- the rows are those of the table's schedule
  same : laid.passages ≡ schedule_in bs
  same = sym (ap (λ (a : Answer (List Passage)). passages_of a) laid.accepted_schedule)

  pub law : IsSchedule limit (read_of bs).table (read_of bs).horizon (schedule_in bs)
  law = subst (IsSchedule limit (read_of bs).table (read_of bs).horizon) same (is_schedule bs l n laid)

  pub count_is : n ≡ length (schedule_in bs)
  count_is = laid.count ∙ ap (λ (S : List Passage). length S) same

  -- row i is passage i
  pub row_is : (i : ℕ) → i < n → row_passage l i ≡ light (passage_at (schedule_in bs) i)
  row_is i h = row-is-passage bs l n laid i h ∙ ap (λ (S : List Passage). light (passage_at S i)) same

  -- ## The start

  pub on_start : (b : (j : ℕ) → Fits w8 (get_or bs j 0)) → (w : Walker) → length w.entries ≡ 8 → w.row ≡ 0
      → ((c : ℕ) → c < size (read_of bs).table → ((entry_at w c).location ≡ (component_in bs c).initial) × ((entry_at w c).tick ≡ 0) × ((entry_at w c).clocks ≡ 0 ∷ 0 ∷ 0 ∷ 0 ∷ []) × ((entry_at w c).values ≡ pos 0 ∷ pos 0 ∷ pos 0 ∷ pos 0 ∷ []))
      → On bs n w
  on_start b w eight z f =
      record {
        eight = eight;
        among = omega (arith, z);
        each = λ c h.
            let C = component_in bs c in
            let q = f c h in
            let e : start_entry C ≡ cut C (entry_of (entry_at w c)) = start_cut (header_of (read_of bs)) C (valid_in bs (known_bytes bs b) laid.placed.valid c h) (entry_of (entry_at w c)) q.0 q.1 q.2 q.3 in
            record {
              here = (entry_at w c).location;
              ahead =
                  subst (λ (i : ℕ). Upcoming (read_of bs).horizon c C (schedule_in bs) i (cut C (entry_of (entry_at w c)))) (sym z)
                  (subst (Upcoming (read_of bs).horizon c C (schedule_in bs) 0) e (upcoming_start limit (read_of bs).table (read_of bs).horizon (schedule_in bs) law c h));
              young = rw (q.1, q.2) zeros;
            };
      }
    where
      zeros : All (λ x. x ≤ 0) (0 ∷ 0 ∷ 0 ∷ 0 ∷ [])
      zeros = more {x = 0} (omega arith) (more {x = 0} (omega arith) (more {x = 0} (omega arith) (more {x = 0} (omega arith) empty)))

  -- ## One row

  module _ (w : Walker) (o : On bs n w) (h : w.row < n) where
    abbrev i : ℕ
    i = w.row

    abbrev c : ℕ
    c = num l w.row 0

    pub present : num l w.row 0 < size (read_of bs).table
    present = (laid.placed.row i h).present

    pub known : RowKnown bs l w.row
    known = row_known bs l n i laid.placed h

    there : i < length (schedule_in bs)
    there = omega (arith, count_is)

    its : (passage_at (schedule_in bs) i).component ≡ c
    its = sym (ap (λ (v : Passage). v.component) (row_is i h))

    abbrev from : Rattle.model.specs.Window.Entry
    from = relocated (o.each c present).here (entry_of (entry_at w c))

    entry_is : (passage_at (schedule_in bs) i).entry ≡ cut (component_in bs c) from
    entry_is = upcoming_here (read_of bs).horizon c (component_in bs c) (schedule_in bs) i _ there (o.each c present).ahead its

    -- it was entered at the tick that the walk carries
    pub entered_then : num l w.row 3 ≡ (entry_at w (num l w.row 0)).tick
    entered_then = ap (λ (v : Passage). v.entry.tick) (row_is i h) ∙ ap (λ (e : Rattle.model.specs.Window.Entry). e.tick) entry_is

    module _ (b : (j : ℕ) → Fits w8 (get_or bs j 0)) (few : size (read_of bs).table ≤ 8) (next : Entry)
        (grown : Grown (passage_arc (read_of bs).table (row_passage l w.row)) (num l w.row 5) (entry_at w (num l w.row 0)) next) where
      abbrev arc : Arc
      arc = passage_arc (read_of bs).table (row_passage l i)

      ends : next.tick ≡ num l i 5
      unfolding leaves
      ends = ap (λ (e : Rattle.model.specs.Window.Entry). e.tick) (grown.leads (message_of (num l i 6)))

      -- what is known of the component's next passage afterwards
      mine : Next bs (suc i) c next
      unfolding leaves
      mine =
          let H = (read_of bs).horizon in
          let C = component_in bs c in
          let S = schedule_in bs in
          let v = passage_at S i in
          let end : num l i 5 ≡ v.end = ap (λ (v : Passage). v.end) (row_is i h) in
          let edge : num l i 1 ≡ v.edge = ap (λ (v : Passage). v.edge) (row_is i h) in
          let m : message_of (num l i 6) ≡ v.message = ap (λ (v : Passage). v.message) (row_is i h) in
          let a = upcoming_next H c C S i _ there (o.each c present).ahead its in
          let cutting = leaves_cut (header_of (read_of bs)) C (valid_in bs (known_bytes bs b) laid.placed.valid c present) v.edge (subst (λ k. k < length C.arcs) edge (laid.placed.row i h).there) v.message v.end from in
          let is-arc : arc ≡ arc_of C v.edge = ap (arc_of C) edge in
          let step : leaves (arc_of C v.edge) v.message v.end from ≡ relocated (leads_to arc (message_of (num l i 6))) (entry_of next) = rw (← is-arc, ← m, ← end) (sym (grown.leads (message_of (num l i 6)))) in
          record {
            here = leads_to arc (message_of (num l i 6));
            ahead = subst (Upcoming H c C S (suc i)) (cutting ∙ ap (cut C) step) a;
            young = rw ends grown.young;
          }

      -- another component has what it had
      other : (d : ℕ) → d < size (read_of bs).table → (d ≡ c → ⊥) → Next bs (suc i) d (entry_at w d)
      other d k e =
          let x = o.each d k in
          record {
            here = x.here;
            ahead = upcoming_other (read_of bs).horizon d (component_in bs d) (schedule_in bs) i _ there x.ahead (λ q. e (sym q ∙ its));
            young = x.young;
          }

      pub on_next : On bs n (record { row = w.row + 1; entries = set w.entries (num l w.row 0) next })
      on_next =
          let one : suc i ≡ w.row + 1 = omega arith in
          let eight = o.eight in
          record {
            eight = length-set w.entries (num l w.row 0) next ∙ o.eight;
            among = omega arith;
            each = λ d k. by_cases (ℕ_discrete d c)
                (λ e.
                let got : get_or (set w.entries c next) d no_entry ≡ next = ap (λ (x : ℕ). get_or (set w.entries c next) x no_entry) e ∙ get_or-set_same w.entries c next no_entry (omega (arith, eight, few, present)) in
                subst (λ (x : ℕ). Next bs x d (get_or (set w.entries c next) d no_entry)) one
                (subst (Next bs (suc i) d) (sym got) (subst (λ (x : ℕ). Next bs (suc i) x next) (sym e) mine)))
                (λ e.
                let got : get_or (set w.entries c next) d no_entry ≡ entry_at w d = get_or-set_other w.entries c d next no_entry e in
                subst (λ (x : ℕ). Next bs x d (get_or (set w.entries c next) d no_entry)) one
                (subst (Next bs (suc i) d) (sym got) (other d k e)));
          }
