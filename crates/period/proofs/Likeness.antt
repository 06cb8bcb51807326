-- Rows at which all enter, in the words of the schedule: their ticks, and the states of the components there. Assumes nothing.
use mathlib.Core.Path.{◌≡◌, sym, ap, subst, ◌∙◌}
use mathlib.Core.List.{List}
use Prim.Native.Nat.{ℕ, ◌+◌, ◌-◌, ◌≤◌, ◌<◌}
use native.Mathlib.Omega.{arith}
use lib.ListN.{take}
use Rattle.model.specs.Table.{size}
use Rattle.model.specs.Window.{Entry}
use Rattle.model.specs.Places.{read_of, component_in}
use Rattle.model.specs.Schedule.{Passage}
use Rattle.model.specs.Checks.{limit, passage_at}
use Rattle.rows.specs.Rows.{num}
use Rattle.schedule.specs.Filled.{AcceptedRows}
use Rattle.recurrence.specs.Recurrence.{timeless}
use Rattle.recurrence.proofs.Upcoming.{upcoming_row}
use Rattle.recurrence.proofs.Joint.{tick_at, JointRow, RowsAlike, joint_rise, joint_start}
use Rattle.period.specs.declared.Walker.{Walker}
use Rattle.period.specs.Walking.{schedule_in, entry_at, On, Joins, NumbersAgree, PlacesAgree}
use Rattle.period.proofs.Walks.{law, count_is, row_is}

module _ (bs l : List ℕ) (n : ℕ) (laid : AcceptedRows bs l n) (k : ℕ) (all : k ≡ size (read_of bs).table) (some : 1 ≤ k) where
  tick_is : (i : ℕ) → i < n → num l i 3 ≡ tick_at (schedule_in bs) i
  tick_is i h = ap (λ (v : Passage). v.entry.tick) (row_is bs l n laid i h)

  component_is : (i : ℕ) → i < n → num l i 0 ≡ (passage_at (schedule_in bs) i).component
  component_is i h = ap (λ (v : Passage). v.component) (row_is bs l n laid i h)

  place_is : (i : ℕ) → i < n → num l i 2 ≡ (passage_at (schedule_in bs) i).entry.location
  place_is i h = ap (λ (v : Passage). v.entry.location) (row_is bs l n laid i h)

  -- all of them are rows
  pub room : (i : ℕ) → Joins l n k i → i + k ≤ n
  room i j = let r = j (k - 1) (omega arith) in omega (arith, r.0)

  pub to_rows : (i : ℕ) → Joins l n k i → JointRow (schedule_in bs) k i
  to_rows i j c h =
      let r = j c h in
      let m : i < n = omega (arith, room i j) in
      (omega (arith, r.0, count_is bs l n laid), sym (component_is (i + c) r.0) ∙ r.1, sym (tick_is (i + c) r.0) ∙ r.2 ∙ tick_is i m)

  pub from_rows : (i : ℕ) → JointRow (schedule_in bs) k i → Joins l n k i
  from_rows i j c h =
      let r = j c h in
      let q = j 0 (omega arith) in
      let x : i + c < n = omega (arith, r.0, count_is bs l n laid) in
      let m : i < n = omega (arith, q.0, count_is bs l n laid) in
      (x, component_is (i + c) x ∙ r.1, tick_is (i + c) x ∙ r.2 ∙ sym (tick_is i m))

  -- a joint row by the number of the table's components
  pub by_size : (i : ℕ) → Joins l n k i → JointRow (schedule_in bs) (size (read_of bs).table) i
  by_size i j = subst (λ (m : ℕ). JointRow (schedule_in bs) m i) all (to_rows i j)

  pub by_count : (i : ℕ) → JointRow (schedule_in bs) (size (read_of bs).table) i → Joins l n k i
  by_count i j = from_rows i (subst (λ (m : ℕ). JointRow (schedule_in bs) m i) (sym all) j)

  pub tick-at : (i : ℕ) → Joins l n k i → num l i 3 ≡ tick_at (schedule_in bs) i
  tick-at i j = tick_is i (omega (arith, room i j))

  -- the first row is one
  pub starts_joined : Joins l n k 0
  starts_joined = by_count 0 (joint_start limit (read_of bs).table (read_of bs).horizon (schedule_in bs) (law bs l n laid) (omega (arith, all)))

  -- a later one has a later tick
  pub rows_rise : (i j : ℕ) → i < j → Joins l n k i → Joins l n k j → num l i 3 < num l j 3
  rows_rise i j h p q =
      omega (arith, tick-at i p, tick-at j q, joint_rise limit (read_of bs).table (read_of bs).horizon (schedule_in bs) (law bs l n laid) (omega (arith, all)) i j h (by_size i p) (by_size j q))

  -- ## The states

  -- the same states: the same locations
  pub same_places : (i j : ℕ) → Joins l n k i → Joins l n k j → RowsAlike (schedule_in bs) k i j → PlacesAgree l k i j
  same_places i j p q e c h = place_is (i + c) (p c h).0 ∙ ap (λ (z : Entry). z.location) (e c h) ∙ sym (place_is (j + c) (q c h).0)

  abbrev state_in : Walker → ℕ → Entry
  state_in w c =
      record {
        location = num l (w.row + c) 2;
        tick = 0;
        clocks = take (component_in bs c).clocks (entry_at w c).clocks;
        values = take (component_in bs c).variables (entry_at w c).values;
      }

  -- a component's state there, from its row and from what the walker carries
  state_is : (w : Walker) → On bs n w → Joins l n k w.row → (c : ℕ) → c < k → timeless (passage_at (schedule_in bs) (w.row + c)).entry ≡ state_in w c
  state_is w o j c h =
      let x = o.each c (omega (arith, all)) in
      let e = upcoming_row (read_of bs).horizon (schedule_in bs) k w.row (tick_at (schedule_in bs) w.row) (to_rows w.row j) c (component_in bs c) _ x.ahead h in
      let p : num l (w.row + c) 2 ≡ x.here = place_is (w.row + c) (j c h).0 ∙ ap (λ (e : Entry). e.location) e in
      ap timeless e
      ∙ ap (λ (m : ℕ). record { location = m; tick = 0; clocks = take (component_in bs c).clocks (entry_at w c).clocks; values = take (component_in bs c).variables (entry_at w c).values }) (sym p)

  -- the same locations, clocks and variables: the same states
  module _ (p q : Walker) (o : On bs n p) (u : On bs n q) (i : Joins l n k p.row) (j : Joins l n k q.row) where
    pub agree_alike : PlacesAgree l k p.row q.row → NumbersAgree bs k p q → RowsAlike (schedule_in bs) k p.row q.row
    agree_alike x y c h =
        let a = x c h in
        let b = (y c h).0 in
        let d = (y c h).1 in
        let m : state_in p c ≡ state_in q c = cc in
        state_is p o i c h ∙ m ∙ sym (state_is q u j c h)

    both : RowsAlike (schedule_in bs) k p.row q.row → (c : ℕ) → c < k → state_in p c ≡ state_in q c
    both e c h = sym (state_is p o i c h) ∙ e c h ∙ state_is q u j c h

    pub alike_places : RowsAlike (schedule_in bs) k p.row q.row → PlacesAgree l k p.row q.row
    alike_places e c h = ap (λ (z : Entry). z.location) (both e c h)

    pub alike_numbers : RowsAlike (schedule_in bs) k p.row q.row → NumbersAgree bs k p q
    alike_numbers e c h = (ap (λ (z : Entry). z.clocks) (both e c h), ap (λ (z : Entry). z.values) (both e c h))
