-- Document 01, "Checks, in this order", 7 to 9, "Then at each opening": the opening at which the schedule stops, and why.
use Rattle.std.specs.Prelude.{cond, List, [], ◌∷◌, ℕ, zero, suc, ◌-◌, ltb, eqb, ℤ, pos, length, set}
use Rattle.std.proofs.Math.Option.{Option, none, some}
use Rattle.model.specs.declared.Update.{Update}
use Rattle.model.specs.Lists.{only, snoc, Answer, accepted, refused}
use Rattle.model.specs.Table.{Arc, Component, Table, Read, size, component_of, location_of, arc_of}
use Rattle.model.specs.Reader.{read_table}
use Rattle.model.specs.Window.{Entry, Pick, blocked, windowless, choice, in_range, new_value}
use Rattle.model.specs.Schedule.{Passage, start_entry, opening, OpenedSoFar, begin, next, closing, opened}
use Rattle.model.specs.Checks.{limit}
use Rattle.model.specs.Run.{four}
use Rattle.opening_place.specs.declared.RefusedOpening.{RefusedOpening}

-- ## Where

-- an opening that is refused: its number, how many passages were opened before it, the component's number, the component, and how it enters its
-- location
pub record Stop : Type 0 where
  pub number : ℕ
  pub passage : ℕ
  pub component : ℕ
  pub automaton : Component
  pub entry : Entry

abbrev pub stop_at : ℕ → List Passage → ℕ → Component → Entry → Stop
stop_at number before c C at = record { number = number; passage = length before; component = c; automaton = C; entry = at }

-- an opening is refused, or the passages after it are opened
abbrev pub stops_or : List Passage → ℕ → Component → Entry → (Passage → Option Stop) → Answer Passage → Option Stop
stops_or before c C at later (accepted v) = later v
stops_or before c C at later (refused number d) = some (stop_at number before c C at)

-- "Components 0 upward open at tick 0."
unfoldable pub begin_stop : ℕ → ℕ → List Component → List Passage → Option Stop
begin_stop room c [] vs = none
begin_stop zero c (C ∷ Cs) vs = some (stop_at 7 vs c C (start_entry C))
begin_stop (suc room) c (C ∷ Cs) vs =
    stops_or vs c C (start_entry C) (λ v. begin_stop room (suc c) Cs (snoc vs v)) (opening c C (start_entry C))

-- "while the least end of an open passage is below H, that passage closes"
abbrev pub while_below_stop : ℕ → (Passage → Option Stop) → Option Passage → Option Stop
while_below_stop H on none = none
while_below_stop H on (some v) = let more = on v in cond (ltb v.end H) more none

-- ".. and its component's next opens."
unfoldable pub go_on_stop : Table → ℕ → ℕ → OpenedSoFar → Option Stop
go_on_stop T H zero p =
    while_below_stop H (λ v. some (stop_at 7 p.listed v.component (component_of T v.component) (closing T H p.listed v))) (next p.current)
go_on_stop T H (suc room) p =
    while_below_stop H
    (λ v. stops_or p.listed v.component (component_of T v.component) (closing T H p.listed v) (λ w. go_on_stop T H room (opened p w)) (opening v.component (component_of T v.component) (closing T H p.listed v)))
    (next p.current)

-- the stop at tick 0, else the stop later
abbrev pub first_or : Option Stop → Answer (List Passage) → (List Passage → Option Stop) → Option Stop
first_or s (accepted vs) later = later vs
first_or s (refused n c) later = s

-- where the schedule stops, if it does
unfoldable pub schedule_stop : ℕ → Table → ℕ → Option Stop
schedule_stop limit T H =
    first_or (begin_stop limit 0 T.components []) (begin limit 0 T.components []) (λ vs. go_on_stop T H (limit - size T) (record { listed = vs; current = vs }))

-- ## Why: 8, "Is there a candidate?"

-- the edges that leave the location entered; of these are counted those whose data bounds fail (`blocked`), and those of the rest with no window of at
-- least one tick's length, and of the budget's (`windowless`)
abbrev pub leaving : Component → Entry → List Arc
leaving C at = only (λ a. eqb a.edge.source at.location) C.arcs

pub record Reasons : Type 0 where
  pub leaving : ℕ
  pub blocked : ℕ
  pub windowless : ℕ

abbrev pub reasons : Component → Entry → Reasons
reasons C at =
    record {
      leaving = length (leaving C at);
      blocked = length (only (blocked at) (leaving C at));
      windowless = length (only (windowless (location_of C at.location) at) (leaving C at));
    }

-- ## Why: 9, "Does each update of the taken edge stay in range?"

-- the number of the first update that leaves the range, from number i on
unfoldable pub first_out : ℕ → List Update → List ℤ → Option ℕ
first_out i [] vs = none
first_out i (u ∷ us) vs = let further = first_out (suc i) us (set vs u.variable (new_value u vs)) in cond (in_range (new_value u vs)) further (some i)

pub record Overflow : Type 0 where
  pub edge : ℕ
  pub update : ℕ

abbrev pub overflow_with : ℕ → Option ℕ → Option Overflow
overflow_with edge none = none
overflow_with edge (some i) = some (record { edge = edge; update = i })

abbrev pub out_of : Component → Entry → Option Pick → Option Overflow
out_of C at none = none
out_of C at (some p) = overflow_with p.edge (first_out 0 (arc_of C p.edge).updates at.values)

-- the edge taken, and its update that leaves the range
abbrev pub overflow : Component → Entry → Option Overflow
overflow C at = out_of C at (choice C at)

-- ## What is told

-- the edge taken and its update; 255 where no update is told
abbrev pub edge_told : Option Overflow → ℕ
edge_told none = 255
edge_told (some o) = o.edge

abbrev pub update_told : Option Overflow → ℕ
update_told none = 255
update_told (some o) = o.update

-- reasons are told with 8, the update with 9
abbrev pub reasons_for : Stop → Reasons
reasons_for s = cond (eqb s.number 8) (reasons s.automaton s.entry) (record { leaving = 0; blocked = 0; windowless = 0 })

abbrev pub overflow_for : Stop → Option Overflow
overflow_for s = cond (eqb s.number 9) (overflow s.automaton s.entry) none

-- no opening is refused
abbrev pub no_opening : RefusedOpening
no_opening =
    record {
      number = 0;
      component = 255;
      passage = 0;
      location = 0;
      tick = 0;
      clocks = 0 ∷ 0 ∷ 0 ∷ 0 ∷ [];
      values = pos 0 ∷ pos 0 ∷ pos 0 ∷ pos 0 ∷ [];
      leaving = 0;
      blocked = 0;
      windowless = 0;
      edge = 255;
      update = 255;
    }

abbrev pub opening_told : Option Stop → RefusedOpening
opening_told none = no_opening
opening_told (some s) =
    record {
      number = s.number;
      component = s.component;
      passage = s.passage;
      location = s.entry.location;
      tick = s.entry.tick;
      clocks = four 0 s.entry.clocks;
      values = four (pos 0) s.entry.values;
      leaving = (reasons_for s).leaving;
      blocked = (reasons_for s).blocked;
      windowless = (reasons_for s).windowless;
      edge = edge_told (overflow_for s);
      update = update_told (overflow_for s);
    }

-- for any bytes: a table that 1 to 6 refuse has no opening
abbrev pub stop_read : Answer Read → Option Stop
stop_read (accepted t) = schedule_stop limit t.table t.horizon
stop_read (refused n c) = none

unfoldable pub table_stop : List ℕ → Option Stop
unfolding read_table schedule_stop
table_stop bs = stop_read (read_table bs)

unfoldable pub opening_of : List ℕ → RefusedOpening
unfolding table_stop first_out
opening_of bs = opening_told (table_stop bs)
