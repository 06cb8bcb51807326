-- Document 02, wish 7, "Why this edge": the passage of a component at a tick, and one reason for each edge from its location.
use Rattle.std.specs.Prelude.{◌≡◌, Bool, true, false, cond, ◌&&◌, List, [], ◌∷◌, ◌++◌, ℕ, ◌+◌, ◌*◌, ◌≤◌, ◌<◌, leb, ltb, eqb, pos, length, get_or, drop}
use Rattle.model.specs.declared.Location.{Location}
use Rattle.model.specs.declared.DataGuard.{DataGuard}
use Rattle.model.specs.declared.Reason.{Reason}
use Rattle.model.specs.declared.Reason.TheVariants.{Taken, DataBound, NoWindow, ReadyLater, HigherNumber}
use Rattle.model.specs.declared.Verdict.{Verdict}
use Rattle.model.specs.declared.Verdict.TheVariants.{Accepted, Refused}
use Rattle.model.specs.Lists.{◌∈◌, place_of, only, below, each, Answer, accepted, refused, ◌after◌}
use Rattle.model.specs.Table.{Arc, Component, Table, Read, size, component_of, location_of, arc_of}
use Rattle.model.specs.Reader.{read_table}
use Rattle.model.specs.Window.{Entry, IsWindow, Spans, ready_of, data_within, data_holds, first_failing, blocked, windowless}
use Rattle.model.specs.Schedule.{Passage}
use Rattle.model.specs.Checks.{passage_at, accepted_schedule, accepted_schedule_of}

-- ## The passage

-- of component c, "whose entry is at or before the tick and whose end lies after it"
abbrev pub passes_at : ℕ → ℕ → Passage → Bool
passes_at c t v = eqb v.component c && (leb v.entry.tick t && ltb t v.end)

-- its number in the schedule (the law `named` in proofs/Schedule/Reasoned: for a tick below H there is one, and one only)
abbrev pub passage_number : List Passage → ℕ → ℕ → ℕ
passage_number S c t = place_of (passes_at c t) S

-- ## The reasons

-- "taken; first data bound that fails; no window of at least one tick's length; ready later than the taken one; ready together with it
-- but numbered higher. Reasons are tried in that order"; wish 8: "a window shorter than the budget is under the window reason": of edge e, which is a,
-- where the edge taken at that entry is ready at that tick
abbrev pub reason_by : Location → Entry → ℕ → ℕ → ℕ → Arc → Reason
reason_by l at taken ready e a =
    let last = cond (ltb ready (at.tick + ready_of a.clock_guards at.clocks)) ReadyLater HigherNumber in
    let third = cond (windowless l at a) NoWindow last in
    let second = cond (blocked at a) (DataBound (first_failing a.data_guards at.values)) third in
    cond (eqb e taken) Taken second

-- in passage v of component C
abbrev pub reason_of : Component → Passage → ℕ → Reason
reason_of C v e = reason_by (location_of C v.entry.location) v.entry v.edge v.ready e (arc_of C e)

-- "for each edge from its location", by number
abbrev pub edges_from : Component → ℕ → List ℕ
edges_from C here = only (λ e. eqb (arc_of C e).edge.source here) (below (length C.arcs))

-- ## What each reason says. The laws `reason_true` and `reason_only` in proofs/Schedule/Reasoned: of an edge from there the reason given is true,
-- and no other is.

-- past the last data bound: nothing that is read
abbrev pub no_bound : DataGuard
no_bound = record { variable = 0; low = pos 0; high = pos 0 }

abbrev pub IsReason : Component → Passage → ℕ → Reason → Type 0
IsReason C v e Taken = e ≡ v.edge
IsReason C v e (DataBound j) =
    let gs = (arc_of C e).data_guards in
    (e ≡ v.edge → ⊥) × (j < length gs) × (data_within (get_or gs j no_bound) v.entry.values ≡ false)
    × ((i : ℕ) → i < j → data_within (get_or gs i no_bound) v.entry.values ≡ true)
IsReason C v e NoWindow =
    (e ≡ v.edge → ⊥) × (data_holds (arc_of C e).data_guards v.entry.values ≡ true)
    × ((r q : ℕ) → IsWindow (location_of C v.entry.location) (arc_of C e).clock_guards v.entry.clocks r q → r < q → Spans (arc_of C e).budget r q → ⊥)
IsReason C v e ReadyLater =
    (e ≡ v.edge → ⊥) × (data_holds (arc_of C e).data_guards v.entry.values ≡ true)
    × ((r : ℕ) × (q : ℕ) × IsWindow (location_of C v.entry.location) (arc_of C e).clock_guards v.entry.clocks r q × (r < q) × Spans (arc_of C e).budget r q
    × (v.ready < v.entry.tick + r))
IsReason C v e HigherNumber =
    (v.edge < e) × (data_holds (arc_of C e).data_guards v.entry.values ≡ true)
    × ((r : ℕ) × (q : ℕ) × IsWindow (location_of C v.entry.location) (arc_of C e).clock_guards v.entry.clocks r q × (r < q) × Spans (arc_of C e).budget r q
    × (v.entry.tick + r ≡ v.ready))

-- ## The question

-- "An absent component or a tick from H on is refused with 21"
abbrev pub askable : Read → ℕ → ℕ → Bool
askable t c k = ltb c (size t.table) && ltb k t.horizon

-- what a question names: the component, the number of its passage at the tick, and the passage
pub record Asked : Type 0 where
  pub component : Component
  pub number : ℕ
  pub passage : Passage

abbrev pub asked_in : Read → ℕ → ℕ → List Passage → Answer Asked
asked_in t c k S =
    let i = passage_number S c k in
    cond (askable t c k) (accepted (record { component = component_of t.table c; number = i; passage = passage_at S i })) (refused 21 255)

-- ".. is refused with 21, after 12": of a table's bytes, component c and tick k
unfoldable pub asked : List ℕ → ℕ → ℕ → Answer Asked
unfolding read_table accepted_schedule
asked table c k = read_table table after λ t. accepted_schedule_of t after asked_in t c k

-- ## The call

-- the number of each reason, in the request's order
abbrev pub reason_number : Reason → ℕ
reason_number Taken = 0
reason_number (DataBound j) = 1
reason_number NoWindow = 2
reason_number ReadyLater = 3
reason_number HigherNumber = 4

-- the data bound's number within the edge, 255 for none
abbrev pub reason_bound : Reason → ℕ
reason_bound Taken = 255
reason_bound (DataBound j) = j
reason_bound NoWindow = 255
reason_bound ReadyLater = 255
reason_bound HigherNumber = 255

-- three bytes an edge: its number, the reason, the data bound
abbrev pub reason_bytes : Component → Passage → ℕ → List ℕ
reason_bytes C v e = e ∷ reason_number (reason_of C v e) ∷ reason_bound (reason_of C v e) ∷ []

unfoldable pub reasons_bytes : Component → Passage → List ℕ
unfolding each
reasons_bytes C v = each (reason_bytes C v) (edges_from C v.entry.location)

-- the verdict, the number of the passage, the number of edges told, and the lent bytes afterwards
pub record ReasonsCall : Type 0 where
  pub verdict : Verdict
  pub passage : ℕ
  pub size : ℕ
  pub lent : List ℕ

abbrev pub not_told : ℕ → ℕ → List ℕ → ReasonsCall
not_told n c lent = record { verdict = Refused n c; passage = 0; size = 0; lent = lent }

-- the reasons are laid over the front of the lent bytes; 13 where these are too few
abbrev pub told : List ℕ → Answer Asked → ReasonsCall
told lent (accepted a) =
    let bytes = reasons_bytes a.component a.passage in
    let size = length (edges_from a.component a.passage.entry.location) in
    cond (leb (length bytes) (length lent)) (record { verdict = Accepted; passage = a.number; size = size; lent = bytes ++ drop (length bytes) lent }) (not_told 13 255 lent)
told lent (refused n d) = not_told n d lent

-- the call `reasons`: table, component, tick, and the bytes lent
unfoldable pub reasons_call : List ℕ → ℕ → ℕ → List ℕ → ReasonsCall
unfolding asked reasons_bytes
reasons_call table c k lent = told lent (asked table c k)

-- ## What an answer means

-- of a table with schedule S, component c and tick k
pub record Reasoned (T : Table) (S : List Passage) (c k : ℕ) (a : Asked) : Type 0 where
  pub component : a.component ≡ component_of T c
  pub passage : a.passage ≡ passage_at S a.number
  pub there : a.number < length S
  -- "the passage whose entry is at or before the tick and whose end lies after it"; there is no other
  pub own : a.passage.component ≡ c
  pub entered : a.passage.entry.tick ≤ k
  pub before : k < a.passage.end
  pub alone : (j : ℕ) → j < length S → (passage_at S j).component ≡ c → (passage_at S j).entry.tick ≤ k → k < (passage_at S j).end → j ≡ a.number
  -- "for each edge from its location exactly one reason", of which one is "taken"
  pub taken : a.passage.edge ∈ edges_from a.component a.passage.entry.location
  pub given : (e : ℕ) → e ∈ edges_from a.component a.passage.entry.location → IsReason a.component a.passage e (reason_of a.component a.passage e)
  pub only : (e : ℕ) → e ∈ edges_from a.component a.passage.entry.location → (r : Reason) → IsReason a.component a.passage e r
      → r ≡ reason_of a.component a.passage e
  -- so many bytes are enough
  pub few : length (reasons_bytes a.component a.passage) ≤ 96

-- whatever is named has that meaning, in an accepted table
abbrev pub ReasonsTrue : List ℕ → ℕ → ℕ → Type 0
ReasonsTrue bs c k =
    (a : Asked) → asked bs c k ≡ accepted a
    → (t : Read) × (S : List Passage) × (read_table bs ≡ accepted t) × (accepted_schedule_of t ≡ accepted S) × Reasoned t.table S c k a
