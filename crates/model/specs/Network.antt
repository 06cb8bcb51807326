-- Document 01, "Passage and schedule", third paragraph: the network, its steps and its paths. "It sees the table alone": no schedule,
-- candidate, program or run is used here.
use Rattle.std.specs.Prelude.{Bool, true, false, cond, ◌&&◌, not, List, [], ◌∷◌, ◌++◌, map, ℕ, suc, ◌+◌, ◌-◌, leb, ltb, eqb, ℤ, pos, length, get_or, set, replicate}
use Rattle.std.proofs.Math.Option.{Option, none, some}
use Rattle.model.specs.declared.Action.{Action}
use Rattle.model.specs.declared.Action.TheVariants.{Internal, Send, Receive}
use Rattle.model.specs.Lists.{any, is_none}
use Rattle.model.specs.Table.{Arc, Component, Table, size, component_of, arc_of, location_of}
use Rattle.model.specs.Window.{Entry, clock_at, ready_of, past_of, data_holds, updated, channel_of, listens, leaves}

-- ## States

-- what a waiting component waits in: "a waiting location for each edge and each outcome of a receive edge"
pub record Taken : Type 0 where
  pub edge : ℕ
  pub message : Option ℕ

-- One component: location, entry tick, clocks and variables at entry "and, if waiting, edge and message". Its clocks now are those at entry
-- grown by the ticks since then ("all clocks growing by 1"); its variables change only as it steps out.
pub record PathPassage : Type 0 where
  pub entry : Entry
  pub waiting : Option Taken

-- "Its state is the tick, and each component's .."
pub record State : Type 0 where
  pub tick : ℕ
  pub present : List PathPassage

abbrev pub no_path_passage : PathPassage
no_path_passage = record { entry = record { location = 0; tick = 0; clocks = []; values = [] }; waiting = none }

abbrev pub passage_in : State → ℕ → PathPassage
passage_in s c = get_or s.present c no_path_passage

-- "It starts at tick 0, each component at its initial location, none waiting." Clocks and variables start at 0.
abbrev pub start_passage : Component → PathPassage
start_passage C =
    record {
      entry = record { location = C.initial; tick = 0; clocks = replicate C.clocks 0; values = replicate C.variables (pos 0) };
      waiting = none;
    }

abbrev pub start : Table → State
start T = record { tick = 0; present = map start_passage T.components }

-- ## Where a component stands in its stay

-- the ticks since its entry
abbrev pub stayed : ℕ → PathPassage → ℕ
stayed now p = now - p.entry.tick

-- the first delay after the end of an edge
abbrev pub past_in : Component → PathPassage → ℕ → ℕ
past_in C p e = past_of (location_of C p.entry.location) (arc_of C e).clock_guards p.entry.clocks

-- "from its ready to its end"; in the schedule's words: "Work may finish at any tick of the window"
abbrev pub in_window : Component → ℕ → PathPassage → ℕ → Bool
in_window C now p e = leb (ready_of (arc_of C e).clock_guards p.entry.clocks) (stayed now p) && ltb (stayed now p) (past_in C p e)

abbrev pub before_end : Component → ℕ → PathPassage → ℕ → Bool
before_end C now p e = ltb (suc (stayed now p)) (past_in C p e)

abbrev pub at_end : Component → ℕ → PathPassage → ℕ → Bool
at_end C now p e = eqb (suc (stayed now p)) (past_in C p e)

-- ## Steps

pub data Label : Type 0 where
  tick : Label
  -- a component steps in on one of its edges, alone
  step_in : (component edge : ℕ) → Label
  -- the sender on its edge and the receiver on its own step in together
  together : (sender sends receiver receives : ℕ) → Label
  step_out : (component : ℕ) → Label

-- "A tick passes, .. unless it breaks a non-waiting component's invariant or a waiting one is at its end."
abbrev pub may_tick : Component → ℕ → PathPassage → Option Taken → Bool
may_tick C now p none =
    ltb (clock_at p.entry.clocks (location_of C p.entry.location).clock + stayed now p) (location_of C p.entry.location).bound
may_tick C now p (some w) = before_end C now p w.edge

unfoldable pub all_may_tick : ℕ → List Component → List PathPassage → Bool
all_may_tick now [] ps = true
all_may_tick now (C ∷ Cs) [] = false
all_may_tick now (C ∷ Cs) (p ∷ ps) = may_tick C now p p.waiting && all_may_tick now Cs ps

-- "A component not waiting steps in on an edge from its location whose data bounds hold and updates stay in range, from its ready to its end"
unfoldable pub may_step_in : Component → ℕ → PathPassage → ℕ → Bool
unfolding updated
may_step_in C now p e =
    is_none p.waiting && ltb e (length C.arcs) && eqb (arc_of C e).edge.source p.entry.location
    && data_holds (arc_of C e).data_guards p.entry.values
    && not (is_none (updated (arc_of C e).updates p.entry.values))
    && in_window C now p e

abbrev pub waits : PathPassage → ℕ → Option ℕ → PathPassage
waits p e m = record { entry = p.entry; waiting = some (record { edge = e; message = m }) }

-- "internal alone, .. a receive alone (timeout) only at its end"
abbrev pub alone : Component → ℕ → PathPassage → ℕ → Action → Bool
alone C now p e Internal = true
alone C now p e (Send k) = false
alone C now p e Receive = at_end C now p e

-- "a send together with one receive naming its channel": the receive
abbrev pub hears_on : Arc → Option ℕ → Bool
hears_on a none = false
hears_on a (some k) = listens a && any (λ q. eqb q.channel k) a.pairs

abbrev pub with_passage : State → ℕ → PathPassage → State
with_passage s c p = record { tick = s.tick; present = set s.present c p }

abbrev pub enters_at : Entry → PathPassage
enters_at at = record { entry = at; waiting = none }

-- "It steps out exactly at that end, with updates and resets."
abbrev pub out_of : Component → State → ℕ → PathPassage → Option Taken → Option State
out_of C s c p none = none
out_of C s c p (some w) =
    cond (at_end C s.tick p w.edge) (some (with_passage s c (enters_at (leaves (arc_of C w.edge) w.message s.tick p.entry)))) none

abbrev pub present : Table → ℕ → Bool
present T c = ltb c (size T)

-- the joint step of sender a on edge e with receiver b on edge f: two different components
abbrev pub may_join : Table → State → ℕ → ℕ → ℕ → ℕ → Bool
may_join T s a e b f =
    present T a && present T b && not (eqb a b) && may_step_in (component_of T a) s.tick (passage_in s a) e
    && may_step_in (component_of T b) s.tick (passage_in s b) f
    && hears_on (arc_of (component_of T b) f) (channel_of (arc_of (component_of T a) e))

unfoldable pub step : Table → State → Label → Option State
unfolding all_may_tick may_step_in leaves
step T s tick = cond (all_may_tick s.tick T.components s.present) (some (record { tick = suc s.tick; present = s.present })) none
step T s (step_in c e) =
    cond
    (present T c && may_step_in (component_of T c) s.tick (passage_in s c) e
    && alone (component_of T c) s.tick (passage_in s c) e (arc_of (component_of T c) e).edge.action)
    (some (with_passage s c (waits (passage_in s c) e none)))
    none
step T s (together a e b f) =
    let k = channel_of (arc_of (component_of T a) e) in
    cond (may_join T s a e b f) (some (with_passage (with_passage s a (waits (passage_in s a) e k)) b (waits (passage_in s b) f k))) none
step T s (step_out c) = cond (present T c) (out_of (component_of T c) s c (passage_in s c) (passage_in s c).waiting) none

-- ## Paths: "A path is any list of these steps from the start."

abbrev pub onward : {A : Type 0} → Option State → (State → A) → A → A
onward none f d = d
onward (some s) f d = f s

unfoldable pub follow : Table → State → List Label → Option State
unfolding step
follow T s [] = some s
follow T s (l ∷ ls) = onward (step T s l) (λ t. follow T t ls) none

-- what component c has left with this step: the passage that it steps out of
abbrev pub left_by : State → ℕ → Label → List PathPassage
left_by s c tick = []
left_by s c (step_in a e) = []
left_by s c (together a e b f) = []
left_by s c (step_out a) = cond (eqb a c) (passage_in s c ∷ []) []

-- "each component's passages on it": location, entry and, once stepped in, edge and message; those it stepped out of, then the present one
unfoldable pub passages_on : Table → ℕ → State → List Label → List PathPassage
unfolding step
passages_on T c s [] = passage_in s c ∷ []
passages_on T c s (l ∷ ls) = left_by s c l ++ onward (step T s l) (λ t. passages_on T c t ls) []

-- A work finished: a step in of one component, or the joint step of a sender and a receiver on a channel; with its tick.
pub data Work : Type 0 where
  one : (component tick : ℕ) → Work
  two : (sender receiver channel tick : ℕ) → Work

abbrev pub channel_number : Option ℕ → ℕ
channel_number none = 255
channel_number (some k) = k

abbrev pub work_by : Table → State → Label → List Work
work_by T s tick = []
work_by T s (step_in c e) = one c s.tick ∷ []
work_by T s (together a e b f) = two a b (channel_number (channel_of (arc_of (component_of T a) e))) s.tick ∷ []
work_by T s (step_out c) = []

-- the steps in on a path, in order
unfoldable pub works_on : Table → State → List Label → List Work
unfolding step
works_on T s [] = []
works_on T s (l ∷ ls) = work_by T s l ++ onward (step T s l) (λ t. works_on T t ls) []

-- ## Observations: "edge, location, values and tick at the ready of the edge taken"

pub record Observation : Type 0 where
  pub component : ℕ
  pub edge : ℕ
  pub location : ℕ
  pub tick : ℕ
  pub clocks : List ℕ
  pub values : List ℤ

-- of the stay that began at that entry, on edge e: clocks as they are at its ready
abbrev pub observation : Component → ℕ → Entry → ℕ → Observation
observation C c at e =
    let r = ready_of (arc_of C e).clock_guards at.clocks in
    record { component = c; edge = e; location = at.location; tick = at.tick + r; clocks = map (λ x. x + r) at.clocks; values = at.values }

abbrev pub taken_or : Option Taken → ℕ → ℕ
taken_or none e = e
taken_or (some w) e = w.edge

-- The observations of component c's passages up to the tick `last`. "where the path stops before a component's step in, the schedule's edge
-- counts as taken from its ready on": es are those edges, passage by passage; they serve only there.
unfoldable pub observations_on : Component → ℕ → ℕ → List PathPassage → List ℕ → List Observation
observations_on C c last [] es = []
observations_on C c last (p ∷ ps) [] = []
observations_on C c last (p ∷ ps) (e ∷ es) =
    let o = observation C c p.entry (taken_or p.waiting e) in
    let rest = observations_on C c last ps es in
    cond (leb o.tick last) (o ∷ rest) rest
