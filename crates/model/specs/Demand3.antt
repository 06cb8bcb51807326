-- Demand 3: what holds of every run of an accepted table's programs, as one record with a field for each of its sentences. "Demand 3 is one claim
-- about the whole list, not a claim per choice."
use Rattle.std.specs.Prelude.{◌≡◌, ◌⊎◌, Bool, true, false, cond, ◌&&◌, not, List, [], ◌∷◌, ◌++◌, map, ℕ, zero, suc, pred, ◌+◌, ◌≤◌, ◌<◌, ltb, eqb, length, get_or, take}
use Rattle.std.proofs.Math.Option.{Option, none, some}
use Rattle.model.specs.Lists.{only, Answer, accepted}
use Rattle.model.specs.Table.{Table, Read, size, component_of}
use Rattle.model.specs.Reader.{read_table}
use Rattle.model.specs.Schedule.{Passage, own}
use Rattle.model.specs.Checks.{accepted_schedule_of}
use Rattle.model.specs.Network.{State, Label, Taken, PathPassage, Work, one, two, Observation, start, follow, passages_on, works_on, observations_on}
use Rattle.model.specs.Machine.{Node}
use Rattle.model.specs.Run.{Setting, setting_to, Run, Result, Outcome, forbidden, on, over, Stand, sleeping, sending, listening, finishing, adding, working, taking, elsewhere, nowhere, stand_of, node_of, window_end, began, listeners, run, start_run, choose1}

-- ## "passes as the schedule says"

-- "location, entry and, once stepped in, edge and message"; clocks and variables at entry too
abbrev pub TakenAs : Option Taken → Passage → Type 0
TakenAs none v = Unit {0}
TakenAs (some w) v = (w.edge ≡ v.edge) × (w.message ≡ v.message)

-- "each component's passages on it are its first in the schedule"
abbrev pub PassAs : List PathPassage → List Passage → Type 0
PassAs [] vs = Unit {0}
PassAs (p ∷ ps) [] = ⊥
PassAs (p ∷ ps) (v ∷ vs) = (p.entry ≡ v.entry) × TakenAs p.waiting v × PassAs ps vs

-- every passage of the schedule that ends before the tick is on the path, stepped in
abbrev pub IsStepped : Option Taken → Type 0
IsStepped none = ⊥
IsStepped (some w) = Unit {0}

abbrev pub SteppedBefore : ℕ → List PathPassage → List Passage → Type 0
SteppedBefore t ps [] = Unit {0}
SteppedBefore t [] (v ∷ vs) = (t ≤ v.end) × SteppedBefore t [] vs
SteppedBefore t (p ∷ ps) (v ∷ vs) = (v.end < t → IsStepped p.waiting) × SteppedBefore t ps vs

-- ## What a run did

-- xs are the first of ys
pub record Begins {A : Type 0} (xs ys : List A) : Type 0 where
  pub rest : List A
  pub is : xs ++ rest ≡ ys

abbrev pub observations_of : ℕ → Result → List Observation
observations_of c r = only (λ o. eqb o.component c) r.state.observations

abbrev pub is_late_end : Result → Bool
is_late_end r = eqb r.end 2

-- the tick that the network reaches: it may be unable to pass the late tick
abbrev pub reached : Result → ℕ
reached r = cond (is_late_end r) (pred r.state.tick) r.state.tick

-- ticks among choices
unfoldable pub ticks_in : List ℕ → ℕ
ticks_in [] = 0
ticks_in (b ∷ bs) = cond (eqb b 255) (suc (ticks_in bs)) (ticks_in bs)

-- ## In the words of the schedule

-- passage k of a component lies there, and its end (its ready) lies before now
abbrev pub end_before : List Passage → ℕ → ℕ → Bool
end_before [] k now = false
end_before (v ∷ vs) zero now = ltb v.end now
end_before (v ∷ vs) (suc k) now = end_before vs k now

abbrev pub ready_before : List Passage → ℕ → ℕ → Bool
ready_before [] k now = false
ready_before (v ∷ vs) zero now = ltb v.ready now
ready_before (v ∷ vs) (suc k) now = ready_before vs k now

-- "past its window's end with its work unfinished, or past its next sleep's tick before it gets there": the passage whose sleep was finished
-- last has its end before now; the next passage has its ready before now
abbrev pub late_in : List Passage → ℕ → Node → Stand → Bool
late_in vs now r sleeping = false
late_in vs now r (sending k) = end_before vs (pred r.sleeps) now
late_in vs now r (listening qs) = end_before vs (pred r.sleeps) now
late_in vs now r finishing = end_before vs (pred r.sleeps) now
late_in vs now r (adding v z) = end_before vs (pred r.sleeps) now
late_in vs now r working = end_before vs (pred r.sleeps) now
late_in vs now r taking = ready_before vs r.sleeps now
late_in vs now r elsewhere = ready_before vs r.sleeps now
late_in vs now r nowhere = ready_before vs r.sleeps now

-- each node by its own clock, from the common tick
abbrev pub is_late_by : (ℕ → ℕ → ℕ) → List Passage → Run → ℕ → Bool
is_late_by clock S s c = late_in (own c S) (clock c s.tick) (node_of s c) (stand_of (node_of s c))

-- nodes that start together go by the common tick
abbrev pub common : ℕ → ℕ → ℕ
common c now = now

abbrev pub is_late : List Passage → Run → ℕ → Bool
is_late S s c = is_late_by common S s c

-- passage k of the component is there with that ready (end)
abbrev pub ready_is : List Passage → ℕ → ℕ → Type 0
ready_is [] k t = ⊥
ready_is (v ∷ vs) zero t = v.ready ≡ t
ready_is (v ∷ vs) (suc k) t = ready_is vs k t

abbrev pub end_is : List Passage → ℕ → ℕ → Type 0
end_is [] k t = ⊥
end_is (v ∷ vs) zero t = v.end ≡ t
end_is (v ∷ vs) (suc k) t = end_is vs k t

-- a node stands at a sleep or a listen that is due at the tick
abbrev pub DueIn : List Passage → ℕ → Node → Stand → Type 0
DueIn vs t r sleeping = ready_is vs r.sleeps t
DueIn vs t r (sending k) = ⊥
DueIn vs t r (listening qs) = end_is vs (pred r.sleeps) t
DueIn vs t r finishing = ⊥
DueIn vs t r (adding v z) = ⊥
DueIn vs t r working = ⊥
DueIn vs t r taking = ⊥
DueIn vs t r elsewhere = ⊥
DueIn vs t r nowhere = ⊥

-- it stands at one that is not due, or at a take beyond its last passage; no other statement is ever refused
abbrev pub NotDueIn : List Passage → ℕ → Node → Stand → Type 0
NotDueIn vs t r sleeping = (ready_is vs r.sleeps t → ⊥)
NotDueIn vs t r (sending k) = ⊥
NotDueIn vs t r (listening qs) = (end_is vs (pred r.sleeps) t → ⊥)
NotDueIn vs t r finishing = ⊥
NotDueIn vs t r (adding v z) = ⊥
NotDueIn vs t r working = ⊥
NotDueIn vs t r taking = length vs ≤ r.sleeps
NotDueIn vs t r elsewhere = ⊥
NotDueIn vs t r nowhere = ⊥

-- it stands at a sleep or a listen that is not due
abbrev pub EarlyIn : List Passage → ℕ → Node → Stand → Type 0
EarlyIn vs t r sleeping = (ready_is vs r.sleeps t → ⊥)
EarlyIn vs t r (sending k) = ⊥
EarlyIn vs t r (listening qs) = (end_is vs (pred r.sleeps) t → ⊥)
EarlyIn vs t r finishing = ⊥
EarlyIn vs t r (adding v z) = ⊥
EarlyIn vs t r working = ⊥
EarlyIn vs t r taking = ⊥
EarlyIn vs t r elsewhere = ⊥
EarlyIn vs t r nowhere = ⊥

-- Choices that are never carried out in state s: "any other byte; an absent node; .. sleep unless the tick is t; a listen unless its window ends
-- now; .. a tick while a sleep or listen is due", in the words of the schedule.
pub data Barred (T : Table) (S : List Passage) (s : Run) (b : ℕ) : Type 0 where
  absent : size T ≤ b → (b ≡ 255 → ⊥) → Barred T S s b
  early : b < size T → EarlyIn (own b S) s.tick (node_of s b) (stand_of (node_of s b)) → Barred T S s b
  pending : b ≡ 255 → (c : ℕ) → c < size T → DueIn (own c S) s.tick (node_of s c) (stand_of (node_of s c)) → Barred T S s b

-- a node past its sleep and yet to send: exactly one node stands at a listen that names its channel, has taken nothing, and began earlier
abbrev pub HasListener : Setting → Run → ℕ → Stand → Type 0
HasListener g s c sleeping = Unit {0}
HasListener g s c (sending k) = (i : ℕ) × (listeners g s c k ≡ i ∷ []) × (began g i (node_of s i) < began g c (node_of s c))
HasListener g s c (listening qs) = Unit {0}
HasListener g s c finishing = Unit {0}
HasListener g s c (adding v z) = Unit {0}
HasListener g s c working = Unit {0}
HasListener g s c taking = Unit {0}
HasListener g s c elsewhere = Unit {0}
HasListener g s c nowhere = Unit {0}

-- ## The states that a run goes through, after each number of choices carried out

abbrev pub further_states : Outcome → (Run → List Run) → List Run
further_states forbidden f = []
further_states (on t) f = f t
further_states (over t e n) f = t ∷ []

unfoldable pub states : Setting → List ℕ → Run → List Run
unfolding choose1
states g [] s = s ∷ []
states g (b ∷ bs) s = s ∷ further_states (choose1 g s b) (λ t. states g bs t)

-- ## The sentences of the demand, each of any path, any record of a run and any states that it went through. `Demand3` says them of the run's
-- own, by the common tick; `Demand3Apart` (`Apart`) says those that have a clock by each node's own. `DemandCases` and `ApartCases` hold each
-- against right and wrong ones.

-- one path of the network, for all nodes together
abbrev pub Valid : Table → List Label → State → Type 0
Valid T path last = follow T (start T) path ≡ some last

abbrev pub Reach : State → Result → Type 0
Reach last result = last.tick ≡ reached result

abbrev pub Scheduled : Table → List Passage → List Label → Type 0
Scheduled T S path = (c : ℕ) → c < size T → PassAs (passages_on T c (start T) path) (own c S)

abbrev pub Kept : Table → List Passage → List Label → State → Type 0
Kept T S path last = (c : ℕ) → c < size T → SteppedBefore last.tick (passages_on T c (start T) path) (own c S)

-- the steps in on the path are the works finished, in their order, at the same ticks; a message between two nodes is "on a path, their joint step"
abbrev pub Worked : Table → List Label → Result → Type 0
Worked T path result = works_on T (start T) path ≡ result.state.works

-- each node's observations are the first that the path shows of it, up to a tick of that node
abbrev pub ObservedTo : (ℕ → ℕ) → Table → List Passage → List Label → Result → Type 0
ObservedTo clock T S path result =
    (c : ℕ) → c < size T
    → Begins (observations_of c result)
    (observations_on (component_of T c) c (clock c) (passages_on T c (start T) path) (map (λ v. v.edge) (own c S)))

abbrev pub Observed : Table → List Passage → List Label → State → Result → Type 0
Observed T S path last result = ObservedTo (λ c. last.tick) T S path result

-- passages of c due before the tick
abbrev pub due_before : List Passage → ℕ → ℕ → ℕ
due_before S c now = length (only (λ v. ltb v.ready now) (own c S))

abbrev pub CompleteBy : (ℕ → ℕ → ℕ) → Table → List Passage → Result → Type 0
CompleteBy clock T S result =
    (c : ℕ) → c < size T
    → due_before S c (clock c result.state.tick) ≤ length (observations_of c result) + cond (is_late_end result && is_late_by clock S result.state c) 1 0

abbrev pub Complete : Table → List Passage → Result → Type 0
Complete T S result = CompleteBy common T S result

-- by the state after k choices carried out
module _ (T : Table) (S : List Passage) (cs : List ℕ) (result : Result) (state_after : ℕ → Run) where
  abbrev pub Listened : Setting → Type 0
  Listened g = (k : ℕ) → k ≤ result.state.used → (c : ℕ) → c < size T → HasListener g (state_after k) c (stand_of (node_of (state_after k) c))

  -- choice k is a tick that takes node c past its window's end or its next sleep
  abbrev pub TakesLateBy : (ℕ → ℕ → ℕ) → ℕ → ℕ → Type 0
  TakesLateBy clock k c = (get_or cs k 0 ≡ 255) × (is_late_by clock S (state_after (suc k)) c ≡ true)

  abbrev pub TakesLate : ℕ → ℕ → Type 0
  TakesLate = TakesLateBy common

  -- a late node at choice k: the run ends there and then, with the lowest one
  abbrev pub LateEndsBy : (ℕ → ℕ → ℕ) → Type 0
  LateEndsBy clock =
      (k : ℕ) → k < result.state.used → (c : ℕ) → c < size T → TakesLateBy clock k c → (suc k ≡ result.state.used) × (result.end ≡ 2) × (result.node ≤ c)

  abbrev pub LateEnds : Type 0
  LateEnds = LateEndsBy common

  abbrev pub LateIsBy : (ℕ → ℕ → ℕ) → Type 0
  LateIsBy clock = result.end ≡ 2 → (0 < result.state.used) × (result.node < size T) × TakesLateBy clock (pred result.state.used) result.node

  abbrev pub LateIs : Type 0
  LateIs = LateIsBy common

  -- the other way: no choice that is barred was ever carried out
  abbrev pub AllowedBut : (Run → ℕ → Type 0) → Type 0
  AllowedBut Bars = (k : ℕ) → k < result.state.used → Bars (state_after k) (get_or cs k 0) → ⊥

  abbrev pub Allowed : Type 0
  Allowed = AllowedBut (Barred T S)

abbrev pub NodeOf : Result → Type 0
NodeOf result = (result.end ≡ 2 → ⊥) → result.node ≡ 255

abbrev pub UsedOf : List ℕ → Result → Type 0
UsedOf cs result = result.state.used ≤ length cs

abbrev pub TicksOf : List ℕ → Result → Type 0
TicksOf cs result = result.state.tick ≡ ticks_in (take result.state.used cs)

abbrev pub NotBefore : ℕ → Result → (ℕ → Run) → Type 0
NotBefore H result state_after = (k : ℕ) → k < result.state.used → (state_after k).tick < H

module _ (clock : ℕ → ℕ → ℕ) (g : Setting) (T : Table) (S : List Passage) (cs : List ℕ) (result : Result) where
  -- how the run in this setting ended, and that it had not ended before
  pub data EndsBy : Type 0 where
    horizon : result.end ≡ 0 → result.state.tick ≡ g.horizon → ((c : ℕ) → c < size T → is_late_by clock S result.state c ≡ false) → EndsBy
    used_up : result.end ≡ 1 → result.state.used ≡ length cs → result.state.tick < g.horizon → EndsBy
    late : result.end ≡ 2 → EndsBy
    not_allowed : result.end ≡ 3 → result.state.used < length cs → choose1 g result.state (get_or cs result.state.used 0) ≡ forbidden → EndsBy

module _ (t : Read) (H : ℕ) (S : List Passage) (cs : List ℕ) (result : Result) where
  abbrev pub EndedBy : Type 0
  EndedBy = EndsBy common (setting_to t H S) t.table S cs result

  -- why a choice was not allowed, in the words of the schedule
  pub data RefusedBy (b : ℕ) : Type 0 where
    no_node : size t.table ≤ b → (b ≡ 255 → ⊥) → RefusedBy b
    not_due : b < size t.table → NotDueIn (own b S) result.state.tick (node_of result.state b) (stand_of (node_of result.state b)) → RefusedBy b
    due : b ≡ 255 → (c : ℕ) → c < size t.table → DueIn (own c S) result.state.tick (node_of result.state c) (stand_of (node_of result.state c))
        → RefusedBy b

  abbrev pub WhyRefused : Type 0
  WhyRefused = result.end ≡ 3 → RefusedBy (get_or cs result.state.used 0)

-- ## The demand

module _ (t : Read) (H : ℕ) (S : List Passage) (cs : List ℕ) where
  abbrev pub setting : Setting
  setting = setting_to t H S

  abbrev pub result : Result
  result = run setting cs

  -- the state after k choices carried out
  abbrev pub state_after : ℕ → Run
  state_after k = get_or (states setting cs (start_run setting)) k (start_run setting)

  -- "LateAt k c": choice k is a tick that takes node c past its window's end or its next sleep
  abbrev pub LateAt : ℕ → ℕ → Type 0
  LateAt = TakesLate t.table S cs result state_after

  abbrev pub Ended : Type 0
  Ended = EndedBy t H S cs result

  abbrev pub Refused : ℕ → Type 0
  Refused = RefusedBy t H S cs result

  pub record Demand3 : Type 0 where
    pub path : List Label
    pub last : State
    pub valid : Valid t.table path last
    pub reach : Reach last result
    pub scheduled : Scheduled t.table S path
    pub kept : Kept t.table S path last
    pub worked : Worked t.table path result
    pub observed : Observed t.table S path last result
    pub complete : Complete t.table S result
    pub listener : Listened t.table S cs result state_after setting
    pub late_ends : LateEnds t.table S cs result state_after
    pub late_is : LateIs t.table S cs result state_after
    pub node : NodeOf result
    pub used : UsedOf cs result
    pub ticks : TicksOf cs result
    pub ended : Ended
    pub not_before : NotBefore H result state_after
    pub refused : WhyRefused t H S cs result
    -- the other way: no such choice was ever carried out
    pub allowed : Allowed t.table S cs result state_after

-- for every accepted table and every list of choices
abbrev pub Promise : Type 0
Promise = (bytes : List ℕ) (t : Read) (S : List Passage) → read_table bytes ≡ accepted t → accepted_schedule_of t ≡ accepted S → (cs : List ℕ) → Demand3 t t.horizon S cs
