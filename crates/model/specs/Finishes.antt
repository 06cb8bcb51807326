-- Document 02, wish 9: the tick that stands in each observation. What holds of every run of a table accepted at a spread G, for offsets up to G, as one
-- record with a field for each of its sentences. It stands beside demand 3, which speaks of "the old 32 bytes .. as before".
use Rattle.std.specs.Prelude.{◌≡◌, List, [], ◌∷◌, map, ℕ, ◌≤◌, ◌<◌, eqb, length, drop}
use Rattle.model.specs.Lists.{only, accepted}
use Rattle.model.specs.Table.{Table, Read, size}
use Rattle.model.specs.Reader.{read_table}
use Rattle.model.specs.Schedule.{Passage, own}
use Rattle.model.specs.Checks.{accepted_schedule_at, accepted_schedule_of}
use Rattle.model.specs.Network.{Label, start, works_on}
use Rattle.model.specs.Order.{work_tick}
use Rattle.model.specs.Run.{Setting, setting_at, setting_to, Result, run, takes_part, finish_ticks, no_work, written_in}
use Rattle.model.specs.Demand3.{Begins, Demand3}
use Rattle.model.specs.Apart.{Permitted}

-- the ticks that stand in the observations of node c
abbrev pub previous_of : ℕ → Result → List ℕ
previous_of c r = map (λ w. w.previous) (only (λ w. eqb w.observation.component c) (written_in r.state))

-- each in the window of the passage of its number
abbrev pub InWindows : List ℕ → List Passage → Type 0
InWindows [] vs = Unit {0}
InWindows (f ∷ fs) [] = ⊥
InWindows (f ∷ fs) (v ∷ vs) = (v.ready ≤ f) × (f ≤ v.end) × InWindows fs vs

-- ## The sentences, each of any record of a run, in any setting, and of any path. `FinishCases` holds each against right and wrong ones.

-- a tick in each observation
abbrev pub TickInEach : Result → Type 0
TickInEach result = length result.state.previous ≡ length result.state.observations

-- "The first observation has 4,294,967,295 there", each further one of a node "the tick at which the node's previous work finished, by its own clock,
-- for a receive the message or timeout"
abbrev pub TicksOfWorks : Setting → Table → Result → Type 0
TicksOfWorks g T result = (c : ℕ) → c < size T → Begins (previous_of c result) (no_work ∷ finish_ticks g c result.state.works)

-- "The tick is proved to lie in the previous window": node c's observations are those of its passages in order (`observed`), and without the first
-- tick each stands against the passage before
abbrev pub InPreviousWindows : Table → List Passage → Result → Type 0
InPreviousWindows T S result = (c : ℕ) → c < size T → InWindows (drop 1 (previous_of c result)) (own c S)

-- each is the tick of the path's step in of the passage before
abbrev pub TicksOnPath : Table → List Label → Result → Type 0
TicksOnPath T path result =
    (c : ℕ) → c < size T → Begins (previous_of c result) (no_work ∷ map work_tick (only (takes_part c) (works_on T (start T) path)))

-- ## What is said of a run

module _ (t : Read) (H : ℕ) (S : List Passage) (os cs : List ℕ) where
  pub record Finishes : Type 0 where
    pub each : TickInEach (run (setting_at t H S os) cs)
    pub ticks : TicksOfWorks (setting_at t H S os) t.table (run (setting_at t H S os) cs)
    pub in_previous : InPreviousWindows t.table S (run (setting_at t H S os) cs)

-- of these bytes, this spread, these offsets and these choices
abbrev pub FinishesApartOf : ℕ → List ℕ → List ℕ → List ℕ → Type 0
FinishesApartOf G table os choices =
    (t : Read) (S : List Passage) → read_table table ≡ accepted t → accepted_schedule_at G t ≡ accepted S → Permitted G (size t.table) os
    → Finishes t t.horizon S os choices

-- Where all nodes start together the ticks are the path's: each is that of the step in of the passage before, on the path of demand 3. (With
-- offsets the path has "a message at its sender's tick", and the receiver's own clock shows another.)
abbrev pub OnPath : (t : Read) (H : ℕ) (S : List Passage) (cs : List ℕ) → Type 0
OnPath t H S cs = (d : Demand3 t H S cs) → TicksOnPath t.table d.path (run (setting_to t H S) cs)

abbrev pub FinishesOf : List ℕ → List ℕ → Type 0
FinishesOf table choices =
    (t : Read) (S : List Passage) → read_table table ≡ accepted t → accepted_schedule_of t ≡ accepted S
    → Finishes t t.horizon S [] choices × OnPath t t.horizon S choices
