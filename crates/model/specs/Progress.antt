-- Beside demand 3, which speaks of every list of choices: that some list, which the call `run` takes, runs to the horizon, with every
-- observation due; and that on every path that keeps to an accepted schedule a sender has exactly one partner.
use Rattle.std.specs.Prelude.{◌≡◌, Bool, true, List, [], ◌∷◌, ◌++◌, map, ℕ, pred, ◌-◌, ◌*◌, ◌≤◌, ◌<◌, ltb, length}
use Rattle.std.proofs.Math.Option.{none, some}
use Rattle.model.specs.Lists.{only, Bytes, accepted}
use Rattle.model.specs.Table.{Table, Read, size, component_of}
use Rattle.model.specs.Reader.{read_table}
use Rattle.model.specs.Window.{channel_of}
use Rattle.model.specs.Schedule.{Passage, passage_arc, own}
use Rattle.model.specs.Checks.{may_hear, accepted_schedule_at, accepted_schedule_of, passage_at}
use Rattle.model.specs.Network.{State, Label, together, passage_in, start, may_join, follow, passages_on, Observation, observation}
use Rattle.model.specs.Run.{setting_at, offset_in, setting_to, setting_of, run, observation_width}
use Rattle.model.specs.Calls.{ran, run_call}
use Rattle.model.specs.Demand3.{PassAs, SteppedBefore, observations_of}
use Rattle.model.specs.Apart.{Permitted}

-- ## Something happens

-- the passages of component c that are ready before the tick, in order
abbrev pub ready_passages : List Passage → ℕ → ℕ → List Passage
ready_passages S c now = only (λ v. ltb v.ready now) (own c S)

-- what component c shows in all passages that are ready before the tick, in order
abbrev pub due_of : Read → List Passage → ℕ → ℕ → List Observation
due_of t S c now = map (λ v. observation (component_of t.table c) c v.entry v.edge) (ready_passages S c now)

-- These choices end with the horizon, at the tick H, and the observations of each node are those of all its passages with ready < H. Each
-- choice is a byte, and each is carried out.
pub record ReachesBy (t : Read) (H : ℕ) (S : List Passage) (choices : List ℕ) : Type 0 where
  pub end : (run (setting_to t H S) choices).end ≡ 0
  pub tick : (run (setting_to t H S) choices).state.tick ≡ H
  pub shown : (c : ℕ) → c < size t.table → observations_of c (run (setting_to t H S) choices) ≡ due_of t S c H
  pub bytes : Bytes choices
  pub used : (run (setting_to t H S) choices).state.used ≡ length choices

-- some choices do
abbrev pub Reaches : Read → ℕ → List Passage → Type 0
Reaches t H S = (choices : List ℕ) × ReachesBy t H S choices

-- Whatever was chosen: where the choices are used up and the run has not ended otherwise, some further choices do. No run gets stuck.
abbrev pub Continues : Read → ℕ → List Passage → Type 0
Continues t H S = (choices : List ℕ) → (run (setting_to t H S) choices).end ≡ 1 → (more : List ℕ) × ReachesBy t H S (choices ++ more)

-- Whatever was chosen: of no list, however long, are more than `most` choices carried out.
abbrev pub UsesAtMost : ℕ → Read → ℕ → List Passage → Type 0
UsesAtMost most t H S = (choices : List ℕ) → (run (setting_to t H S) choices).state.used ≤ most

-- For every accepted table. 14. "Are there at most 1,000,000 choices?" No run carries out more, and the choices that reach the horizon are all
-- carried out: so there are no more of them, those that were given and the further ones together.
abbrev pub Happens : Type 0
Happens =
    (bytes : List ℕ) (t : Read) (S : List Passage) → read_table bytes ≡ accepted t → accepted_schedule_of t ≡ accepted S
    → Reaches t t.horizon S × Continues t t.horizon S × UsesAtMost 1000000 t t.horizon S

-- So the call `run` refuses none of these lists, where the lent buffer holds 36 bytes for each passage (13): it answers with their run.
abbrev pub Answers : Type 0
Answers =
    (bytes : List ℕ) (t : Read) (S : List Passage) → read_table bytes ≡ accepted t → accepted_schedule_of t ≡ accepted S
    → (choices : List ℕ) → ReachesBy t t.horizon S choices
    → (lent : List ℕ) → length S * observation_width ≤ length lent → run_call bytes choices lent ≡ ran (run (setting_of t S) choices) lent

-- ## Something happens where nodes wake apart

-- These choices end with the horizon, at the common tick H, and the observations of each node are those of all its passages that are ready
-- before its own clock then. Each choice is a byte, and each is carried out.
pub record ReachesByApart (t : Read) (H : ℕ) (S : List Passage) (os choices : List ℕ) : Type 0 where
  pub end : (run (setting_at t H S os) choices).end ≡ 0
  pub tick : (run (setting_at t H S os) choices).state.tick ≡ H
  pub shown : (c : ℕ) → c < size t.table → observations_of c (run (setting_at t H S os) choices) ≡ due_of t S c (H - offset_in os c)
  pub bytes : Bytes choices
  pub used : (run (setting_at t H S os) choices).state.used ≡ length choices

abbrev pub ReachesApart : Read → ℕ → List Passage → List ℕ → Type 0
ReachesApart t H S os = (choices : List ℕ) × ReachesByApart t H S os choices

abbrev pub ContinuesApart : Read → ℕ → List Passage → List ℕ → Type 0
ContinuesApart t H S os = (choices : List ℕ) → (run (setting_at t H S os) choices).end ≡ 1 → (more : List ℕ) × ReachesByApart t H S os (choices ++ more)

abbrev pub UsesAtMostApart : ℕ → Read → ℕ → List Passage → List ℕ → Type 0
UsesAtMostApart most t H S os = (choices : List ℕ) → (run (setting_at t H S os) choices).state.used ≤ most

-- for every spread, every table accepted at it and all permitted offsets
abbrev pub HappensApart : Type 0
HappensApart =
    (G : ℕ) (bytes : List ℕ) (t : Read) (S : List Passage) → read_table bytes ≡ accepted t → accepted_schedule_at G t ≡ accepted S
    → (os : List ℕ) → Permitted G (size t.table) os
    → ReachesApart t t.horizon S os × ContinuesApart t t.horizon S os × UsesAtMostApart 1000000 t t.horizon S os

-- ## Acceptance means it

-- the schedule's passage that component c is in at the end of the path: the one beside its last passage on it
abbrev pub present_of : Table → List Passage → List Label → ℕ → Passage
present_of T S path c = passage_at (own c S) (pred (length (passages_on T c (start T) path)))

-- a path of the network, to the state s, that passes as the schedule says and misses no window
pub record OnSchedule (T : Table) (S : List Passage) (path : List Label) (s : State) : Type 0 where
  pub valid : follow T (start T) path ≡ some s
  pub scheduled : (c : ℕ) → c < size T → PassAs (passages_on T c (start T) path) (own c S)
  pub kept : (c : ℕ) → c < size T → SteppedBefore s.tick (passages_on T c (start T) path) (own c S)

-- component a is in its send window below the horizon, and has yet to step in (that the window's end has not passed follows)
pub record Sending (T : Table) (H : ℕ) (S : List Passage) (path : List Label) (s : State) (a : ℕ) : Type 0 where
  pub there : a < size T
  pub free : (passage_in s a).waiting ≡ none
  pub channel : ℕ
  pub sends : channel_of (passage_arc T (present_of T S path a)) ≡ some channel
  pub ready : (present_of T S path a).ready ≤ s.tick
  pub below : s.tick < H

-- The joint step of a and b on the edges that the schedule takes. What follows is about these edges alone: the network is the table's, and where
-- a location has several edges it may also allow one that the schedule does not take (a second receive that names the channel, say), but
-- no node ever takes that one, and a path that does no longer passes as the schedule says.
abbrev pub meet : Table → List Passage → List Label → ℕ → ℕ → Label
meet T S path a b = together a (present_of T S path a).edge b (present_of T S path b).edge

-- it is allowed
abbrev pub may_meet : Table → List Passage → List Label → State → ℕ → ℕ → Bool
may_meet T S path s a b = may_join T s a (present_of T S path a).edge b (present_of T S path b).edge

-- exactly one partner with which the joint step is allowed: the component whose receive window 11 found
pub record OnePartner (T : Table) (S : List Passage) (path : List Label) (s : State) (a : ℕ) : Type 0 where
  pub partner : ℕ
  pub allowed : may_meet T S path s a partner ≡ true
  pub hears : may_hear 0 T (present_of T S path partner) (present_of T S path a) ≡ true
  -- no other component's scheduled edge may join
  pub alone : (b : ℕ) → may_meet T S path s a b ≡ true → b ≡ partner
  -- the same by paths: with that step the path keeps to the schedule, and with no other joint step of a, on whatever edges
  pub keeps : (u : State) × OnSchedule T S (path ++ (meet T S path a partner ∷ [])) u
  pub only : (e b f : ℕ) (u : State) → OnSchedule T S (path ++ (together a e b f ∷ [])) u → together a e b f ≡ meet T S path a partner

-- for every accepted table and every such path
abbrev pub Means : Type 0
Means =
    (bytes : List ℕ) (t : Read) (S : List Passage) → read_table bytes ≡ accepted t → accepted_schedule_of t ≡ accepted S
    → (path : List Label) (s : State) → OnSchedule t.table S path s → (a : ℕ) → Sending t.table t.horizon S path s a → OnePartner t.table S path s a
