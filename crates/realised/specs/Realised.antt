-- The converse of demand 3. Demand 3 says that every run has a path of the network. Here the other way: whatever the network allows within an
-- accepted schedule, some order of the nodes' finishing shows it, and nothing else ever shows. The programs lose none of the network's behaviour:
-- no tick of a window, no order of works within a tick, no stop in the middle of a tick.
--
-- The paths are those of `Network` (the table alone), that they keep to the schedule is `OnSchedule` (`Progress`: the fields `valid`, `scheduled`
-- and `kept` of demand 3), the run is that of `Run`, of nodes that start together, to the table's own horizon.
use Rattle.std.specs.Prelude.{◌≡◌, List, [], ◌∷◌, ◌++◌, map, ℕ, pred, ◌*◌, ◌≤◌, ◌<◌, length}
use Rattle.std.proofs.Math.Option.{some}
use Rattle.model.specs.Lists.{Bytes, accepted}
use Rattle.model.specs.Table.{Read, size, component_of}
use Rattle.model.specs.Reader.{read_table}
use Rattle.model.specs.Schedule.{Passage, own}
use Rattle.model.specs.Checks.{accepted_schedule_of}
use Rattle.model.specs.Network.{State, Label, tick, start, follow, passages_on, works_on, Observation, observations_on}
use Rattle.model.specs.Run.{setting_to, setting_of, run, observation_width}
use Rattle.model.specs.Calls.{ran, run_call}
use Rattle.model.specs.Demand3.{Begins, observations_of}
use Rattle.model.specs.Progress.{OnSchedule}

-- What the path shows of component c up to the tick: the right side of demand 3's `Observed`. "where the path stops before a component's step in,
-- the schedule's edge counts as taken from its ready on".
abbrev pub shown_on : Read → List Passage → List Label → ℕ → ℕ → List Observation
shown_on t S path now c = observations_on (component_of t.table c) c now (passages_on t.table c (start t.table) path) (map (λ v. v.edge) (own c S))

-- ## A path below the horizon

-- The run of these choices is a run of this path, which ends in the state `last`:
pub record RealisesBy (t : Read) (H : ℕ) (S : List Passage) (path : List Label) (last : State) (choices : List ℕ) : Type 0 where
  -- it ends as the choices are used up, and each of them was carried out,
  pub end : (run (setting_to t H S) choices).end ≡ 1
  pub used : (run (setting_to t H S) choices).state.used ≡ length choices
  -- at the path's tick;
  pub tick : (run (setting_to t H S) choices).state.tick ≡ last.tick
  -- the works are the path's steps in, as whole lists: the same order, ticks, nodes, partners and channels;
  pub works : (run (setting_to t H S) choices).state.works ≡ works_on t.table (start t.table) path
  -- the observations of each node are all that the path shows up to its tick, and no others;
  pub shown : (c : ℕ) → c < size t.table → observations_of c (run (setting_to t H S) choices) ≡ shown_on t S path last.tick c
  -- each choice is a byte, and the call `run` takes so many of them (14).
  pub bytes : Bytes choices
  pub few : length choices ≤ 1000000

-- Every path that keeps to an accepted schedule, and has not reached the horizon, is the path of some run.
abbrev pub Realised : Type 0
Realised =
    (bytes : List ℕ) (t : Read) (S : List Passage) → read_table bytes ≡ accepted t → accepted_schedule_of t ≡ accepted S
    → (path : List Label) (last : State) → OnSchedule t.table S path last → last.tick < t.horizon
    → (choices : List ℕ) × RealisesBy t t.horizon S path last choices

-- And no other is: a path of the network that some run has keeps to the schedule, and has not reached the horizon.
abbrev pub Only : Type 0
Only =
    (bytes : List ℕ) (t : Read) (S : List Passage) → read_table bytes ≡ accepted t → accepted_schedule_of t ≡ accepted S
    → (path : List Label) (last : State) → follow t.table (start t.table) path ≡ some last
    → (choices : List ℕ) → RealisesBy t t.horizon S path last choices
    → OnSchedule t.table S path last × (last.tick < t.horizon)

-- The two together: of the paths of the network those that some run has are exactly those that keep to the schedule, below the horizon.
abbrev pub Exactly : Type 0
Exactly =
    (bytes : List ℕ) (t : Read) (S : List Passage) → read_table bytes ≡ accepted t → accepted_schedule_of t ≡ accepted S
    → (path : List Label) (last : State) → follow t.table (start t.table) path ≡ some last
    → ((OnSchedule t.table S path last × (last.tick < t.horizon)) → (choices : List ℕ) × RealisesBy t t.horizon S path last choices)
    × (((choices : List ℕ) × RealisesBy t t.horizon S path last choices) → OnSchedule t.table S path last × (last.tick < t.horizon))

-- The call `run` refuses none of these choices, where the lent buffer holds an observation for each passage (13): it answers with the run that realises
-- the path.
abbrev pub Answered : Type 0
Answered =
    (bytes : List ℕ) (t : Read) (S : List Passage) → read_table bytes ≡ accepted t → accepted_schedule_of t ≡ accepted S
    → (path : List Label) (last : State) (choices : List ℕ) → RealisesBy t t.horizon S path last choices
    → (lent : List ℕ) → length S * observation_width ≤ length lent → run_call bytes choices lent ≡ ran (run (setting_of t S) choices) lent

-- ## Step by step

-- These choices have gone along the path: they are used up at its tick, with its works, and the observations of each node are the first of those
-- that it shows. So it is with the path that demand 3 gives for any choices that are used up (the law `run_gone`), and where choices realise a
-- path (`realised_gone`).
pub record GoneAlong (t : Read) (H : ℕ) (S : List Passage) (path : List Label) (last : State) (choices : List ℕ) : Type 0 where
  pub end : (run (setting_to t H S) choices).end ≡ 1
  pub tick : (run (setting_to t H S) choices).state.tick ≡ last.tick
  pub works : (run (setting_to t H S) choices).state.works ≡ works_on t.table (start t.table) path
  pub shown : (c : ℕ) → c < size t.table → Begins (observations_of c (run (setting_to t H S) choices)) (shown_on t S path last.tick c)

-- Whatever was chosen along the path so far, and however the path goes on within the schedule: some further choices realise it. What was chosen
-- never had to know what comes.
abbrev pub Extends : Type 0
Extends =
    (bytes : List ℕ) (t : Read) (S : List Passage) → read_table bytes ≡ accepted t → accepted_schedule_of t ≡ accepted S
    → (path : List Label) (last : State) → OnSchedule t.table S path last
    → (choices : List ℕ) → GoneAlong t t.horizon S path last choices
    → (more : List Label) (later : State) → OnSchedule t.table S (path ++ more) later → later.tick < t.horizon
    → (further : List ℕ) × RealisesBy t t.horizon S (path ++ more) later (choices ++ further)

-- ## To the horizon

-- The run of these choices is a run of this path, whose last step is the tick to the horizon. It ends with 0, the horizon. There nothing is done
-- any more, so the observations of each node are all that the path shows up to the tick before. The other fields are as below the horizon.
pub record RealisesTo (t : Read) (H : ℕ) (S : List Passage) (path : List Label) (last : State) (choices : List ℕ) : Type 0 where
  pub end : (run (setting_to t H S) choices).end ≡ 0
  pub used : (run (setting_to t H S) choices).state.used ≡ length choices
  pub tick : (run (setting_to t H S) choices).state.tick ≡ last.tick
  pub works : (run (setting_to t H S) choices).state.works ≡ works_on t.table (start t.table) path
  pub shown : (c : ℕ) → c < size t.table → observations_of c (run (setting_to t H S) choices) ≡ shown_on t S path (pred last.tick) c
  pub bytes : Bytes choices
  pub few : length choices ≤ 1000000

-- Every path that keeps to an accepted schedule and ends with the tick to the horizon is the path of some run that ends there. (Steps at the
-- horizon's own tick no run has: it is over.)
abbrev pub RealisedTo : Type 0
RealisedTo =
    (bytes : List ℕ) (t : Read) (S : List Passage) → read_table bytes ≡ accepted t → accepted_schedule_of t ≡ accepted S
    → (path : List Label) (last : State) → OnSchedule t.table S (path ++ (tick ∷ [])) last → last.tick ≡ t.horizon
    → (choices : List ℕ) × RealisesTo t t.horizon S (path ++ (tick ∷ [])) last choices

-- And no other is: a path of the network that ends with a tick, and that some run has which ends with the horizon, keeps to the schedule, and the
-- tick is the one to the horizon.
abbrev pub OnlyTo : Type 0
OnlyTo =
    (bytes : List ℕ) (t : Read) (S : List Passage) → read_table bytes ≡ accepted t → accepted_schedule_of t ≡ accepted S
    → (path : List Label) (last : State) → follow t.table (start t.table) (path ++ (tick ∷ [])) ≡ some last
    → (choices : List ℕ) → RealisesTo t t.horizon S (path ++ (tick ∷ [])) last choices
    → OnSchedule t.table S (path ++ (tick ∷ [])) last × (last.tick ≡ t.horizon)
