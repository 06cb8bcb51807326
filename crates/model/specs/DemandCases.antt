-- Demand 3's sentences held against records of runs: a right one, and wrong ones that break one sentence each. A sentence that is made weaker
-- no longer refutes its wrong records, whatever is done with its proof. `rust/demand` has the same cases.
use Rattle.std.specs.Prelude.{◌≡◌, refl, true, false, List, [], ◌∷◌, ◌++◌, ℕ, zero, suc, ◌+◌, ◌≤◌, ◌<◌, ltb, pos, get_or, set}
use Rattle.std.proofs.Common.{arith, ltb-true, ltb-false, leb-true}
use Rattle.std.proofs.lemmas.Bool.{eqb-false}
use Rattle.model.specs.Lists.{Answer, accepted}
use Rattle.model.specs.Lists.{refused as refused_answer}
use Rattle.model.specs.Table.{Table, Read}
use Rattle.model.specs.Schedule.{Passage}
use Rattle.model.specs.Checks.{accepted_schedule, accepted_schedule_of}
use Rattle.model.specs.Program.{program_bytes, part_of}
use Rattle.model.specs.Network.{State, Label, tick, together, start, onward, follow, passages_on, Work, works_on, Observation, observations_on}
use Rattle.model.specs.Machine.{Node, exec}
use Rattle.model.specs.Run.{setting_to, Run, Result, choose1, start_run, run}
use Rattle.model.specs.Demand3.{ticks_in, states, Valid, Reach, Scheduled, Kept, Worked, Observed, Complete, Listened, LateEnds, LateIs, Allowed, NodeOf, UsedOf, TicksOf, NotBefore, EndedBy, horizon, used_up, WhyRefused, Demand3}
use Rattle.model.specs.Progress.{due_of}
use Rattle.model.specs.Cases.{to_the_send}
use Rattle.model.specs.Cases.{worked as worked_table}

-- ## The sentences by name, and what is told of a run

-- the names of the record's fields
pub data Sentence : Type 0 where
  valid : Sentence
  reach : Sentence
  scheduled : Sentence
  kept : Sentence
  worked : Sentence
  observed : Sentence
  complete : Sentence
  listener : Sentence
  late_ends : Sentence
  late_is : Sentence
  node : Sentence
  used : Sentence
  ticks : Sentence
  ended : Sentence
  not_before : Sentence
  refused : Sentence
  allowed : Sentence

-- table, horizon, schedule and choices; a path and its last state; the record, and the state after each number of choices
pub record Told : Type 0 where
  pub read : Read
  pub horizon : ℕ
  pub schedule : List Passage
  pub choices : List ℕ
  pub path : List Label
  pub last : State
  pub result : Result
  pub after : ℕ → Run

abbrev pub Says : Sentence → Told → Type 0
Says valid x = Valid x.read.table x.path x.last
Says reach x = Reach x.last x.result
Says scheduled x = Scheduled x.read.table x.schedule x.path
Says kept x = Kept x.read.table x.schedule x.path x.last
Says worked x = Worked x.read.table x.path x.result
Says observed x = Observed x.read.table x.schedule x.path x.last x.result
Says complete x = Complete x.read.table x.schedule x.result
Says listener x = Listened x.read.table x.schedule x.choices x.result x.after (setting_to x.read x.horizon x.schedule)
Says late_ends x = LateEnds x.read.table x.schedule x.choices x.result x.after
Says late_is x = LateIs x.read.table x.schedule x.choices x.result x.after
Says node x = NodeOf x.result
Says used x = UsedOf x.choices x.result
Says ticks x = TicksOf x.choices x.result
Says ended x = EndedBy x.read x.horizon x.schedule x.choices x.result
Says not_before x = NotBefore x.horizon x.result x.after
Says refused x = WhyRefused x.read x.horizon x.schedule x.choices x.result
Says allowed x = Allowed x.read.table x.schedule x.choices x.result x.after

-- a path and the run's own record and states
abbrev pub told : Read → ℕ → List Passage → List ℕ → List Label → State → Told
told t H S cs path last =
    record {
      read = t;
      horizon = H;
      schedule = S;
      choices = cs;
      path = path;
      last = last;
      result = run (setting_to t H S) cs;
      after = λ k. get_or (states (setting_to t H S) cs (start_run (setting_to t H S))) k (start_run (setting_to t H S));
    }

-- these sentences are the fields of the demand
pub said : {t : Read} {H : ℕ} {S : List Passage} {cs : List ℕ} (d : Demand3 t H S cs) (f : Sentence) → Says f (told t H S cs d.path d.last)
said d valid = d.valid
said d reach = d.reach
said d scheduled = d.scheduled
said d kept = d.kept
said d worked = d.worked
said d observed = d.observed
said d complete = d.complete
said d listener = d.listener
said d late_ends = d.late_ends
said d late_is = d.late_is
said d node = d.node
said d used = d.used
said d ticks = d.ticks
said d ended = d.ended
said d not_before = d.not_before
said d refused = d.refused
said d allowed = d.allowed

-- ## Records to be told

abbrev pub visits_of : Answer (List Passage) → List Passage
visits_of (accepted S) = S
visits_of (refused_answer n c) = []

abbrev pub last_of : Table → List Label → State
last_of T path = onward (follow T (start T) path) (λ s. s) (start T)

-- of a table, with its own schedule: the run under these choices, and this path
abbrev pub of_run : Read → List ℕ → List Label → Told
of_run t cs path = told t t.horizon (visits_of (accepted_schedule_of t)) cs path (last_of t.table path)

-- the same with another record, other states, another horizon
abbrev pub recorded : Told → Result → Told
recorded x r =
    record { read = x.read; horizon = x.horizon; schedule = x.schedule; choices = x.choices; path = x.path; last = x.last; result = r; after = x.after }

abbrev pub through : Told → Run → Told
through x s =
    record { read = x.read; horizon = x.horizon; schedule = x.schedule; choices = x.choices; path = x.path; last = x.last; result = x.result; after = λ k. s }

abbrev pub to_horizon : Told → ℕ → Told
to_horizon x H =
    record { read = x.read; horizon = H; schedule = x.schedule; choices = x.choices; path = x.path; last = x.last; result = x.result; after = x.after }

-- of the ticks in the observations demand 3 says nothing (`FinishCases`)
abbrev pub run_of : ℕ → ℕ → List Node → List Observation → List Work → Run
run_of now count nodes observations works = record { tick = now; used = count; nodes = nodes; observations = observations; previous = []; works = works }

-- it says this end and this node
abbrev pub ending : Told → ℕ → ℕ → Told
ending x end who = recorded x (record { end = end; node = who; state = x.result.state })

-- this tick and so many choices used
abbrev pub counting : Told → ℕ → ℕ → Told
counting x now count =
    let s = x.result.state in
    recorded x (record { end = x.result.end; node = x.result.node; state = run_of now count s.nodes s.observations s.works })

-- these observations
abbrev pub showing : Told → List Observation → Told
showing x os =
    let s = x.result.state in
    recorded x (record { end = x.result.end; node = x.result.node; state = run_of s.tick s.used s.nodes os s.works })

-- these works finished
abbrev pub finishing : Told → List Work → Told
finishing x ws =
    let s = x.result.state in
    recorded x (record { end = x.result.end; node = x.result.node; state = run_of s.tick s.used s.nodes s.observations ws })

-- with these registers of the hub
abbrev pub hub_at : Told → Node → Told
hub_at x r =
    let s = x.result.state in
    through x (run_of s.tick s.used (set s.nodes 1 r) s.observations s.works)

-- a node's registers with another t
abbrev pub since : Node → ℕ → Node
since r t =
    record { rest = r.rest; location = r.location; clocks = r.clocks; values = r.values; t = t; n = r.n; d = r.d; edge = r.edge; goes = r.goes; tried = r.tried; kept = r.kept; sleeps = r.sleeps }

-- ## The right one: the worked table, the message at 3

abbrev pub to_the_message : List Label
to_the_message = tick ∷ tick ∷ tick ∷ together 0 0 1 0 ∷ []

abbrev pub right : Told
right = of_run (worked_table 20) (to_the_send ++ (0 ∷ 1 ∷ 1 ∷ 1 ∷ [])) to_the_message

-- an observation of each: edge, location, tick, clock, and hub's variable
abbrev pub of_probe : ℕ → ℕ → ℕ → ℕ → Observation
of_probe edge location now clock = record { component = 0; edge = edge; location = location; tick = now; clocks = clock ∷ []; values = [] }

abbrev pub of_hub : ℕ → ℕ → ℕ → ℕ → ℕ → Observation
of_hub edge location now clock value =
    record { component = 1; edge = edge; location = location; tick = now; clocks = clock ∷ []; values = pos value ∷ [] }

-- the sentence does not hold of it
abbrev pub Not : Sentence → Told → Type 0
Not f x = Says f x → ⊥

-- What is right: these sentences of it (`promised` has all of them, of every run); its observations in bytes are those of `Cases`; and what is due of
-- each node by the horizon, passage by passage.
abbrev pub Rights : Type 0
Rights =
    Says valid right × Says reach right × Says scheduled right × Says kept right × Says worked right × Says observed right × Says complete right
    × Says late_is right
    × Says node right
    × Says used right
    × Says ticks right
    × Says ended right
    × Says refused right
    × (right.result.state.observations ≡ of_hub 0 0 2 2 0 ∷ of_probe 0 0 3 3 ∷ [])
    × (due_of right.read right.schedule 0 20 ≡ of_probe 0 0 3 3 ∷ of_probe 1 1 8 8 ∷ of_probe 0 0 13 3 ∷ of_probe 1 1 18 8 ∷ [])
    × (due_of right.read right.schedule 1 20 ≡ of_hub 0 0 2 2 0 ∷ of_hub 1 1 9 9 0 ∷ of_hub 0 0 12 2 1 ∷ of_hub 1 1 19 9 1 ∷ [])

-- numbers that are not in order
pub not_less : (a b : ℕ) → ltb a b ≡ false → a < b → ⊥
not_less a b e h = absurd (omega (arith, ltb-false a b e))

pub not_most : (a b : ℕ) → ltb b a ≡ true → a ≤ b → ⊥
not_most a b e h = absurd (omega (arith, ltb-true b a e))

pub neither : (c : ℕ) {A : Type 0} → suc (suc c) < 2 → A
neither c h = absurd (omega arith)

pub rights_hold : Rights
unfolding accepted_schedule follow passages_on works_on observations_on run program_bytes part_of choose1 exec states ticks_in
rights_hold = (
  refl,
  refl,
  passed,
  stepped,
  refl,
  shown,
  counted,
  λ e. absurd (eqb-false 1 2 refl e),
  λ e. refl,
  leb-true 19 19 refl,
  refl,
  used_up refl refl (ltb-true 3 20 refl),
  λ e. absurd (eqb-false 1 3 refl e),
  refl,
  refl,
  refl,
)
  where
    passed : Says scheduled right
    passed zero h = (refl, (refl, refl), tt)
    passed (suc zero) h = (refl, (refl, refl), tt)
    passed (suc (suc c)) h = neither c h

    stepped : Says kept right
    stepped zero h = ((λ e. tt), (leb-true 3 10 refl, (leb-true 3 15 refl, (leb-true 3 20 refl, tt))))
    stepped (suc zero) h = ((λ e. tt), (leb-true 3 10 refl, (leb-true 3 16 refl, (leb-true 3 20 refl, tt))))
    stepped (suc (suc c)) h = neither c h

    shown : Says observed right
    shown zero h = record { rest = []; is = refl }
    shown (suc zero) h = record { rest = []; is = refl }
    shown (suc (suc c)) h = neither c h

    counted : Says complete right
    counted zero h = leb-true 0 1 refl
    counted (suc zero) h = leb-true 1 1 refl
    counted (suc (suc c)) h = neither c h
