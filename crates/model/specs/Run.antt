-- Document 01, "The run": the nodes together, one choice, the whole list, and the four ways to end.
use Rattle.std.specs.Prelude.{Bool, true, false, ◌&&◌, ◌||◌, not, List, [], ◌∷◌, ◌++◌, map, ℕ, zero, suc, ◌+◌, ◌-◌, ◌/◌, ◌%◌, leb, ltb, eqb, ℤ, pos, ◌+ℤ◌, length, get_or, set}
use Rattle.std.proofs.Math.Bool.{cond}
use Rattle.std.proofs.Math.Option.{Option, none, some}
use Rattle.model.specs.declared.Pair.{Pair}
use Rattle.model.specs.Lists.{any, only, below, snoc, is_none, each, be16}
use Rattle.model.specs.Table.{Component, Table, Read, size}
use Rattle.model.specs.Bytes.{unsigned}
use Rattle.model.specs.Window.{value_at, in_range, paired}
use Rattle.model.specs.Schedule.{Passage, own}
use Rattle.model.specs.Program.{Statement, sleep, set_to, add_to, done, send, listen, age, reset, enter, trial, low, high, data_low, data_high, keep, budget, take_edge, choose, program_bytes}
use Rattle.model.specs.Network.{Work, one, two, Observation}
use Rattle.model.specs.Order.{work_tick}
use Rattle.model.specs.Machine.{Node, no_trial, start_node, part_bytes, exec, finish, with_place}

-- What a run goes by: the program's bytes, the horizon, the counts of clocks and variables of each node (for the observations), and the ready
-- of a node's k-th passage in the schedule (for lateness alone).
pub record Counts : Type 0 where
  pub clocks : ℕ
  pub variables : ℕ

pub record Setting : Type 0 where
  pub program : List ℕ
  pub horizon : ℕ
  pub counts : List Counts
  pub ready : ℕ → ℕ → Option ℕ
  -- for each node the common tick at which its clock starts
  pub offsets : List ℕ

-- the ready of passage k of these
abbrev pub ready_of_nth : List Passage → ℕ → Option ℕ
ready_of_nth [] k = none
ready_of_nth (v ∷ vs) zero = some v.ready
ready_of_nth (v ∷ vs) (suc k) = ready_of_nth vs k

-- "the run an offset for each node": 0 where none is handed
abbrev pub offset_in : List ℕ → ℕ → ℕ
offset_in os c = get_or os c 0

-- "A run is handed a table": its program, counts, and its schedule to a horizon; and offsets
abbrev pub setting_at : Read → ℕ → List Passage → List ℕ → Setting
setting_at t H S os =
    record {
      program = program_bytes t;
      horizon = H;
      counts = map (λ C. record { clocks = C.clocks; variables = C.variables }) t.table.components;
      ready = λ c k. ready_of_nth (own c S) k;
      offsets = map (offset_in os) (below (size t.table));
    }

-- all nodes start together
abbrev pub setting_to : Read → ℕ → List Passage → Setting
setting_to t H S = setting_at t H S []

-- to the table's own horizon
abbrev pub setting_of : Read → List Passage → Setting
setting_of t S = setting_to t t.horizon S

-- The run's state. With the observations stands, for each, the tick at which the node's previous work finished; and the log of finished works,
-- which the code does not keep.
pub record Run : Type 0 where
  pub tick : ℕ
  pub used : ℕ
  pub nodes : List Node
  pub observations : List Observation
  pub previous : List ℕ
  pub works : List Work

abbrev pub no_node : Node
no_node =
    record {
      rest = [];
      location = 0;
      clocks = [];
      values = [];
      t = 0;
      n = 0;
      d = 0;
      edge = 0;
      goes = none;
      tried = no_trial;
      kept = none;
      sleeps = 0;
    }

abbrev pub node_of : Run → ℕ → Node
node_of s c = get_or s.nodes c no_node

-- node c at its program's start
unfoldable pub start_nodes : List ℕ → ℕ → List Counts → List Node
start_nodes program c [] = []
start_nodes program c (k ∷ ks) = start_node (part_bytes program c) k.clocks k.variables ∷ start_nodes program (suc c) ks

-- "It starts at tick 0, no observation yet, each node at its program's start": "All nodes start together at tick 0"
abbrev pub start_run : Setting → Run
start_run g = record { tick = 0; used = 0; nodes = start_nodes g.program 0 g.counts; observations = []; previous = []; works = [] }

abbrev pub offset_of : Setting → ℕ → ℕ
offset_of g c = get_or g.offsets c 0

-- a node's own tick: "until that tick its clock stands at 0"
abbrev pub own_tick : Setting → ℕ → ℕ → ℕ
own_tick g c tick = tick - offset_of g c

-- ".. and choosing it isn't allowed"
abbrev pub awake : Setting → ℕ → ℕ → Bool
awake g c tick = leb (offset_of g c) tick

-- ## When a node's works finished

-- node c has a part in a work: it finished it alone, it sent, or it took the message
abbrev pub takes_part : ℕ → Work → Bool
takes_part c (one d k) = eqb d c
takes_part c (two a b k t) = eqb a c || eqb b c

-- the ticks at which node c's works finished, "by its own clock, for a receive the message or timeout"
abbrev pub finish_ticks : Setting → ℕ → List Work → List ℕ
finish_ticks g c ws = map (λ w. own_tick g c (work_tick w)) (only (takes_part c) ws)

-- the last of these numbers, z where there is none
abbrev pub last_of : ℕ → List ℕ → ℕ
last_of z [] = z
last_of z (n ∷ ns) = last_of n ns

-- "The first observation has 4,294,967,295 there."
abbrev pub no_work : ℕ
no_work = 4294967295

-- "the tick at which the node's previous work finished"
abbrev pub previous_finish : Setting → ℕ → List Work → ℕ
previous_finish g c ws = last_of no_work (finish_ticks g c ws)

-- ## What a node stands at

pub data Stand : Type 0 where
  -- the sleep before its work
  sleeping : Stand
  -- its work: a send, a listen, the statement that finishes an internal edge's work, an addition, another statement of it
  sending : ℕ → Stand
  listening : List Pair → Stand
  finishing : Stand
  adding : ℕ → ℤ → Stand
  working : Stand
  -- the take, and what lies between work and sleep besides
  taking : Stand
  elsewhere : Stand
  -- no statement: what the program of an accepted table never meets
  nowhere : Stand

abbrev pub stand : Statement → Stand
stand sleep = sleeping
stand (set_to v k) = working
stand (add_to v k) = adding v k
stand done = finishing
stand (send k) = sending k
stand (listen qs) = listening qs
stand (age i) = elsewhere
stand (reset i) = elsewhere
stand (enter l) = elsewhere
stand trial = elsewhere
stand (low i k) = elsewhere
stand (high i k) = elsewhere
stand (data_low v k) = elsewhere
stand (data_high v k) = elsewhere
stand (keep e) = elsewhere
stand (budget k) = elsewhere
stand take_edge = taking
stand choose = elsewhere

abbrev pub stand_at : List Statement → Stand
stand_at [] = nowhere
stand_at (s ∷ ss) = stand s

abbrev pub stand_of : Node → Stand
stand_of r = stand_at r.rest

-- "its window's end": t is the ready, d the window's length
abbrev pub window_end : Node → ℕ
window_end r = r.t + r.d

-- ## Listeners

abbrev pub names : ℕ → Stand → Bool
names k sleeping = false
names k (sending a) = false
names k (listening qs) = any (λ q. eqb q.channel k) qs
names k finishing = false
names k (adding v z) = false
names k working = false
names k taking = false
names k elsewhere = false
names k nowhere = false

-- the common tick at which node c's window began
abbrev pub began : Setting → ℕ → Node → ℕ
began g c r = r.t + offset_of g c

-- "a listener that names its channel, has taken nothing and has listened at least as long": since that common tick or longer
abbrev pub hears : Setting → ℕ → ℕ → ℕ → Node → Bool
hears g k since i r = names k (stand_of r) && is_none r.goes && leb (began g i r) since

abbrev pub listeners : Setting → Run → ℕ → ℕ → List ℕ
listeners g s c k = only (λ i. not (eqb i c) && hears g k (began g c (node_of s c)) i (node_of s i)) (below (length s.nodes))

abbrev pub pairs_at : Stand → List Pair
pairs_at sleeping = []
pairs_at (sending a) = []
pairs_at (listening qs) = qs
pairs_at finishing = []
pairs_at (adding v z) = []
pairs_at working = []
pairs_at taking = []
pairs_at elsewhere = []
pairs_at nowhere = []

-- the listener's statement is finished too; enter will go to the paired location
abbrev pub takes_message : List ℕ → ℕ → Node → Node
takes_message p k r = let q = finish p r r.rest in with_place q q.location (some (paired (pairs_at (stand_of r)) k 0))

-- ## One choice

pub data Outcome : Type 0 where
  forbidden : Outcome
  on : Run → Outcome
  -- the run ends, with document 01's number of the end, and the node
  over : Run → ℕ → ℕ → Outcome

-- "Finished sleep writes an observation": "four clocks grown by n", the variables
abbrev pub observes : ℕ → ℕ → Node → Observation
observes c tick r =
    record {
      component = c;
      edge = r.edge;
      location = r.location;
      tick = tick;
      clocks = map (λ x. x + r.n) r.clocks;
      values = r.values;
    }

module _ (s : Run) where
  -- one node moved; its observation, if it has one, comes last, with the tick that stands in it: "They stand in finishing order."
  abbrev pub moved : ℕ → Node → List Observation → List ℕ → List Work → Run
  moved c r os fs ws =
      record {
        tick = s.tick;
        used = suc s.used;
        nodes = set s.nodes c r;
        observations = s.observations ++ os;
        previous = s.previous ++ fs;
        works = s.works ++ ws;
      }

  -- "A send finishes its listener's statement too, a message between the two"
  abbrev pub messaged : ℕ → Node → ℕ → Node → ℕ → Run
  messaged c r i q k =
      record {
        tick = s.tick;
        used = suc s.used;
        nodes = set (set s.nodes c r) i q;
        observations = s.observations;
        previous = s.previous;
        works = snoc s.works (two c i k s.tick);
      }

  -- a tick has passed
  abbrev pub ticked : Run
  ticked = record { tick = suc s.tick; used = suc s.used; nodes = s.nodes; observations = s.observations; previous = s.previous; works = s.works }

module _ (g : Setting) where
  abbrev pub finished : Run → ℕ → Node
  finished s c = finish (part_bytes g.program c) (node_of s c) (node_of s c).rest

  abbrev pub sent : Run → ℕ → ℕ → List ℕ → Outcome
  sent s c k [] = forbidden
  sent s c k (i ∷ is) = on (messaged s c (finished s c) i (takes_message (part_bytes g.program i) k (node_of s i)) k)

  -- "Choice 0 to 7: that node finishes its statement." Not allowed: "a take with nothing kept; sleep unless the tick is t; a listen unless its
  -- window ends now; a send without a listener .."; and an addition out of range, which no accepted table's program meets.
  abbrev pub finishes : Run → ℕ → Stand → Outcome
  finishes s c sleeping =
      cond (eqb (own_tick g c s.tick) (node_of s c).t)
      (on (moved s c (finished s c) (observes c (own_tick g c s.tick) (node_of s c) ∷ []) (previous_finish g c s.works ∷ []) [])) forbidden
  finishes s c (sending k) = sent s c k (listeners g s c k)
  finishes s c (listening qs) =
      cond (eqb (own_tick g c s.tick) (window_end (node_of s c))) (on (moved s c (finished s c) [] [] (one c s.tick ∷ []))) forbidden
  finishes s c finishing = on (moved s c (finished s c) [] [] (one c s.tick ∷ []))
  finishes s c (adding v z) = cond (in_range (value_at (node_of s c).values v +ℤ z)) (on (moved s c (finished s c) [] [] [])) forbidden
  finishes s c working = on (moved s c (finished s c) [] [] [])
  finishes s c taking = cond (is_none (node_of s c).kept) forbidden (on (moved s c (finished s c) [] [] []))
  finishes s c elsewhere = on (moved s c (finished s c) [] [] [])
  finishes s c nowhere = forbidden

  -- "a tick while a sleep or listen is due"
  abbrev pub due : ℕ → Node → Stand → Bool
  due now r sleeping = eqb now r.t
  due now r (sending k) = false
  due now r (listening qs) = eqb now (window_end r)
  due now r finishing = false
  due now r (adding v z) = false
  due now r working = false
  due now r taking = false
  due now r elsewhere = false
  due now r nowhere = false

  unfoldable pub some_due : ℕ → ℕ → List Node → Bool
  some_due now c [] = false
  some_due now c (r ∷ rs) = cond (awake g c now && due (own_tick g c now) r (stand_of r)) true (some_due now (suc c) rs)

  -- the ready of its next passage lies before now; no next passage: never
  abbrev pub overdue : Option ℕ → ℕ → Bool
  overdue none now = false
  overdue (some ready) now = ltb ready now

  -- "Late: a tick takes a node's work past its window's end, or takes a node that has yet to reach a sleep past that sleep's ready in the schedule."
  abbrev pub late : ℕ → ℕ → Node → Stand → Bool
  late now c r sleeping = false
  late now c r (sending k) = ltb (window_end r) now
  late now c r (listening qs) = ltb (window_end r) now
  late now c r finishing = ltb (window_end r) now
  late now c r (adding v z) = ltb (window_end r) now
  late now c r working = ltb (window_end r) now
  late now c r taking = overdue (g.ready c r.sleeps) now
  late now c r elsewhere = overdue (g.ready c r.sleeps) now
  late now c r nowhere = overdue (g.ready c r.sleeps) now

  -- the late nodes, lowest first
  unfoldable pub late_nodes : ℕ → ℕ → List Node → List ℕ
  late_nodes now c [] = []
  late_nodes now c (r ∷ rs) = let rest = late_nodes now (suc c) rs in cond (late (own_tick g c now) c r (stand_of r)) (c ∷ rest) rest

  -- "2 late (lowest node)"; "0 horizon (tick H ..)"; "late before horizon". "A late tick has passed and is counted."
  abbrev pub after_tick : Run → List ℕ → Outcome
  after_tick s (c ∷ cs) = over s 2 c
  after_tick s [] = cond (eqb s.tick g.horizon) (over s 0 255) (on s)

  -- "Choice 255: a tick passes. Not allowed: any other byte; an absent node; ..": "Not allowed comes before late"
  unfoldable pub choose1 : Run → ℕ → Outcome
  unfolding some_due late_nodes exec
  choose1 s b =
      let tick = cond (some_due s.tick 0 s.nodes) forbidden (after_tick (ticked s) (late_nodes (suc s.tick) 0 s.nodes)) in
      let node = cond (ltb b (length s.nodes) && awake g b s.tick) (finishes s b (stand_of (node_of s b))) forbidden in
      cond (eqb b 255) tick node

-- ## The whole list

-- "The run ends with 0 horizon, 1 choices used up, 2 late, 3 choice not allowed; and the node (255 unless late), the tick, .. and the choices used"
pub record Result : Type 0 where
  pub end : ℕ
  pub node : ℕ
  pub state : Run

abbrev pub ends : Run → ℕ → ℕ → Result
ends s e n = record { end = e; node = n; state = s }

abbrev pub continue : Run → Outcome → (Run → Result) → Result
continue s forbidden f = ends s 3 255
continue s (on t) f = f t
continue s (over t e n) f = ends t e n

-- "each choice acts on what the last one left, and nothing else writes that"
unfoldable pub run_from : Setting → List ℕ → Run → Result
unfolding choose1
run_from g [] s = ends s 1 255
run_from g (b ∷ bs) s = continue s (choose1 g s b) (λ t. run_from g bs t)

unfoldable pub run : Setting → List ℕ → Result
unfolding run_from start_nodes
run g cs = run_from g cs (start_run g)

-- ## An observation's bytes

abbrev pub be32 : ℕ → List ℕ
be32 n = n / 16777216 % 256 ∷ n / 65536 % 256 ∷ n / 256 % 256 ∷ n % 256 ∷ []

-- "four ..; absent ones 0"
abbrev pub four : {A : Type 0} → A → List A → List A
four z [] = z ∷ z ∷ z ∷ z ∷ []
four z (a ∷ []) = a ∷ z ∷ z ∷ z ∷ []
four z (a ∷ b ∷ []) = a ∷ b ∷ z ∷ z ∷ []
four z (a ∷ b ∷ c ∷ []) = a ∷ b ∷ c ∷ z ∷ []
four z (a ∷ b ∷ c ∷ d ∷ ds) = a ∷ b ∷ c ∷ d ∷ []

-- "component, edge, location, 0, tick (4 bytes), four clocks grown by n (4 each), four variables (2 each)"
unfoldable pub observation_bytes : Observation → List ℕ
unfolding each
observation_bytes o =
    (o.component ∷ o.edge ∷ o.location ∷ 0 ∷ be32 o.tick)
    ++ (each be32 (four 0 o.clocks) ++ each (λ z. be16 (unsigned z)) (four (pos 0) o.values))

-- An observation as it is written, with the tick at which the node's previous work finished: "Each observation becomes 36 bytes".
pub record Written : Type 0 where
  pub observation : Observation
  pub previous : ℕ

abbrev pub observation_width : ℕ
observation_width = 36

-- "after the old 32 comes the tick"
abbrev pub written_bytes : Written → List ℕ
written_bytes w = observation_bytes w.observation ++ be32 w.previous

-- observations and the ticks that stand in them
abbrev pub with_ticks : List Observation → List ℕ → List Written
with_ticks [] fs = []
with_ticks (o ∷ os) [] = []
with_ticks (o ∷ os) (f ∷ fs) = record { observation = o; previous = f } ∷ with_ticks os fs

-- what a run has written
abbrev pub written_in : Run → List Written
written_in s = with_ticks s.observations s.previous
