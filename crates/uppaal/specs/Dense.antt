-- Request 12: time between the ticks. UPPAAL's clocks run over the real numbers. Here they count n-ths of a tick, for every n: a path with rational
-- delays is one in n-ths, n the product of their denominators, each delay cut into n-ths.
use Rattle.std.specs.Prelude.{◌≡◌, ◌↔◌, Bool, true, false, List, [], ◌∷◌, ◌++◌, map, ℕ, suc, ◌+◌, ◌-◌, ◌*◌, ◌/◌, ◌≤◌, ◌<◌, replicate}
use Rattle.model.specs.Lists.{all, ◌∈◌}
use Rattle.model.specs.Table.{Table}
use Rattle.uppaal.specs.Xta.{Name, location, waiting, Upper, Atom, at_most, below, exactly, at_least, value_at_least, value_at_most, sum_at_least, sum_at_most, never, Assignment, sets_to, adds, resets, Transition, Location, Process, System, process_of}
use Rattle.uppaal.specs.XtaNetwork.{Stand, grown, Move, delay, alone, joint, Goes, Path}
use Rattle.uppaal.specs.Export.{system_for}

-- ## The same parts, clocks counted in n-ths of a tick: each number against which a clock is held is multiplied by n, and a delay is one n-th

abbrev pub finer_upper : ℕ → Upper → Upper
finer_upper n u = record { clock = u.clock; bound = n * u.bound }

abbrev pub finer_atom : ℕ → Atom → Atom
finer_atom n (at_most u) = at_most (finer_upper n u)
finer_atom n (below u) = below (finer_upper n u)
finer_atom n (exactly u) = exactly (finer_upper n u)
finer_atom n (at_least i k) = at_least i (n * k)
finer_atom n (value_at_least v z) = value_at_least v z
finer_atom n (value_at_most v z) = value_at_most v z
finer_atom n (sum_at_least v k z) = sum_at_least v k z
finer_atom n (sum_at_most v k z) = sum_at_most v k z
finer_atom n never = never

abbrev pub finer_transition : ℕ → Transition → Transition
finer_transition n t =
    record { source = t.source; target = t.target; guard = map (finer_atom n) t.guard; sync = t.sync; assignments = t.assignments }

abbrev pub finer_location : ℕ → Location → Location
finer_location n l = record { name = l.name; invariant = map (finer_upper n) l.invariant }

abbrev pub finer_process : ℕ → Process → Process
finer_process n P =
    record {
      clocks = P.clocks;
      variables = P.variables;
      locations = map (finer_location n) P.locations;
      initial = P.initial;
      transitions = map (finer_transition n) P.transitions;
    }

abbrev pub finer : ℕ → System → System
finer n N = record { channels = N.channels; processes = map (finer_process n) N.processes }

abbrev pub finer_move : ℕ → Move → Move
finer_move n delay = delay
finer_move n (alone p t) = alone p (finer_transition n t)
finer_move n (joint p t q u) = joint p (finer_transition n t) q (finer_transition n u)

-- a process r n-ths after it stood so at a whole tick: same location, same variables
abbrev pub counted : ℕ → ℕ → Stand → Stand
counted n r x = record { at = x.at; clocks = map (λ c. n * c + r) x.clocks; values = x.values }

-- and back: each clock divided by n
abbrev pub floored : ℕ → Stand → Stand
floored n x = record { at = x.at; clocks = map (λ c. c / n) x.clocks; values = x.values }

-- ## The steps of a path other than delays, each with its time; the time at its end

pub record Act : Type 0 where
  pub time : ℕ
  pub move : Move

unfoldable pub acts_from : ℕ → List Move → List Act
acts_from now [] = []
acts_from now (delay ∷ ms) = acts_from (suc now) ms
acts_from now (alone p t ∷ ms) = record { time = now; move = alone p t } ∷ acts_from now ms
acts_from now (joint p t q u ∷ ms) = record { time = now; move = joint p t q u } ∷ acts_from now ms

unfoldable pub time_from : ℕ → List Move → ℕ
time_from now [] = now
time_from now (delay ∷ ms) = time_from (suc now) ms
time_from now (alone p t ∷ ms) = time_from now ms
time_from now (joint p t q u ∷ ms) = time_from now ms

-- a step out: it leaves a waiting location
abbrev pub from_waiting : Name → Bool
from_waiting (location l) = false
from_waiting (waiting e m) = true

abbrev pub steps_out : Move → Bool
steps_out delay = false
steps_out (alone p t) = from_waiting t.source
steps_out (joint p t q u) = false

-- a step in n-ths, and the same step at the last whole tick that is not after it; a step out is at a whole tick as it is
pub record Brought (n : ℕ) (a b : Act) : Type 0 where
  pub rest : ℕ
  pub less : rest < n
  pub time : a.time ≡ n * b.time + rest
  pub move : a.move ≡ finer_move n b.move
  pub out : steps_out b.move ≡ true → rest ≡ 0

-- as many in both, pair by pair
pub data Pairs (R : Act → Act → Type 0) : List Act → List Act → Type 0 where
  no_more : Pairs R [] []
  pair : {a b : Act} {as' bs : List Act} → R a b → Pairs R as' bs → Pairs R (a ∷ as') (b ∷ bs)

-- ## The claim

-- of a path in n-ths, to y: there is one at whole ticks with the same steps in the same order, each at the whole tick before it or at it, to the state
-- that has y's locations and variables and the whole ticks of y's clocks
pub record Whole (N : System) (n : ℕ) (ms : List Move) (y : List Stand) : Type 0 where
  pub steps : List Move
  pub state : List Stand
  pub rest : ℕ
  pub less : rest < n
  pub path : Path N steps state
  pub same : y ≡ map (counted n rest) state
  pub time : time_from 0 ms ≡ n * time_from 0 steps + rest
  pub acts : Pairs (Brought n) (acts_from 0 ms) (acts_from 0 steps)

-- each delay cut into n
unfoldable pub cut : ℕ → List Move → List Move
cut n [] = []
cut n (delay ∷ ms) = replicate n delay ++ cut n ms
cut n (alone p t ∷ ms) = finer_move n (alone p t) ∷ cut n ms
cut n (joint p t q u ∷ ms) = finer_move n (joint p t q u) ∷ cut n ms

-- no step but delays, now or later: what the tool calls a deadlock
abbrev pub Stuck : System → List Stand → Type 0
Stuck N s = (ms : List Move) (y : List Stand) → Goes N s ms y → acts_from 0 ms ≡ []

pub record Dense (N : System) (n : ℕ) : Type 0 where
  pub whole : (ms : List Move) (y : List Stand) → Path (finer n N) ms y → Whole N n ms y
  -- and each path at whole ticks is one in n-ths
  pub finely : (ks : List Move) (z : List Stand) → Path N ks z → Path (finer n N) (cut n ks) (map (counted n 0) z)
  -- between two ticks the next one can be awaited: time stops only at a whole tick
  pub awaits : (ms : List Move) (z : List Stand) (r : ℕ) → Path (finer n N) ms (map (counted n r) z) → 0 < r → r < n
      → Path (finer n N) (ms ++ replicate (n - r) delay) (map (counted n 0) (map grown z))
  -- stuck at a whole tick in n-ths too, and not otherwise; stuck between two ticks only if so at the next
  pub stuck : (ks : List Move) (z : List Stand) → Path N ks z → Stuck N z ↔ Stuck (finer n N) (map (counted n 0) z)
  pub stuck_between : (ms : List Move) (z : List Stand) (r : ℕ) → Path (finer n N) ms (map (counted n r) z) → 0 < r → r < n
      → Stuck (finer n N) (map (counted n r) z) → Stuck N (map grown z)

-- ## For which parts: a transition that leaves a plain location resets no clock, and every other is taken only where a clock of its process is exactly
-- at a bound

abbrev pub resets_none : Assignment → Bool
resets_none (sets_to v z) = true
resets_none (adds v z) = true
resets_none (resets i) = false

pub data Punctual (P : Process) (t : Transition) : Type 0 where
  step_in : all resets_none t.assignments ≡ true → from_waiting t.source ≡ false → Punctual P t
  at_bound : (u : Upper) → exactly u ∈ t.guard → u.clock < P.clocks → Punctual P t

abbrev pub AllPunctual : System → Type 0
AllPunctual N = (p : ℕ) (t : Transition) → t ∈ (process_of N p).transitions → Punctual (process_of N p) t

-- ## Of a table's text

abbrev pub DenseTime : Table → Type 0
DenseTime T = (n : ℕ) → 1 ≤ n → Dense (system_for T) n
