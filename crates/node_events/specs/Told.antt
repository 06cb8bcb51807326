-- What one call says in the words of the run (document 01, "The run"), whatever bytes and registers it is handed. The run is any run, in any state in
-- which node c has this part, stands as the registers say and has this tick on its own clock.
use Rattle.std.specs.Prelude.{◌≡◌, true, List, [], ◌∷◌, ◌++◌, ◌⊎◌, ℕ, suc, length, drop, replicate}
use Rattle.model.specs.Reader.{byte}
use Rattle.model.specs.Network.{Work, one, two, Observation}
use Rattle.model.specs.Run.{Setting, own_tick, previous_finish, Run, on, forbidden, observes, stand_of, listeners, choose1}
use Rattle.node.specs.Views.{node_of}
use Rattle.lent_node.specs.Step.{places_fit, registers_fit}
use Rattle.node_events.specs.declared.Running.{Running}
use Rattle.node_events.specs.Events.{fine, early, late, most, dones, counts_of, answering, happened_of, unbegun}
use Rattle.node_events.specs.Ties.{Chosen, Holds, Alone, Led}

-- ## One node beside the run

-- node c of the run, which has the part p, stands as the registers say, and its last work finished at the tick that they hold
pub record Beside (g : Setting) (c : ℕ) (p : List ℕ) (s : Run) (x : Running) : Type 0 where
  pub holds : Holds g c p (counts_of x) s x.registers
  pub finished : x.finished ≡ previous_finish g c s.works

-- at most four clocks and four variables, and no register beyond what a step takes
abbrev pub Fits : Running → Type 0
Fits x = (places_fit (counts_of x) ≡ true) × (registers_fit x.registers ≡ true)

-- Choices of node c, each of them allowed, lead from s to a state beside which the node stands as y. Node c alone has moved, at the same tick; it
-- wrote these observations with these ticks in them, and finished these works.
pub record Moved (g : Setting) (c : ℕ) (p : List ℕ) (s : Run) (y : Running) (os : List Observation) (fs : List ℕ) (ws : List Work) : Type 0 where
  pub state : Run
  pub chosen : Chosen g c s state
  pub alone : Alone c s state os fs ws
  pub beside : Beside g c p state y

-- A message on channel m from node c to node i: one choice of node c, which finishes the statement of both; then choices of each, up to what it waits
-- for next. Both stand as their own calls left them, the work of both is finished at this tick, and nothing else has changed.
pub record Delivered (g : Setting) (c i m : ℕ) (p p' : List ℕ) (s : Run) (y z : Running) : Type 0 where
  pub out : Run
  pub between : Run
  pub state : Run
  pub chosen : choose1 g s c ≡ on out
  pub sender_goes : Chosen g c out between
  pub listener_goes : Chosen g i between state
  pub sender : Beside g c p state y
  pub listener : Beside g i p' state z
  pub tick : state.tick ≡ s.tick
  pub observations : state.observations ≡ s.observations
  pub previous : state.previous ≡ s.previous
  pub works : state.works ≡ s.works ++ (two c i m s.tick ∷ [])
  pub count : length state.nodes ≡ length s.nodes
  pub others : (j : ℕ) → (j ≡ c → ⊥) → (j ≡ i → ⊥) → Rattle.model.specs.Run.node_of state j ≡ Rattle.model.specs.Run.node_of s j

-- ## The call `timed_node_begun`

-- a node at its program's start comes to its first sleep by choices of its own; it writes nothing and finishes nothing
abbrev pub Begins : List ℕ → ℕ → ℕ → Running → Type 0
Begins p clocks variables x = (g : Setting) (c : ℕ) (s : Run) → Beside g c p s (unbegun p clocks variables) → Moved g c p s x [] [] []

-- ## The call `timed_node_happened`: the node is handed over as x, and left as y

-- the channel that the send names at which the node stands
abbrev pub channel_of : List ℕ → Running → ℕ
channel_of p x = byte (drop x.registers.pc p) 1

module _ (p : List ℕ) (tick : ℕ) (x y : Running) where
  -- in every state of a run beside which the node stands, at this tick of its own clock
  abbrev pub Always : (Setting → ℕ → Run → Type 0) → Type 0
  Always P = (g : Setting) (c : ℕ) (s : Run) → Beside g c p s x → own_tick g c s.tick ≡ tick → P g c s

  -- 0, awake: the observation and the tick in it are the run's
  abbrev pub Woke : Type 0
  Woke = Fits x → Always (λ g c s. Moved g c p s y (observes c tick (node_of p (counts_of x) x.registers) ∷ []) (x.finished ∷ []) [])

  -- 1, the work of an internal edge done: one work for each statement that finishes one (exactly one, for a part of an accepted table)
  abbrev pub WorkDone : Type 0
  WorkDone =
      (n : ℕ) → dones most p (counts_of x) x.registers ≡ suc n
      → Always (λ g c s. Moved g c p s y [] [] (replicate (suc n) (one c s.tick)))

  -- bytes among which no statement finishes the work: no work then
  abbrev pub NoWorkDone : Type 0
  NoWorkDone = dones most p (counts_of x) x.registers ≡ 0 → Always (λ g c s. Led g c p (counts_of x) s y.registers [] [] [])

  -- 2, the message out, and a node that is the run's listener and is told of it
  abbrev pub Sends : Type 0
  Sends =
      Fits x
      → Always
      (λ g c s.
      (i : ℕ) (is : List ℕ) → listeners g s c (channel_of p x) ≡ i ∷ is
      → (p' : List ℕ) (x' : Running) → Beside g i p' s x'
      → (happened_of p' 3 (channel_of p x) (own_tick g i s.tick) x').answer ≡ fine
      → Delivered g c i (channel_of p x) p p' s y (happened_of p' 3 (channel_of p x) (own_tick g i s.tick) x'))

  -- 3, a message received, from a node that is told that it is out
  abbrev pub Receives : ℕ → Type 0
  Receives channel =
      Always
      (λ g i s.
      (c : ℕ) (is : List ℕ) → listeners g s c channel ≡ i ∷ is
      → (p' : List ℕ) (x' : Running) → Beside g c p' s x' → Fits x' → channel_of p' x' ≡ channel
      → (happened_of p' 2 channel (own_tick g c s.tick) x').answer ≡ fine
      → Delivered g c i channel p' p s (happened_of p' 2 channel (own_tick g c s.tick) x') y)

  -- 4, nothing came: a work of the node, finished at this tick
  abbrev pub NothingCame : Type 0
  NothingCame = Fits x → Always (λ g c s. Moved g c p s y [] [] (one c s.tick ∷ []))

  -- "Not allowed: .. sleep unless the tick is t; a listen unless its window ends now"
  abbrev pub NotAllowed : Type 0
  NotAllowed = Always (λ g c s. choose1 g s c ≡ forbidden)

  -- "Late: a tick takes a node's work past its window's end"
  abbrev pub Missed : Type 0
  Missed =
      Always
      (λ g c s.
      Rattle.model.specs.Run.late g tick c (Rattle.model.specs.Run.node_of s c) (stand_of (Rattle.model.specs.Run.node_of s c)) ≡ true)

pub record Told (p : List ℕ) (what channel tick : ℕ) (x y : Running) : Type 0 where
  pub woke : what ≡ 0 → y.answer ≡ fine → Woke p tick x y
  pub work_done : what ≡ 1 → y.answer ≡ fine → WorkDone p tick x y
  pub no_work_done : what ≡ 1 → y.answer ≡ fine → NoWorkDone p tick x y
  pub sends : what ≡ 2 → y.answer ≡ fine → Sends p tick x y
  pub receives : what ≡ 3 → y.answer ≡ fine → Receives p tick x y channel
  pub nothing_came : what ≡ 4 → y.answer ≡ fine → NothingCame p tick x y
  -- the wrong tick: what the run does not allow, and a work past its window's end
  pub not-allowed : (what ≡ 0) ⊎ (what ≡ 4) → (x.answer ≡ late → ⊥) → (y.answer ≡ early) ⊎ (y.answer ≡ late) → NotAllowed p tick x y
  pub missed : (what ≡ 0 → ⊥) → (x.answer ≡ late → ⊥) → y.answer ≡ late → Missed p tick x y
  -- and then the node stays as it is
  pub stays : (y.answer ≡ fine → ⊥) → y ≡ answering x y.answer
