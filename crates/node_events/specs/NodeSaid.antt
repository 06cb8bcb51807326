-- What the contracts of a node's calls say, spelt out without the names of their records: a hypothesis more in one of them, or a field less, no longer
-- gives these. And wrong records that they refute.
use Rattle.std.specs.Prelude.{◌≡◌, refl, true, false, List, [], ◌∷◌, ◌++◌, ◌⊎◌, ℕ, suc, ◌+◌, ◌≤◌, ◌<◌, length, drop, replicate}
use native.Mathlib.Omega.{arith}
use Rattle.std.proofs.Common.{inl, inr}
use Rattle.model.specs.Lists.{accepted}
use Rattle.model.specs.Table.{Read, size}
use Rattle.model.specs.Reader.{byte, read_table}
use Rattle.model.specs.Schedule.{Passage}
use Rattle.model.specs.Checks.{accepted_schedule_at, accepted_schedule_of}
use Rattle.model.specs.Network.{Work, one, two, Observation}
use Rattle.model.specs.Machine.{part_bytes}
use Rattle.model.specs.Run.{Setting, setting_at, setting_of, offset_of, own_tick, previous_finish, Run, on, forbidden, observes, stand_of, listeners, choose1, ends, run}
use Rattle.model.specs.Demand3.{Demand3}
use Rattle.model.specs.Apart.{Permitted, Demand3Apart}
use Rattle.node.specs.Views.{node_of}
use Rattle.lent_node.specs.Step.{places_fit, registers_fit}
use Rattle.node_events.specs.declared.Running.{Running}
use Rattle.node_events.specs.Events.{op_of, most, dones, counts_of, answering, happened_of, unbegun}
use Rattle.node_events.specs.Ties.{Chosen}
use Rattle.node_events.specs.Told.{Beside, Moved, Delivered, Begins, Told}
use Rattle.node_events.specs.Lived.{Event, begins, wakes, works, hears_nothing, message, Entry, Scene, start_scene, node_in, at_tick, told, view_of, played, after_event, Answered, Realised, EveryLog, InTime}

-- ## One call

-- node c of a run that has this part, is awake at this tick of its own clock, and stands as the call is handed it
abbrev Stands : Setting → ℕ → List ℕ → Run → Running → Type 0
Stands g c p s x =
    (part_bytes g.program c ≡ p) × (c < 255) × (c < length s.nodes) × (offset_of g c ≤ s.tick)
    × (Rattle.model.specs.Run.node_of s c ≡ node_of p (counts_of x) x.registers)
    × (x.finished ≡ previous_finish g c s.works)

beside : {g : Setting} {c : ℕ} {p : List ℕ} {s : Run} {x : Running} → Stands g c p s x → Beside g c p s x
beside h = record { holds = record { part = h.0; low = h.1; here = h.2; awake = h.3; node = h.4 }; finished = h.5 }

stands : {g : Setting} {c : ℕ} {p : List ℕ} {s : Run} {x : Running} → Beside g c p s x → Stands g c p s x
stands b = (b.holds.part, b.holds.low, b.holds.here, b.holds.awake, b.holds.node, b.finished)

-- choices of node c lead on from s: to the same tick, with what it wrote and finished, and no other node moved
abbrev Goes : Setting → ℕ → List ℕ → Run → Running → List Observation → List ℕ → List Work → Type 0
Goes g c p s y os fs ws =
    (u : Run) × Chosen g c s u × Stands g c p u y × (u.tick ≡ s.tick) × (u.observations ≡ s.observations ++ os)
    × (u.previous ≡ s.previous ++ fs)
    × (u.works ≡ s.works ++ ws)
    × (length u.nodes ≡ length s.nodes)
    × ((i : ℕ) → (i ≡ c → ⊥) → Rattle.model.specs.Run.node_of u i ≡ Rattle.model.specs.Run.node_of s i)

goes : {g : Setting} {c : ℕ} {p : List ℕ} {s : Run} {y : Running} {os : List Observation} {fs : List ℕ} {ws : List Work}
    → Moved g c p s y os fs ws → Goes g c p s y os fs ws
goes m = (
  m.state,
  m.chosen,
  stands m.beside,
  m.alone.tick,
  m.alone.observations,
  m.alone.previous,
  m.alone.works,
  m.alone.count,
  m.alone.others,
)

-- a message: one choice, which finishes the statement of both, then choices of each
abbrev Passes : Setting → ℕ → ℕ → ℕ → List ℕ → List ℕ → Run → Running → Running → Type 0
Passes g c i m p p' s y z =
    (out : Run) × (between : Run) × (u : Run) × (choose1 g s c ≡ on out) × Chosen g c out between × Chosen g i between u × Stands g c p u y
    × Stands g i p' u z
    × (u.tick ≡ s.tick)
    × (u.observations ≡ s.observations)
    × (u.previous ≡ s.previous)
    × (u.works ≡ s.works ++ (two c i m s.tick ∷ []))
    × (length u.nodes ≡ length s.nodes)
    × ((j : ℕ) → (j ≡ c → ⊥) → (j ≡ i → ⊥) → Rattle.model.specs.Run.node_of u j ≡ Rattle.model.specs.Run.node_of s j)

passes : {g : Setting} {c i m : ℕ} {p p' : List ℕ} {s : Run} {y z : Running} → Delivered g c i m p p' s y z → Passes g c i m p p' s y z
passes d = (
  d.out,
  d.between,
  d.state,
  d.chosen,
  d.sender_goes,
  d.listener_goes,
  stands d.sender,
  stands d.listener,
  d.tick,
  d.observations,
  d.previous,
  d.works,
  d.count,
  d.others,
)

pub begins_say : (p : List ℕ) (clocks variables : ℕ) (x : Running) → Begins p clocks variables x → (g : Setting) (c : ℕ) (s : Run)
    → Stands g c p s (unbegun p clocks variables) → Goes g c p s x [] [] []
begins_say p clocks variables x d g c s h = goes (d g c s (beside h))

module _ (p : List ℕ) (channel : ℕ) (x y : Running) (g : Setting) (c : ℕ) (s : Run) (h : Stands g c p s x) where
  abbrev now : ℕ
  now = own_tick g c s.tick

  abbrev channel-of : List ℕ → Running → ℕ
  channel-of q z = byte (drop z.registers.pc q) 1

  module _ (e : y.answer ≡ 0) where
    module _ (a : places_fit (counts_of x) ≡ true) (b : registers_fit x.registers ≡ true) where
      pub awake_says : Told p 0 channel now x y → Goes g c p s y (observes c now (node_of p (counts_of x) x.registers) ∷ []) (x.finished ∷ []) []
      awake_says d = goes (d.woke refl e (a, b) g c s (beside h) refl)

      pub nothing_says : Told p 4 channel now x y → Goes g c p s y [] [] (one c s.tick ∷ [])
      nothing_says d = goes (d.nothing_came refl e (a, b) g c s (beside h) refl)

      pub out_says : Told p 2 channel now x y → (i : ℕ) (is : List ℕ) → listeners g s c (channel-of p x) ≡ i ∷ is
          → (p' : List ℕ) (x' : Running) → Stands g i p' s x' → (happened_of p' 3 (channel-of p x) (own_tick g i s.tick) x').answer ≡ 0
          → Passes g c i (channel-of p x) p p' s y (happened_of p' 3 (channel-of p x) (own_tick g i s.tick) x')
      out_says d i is to p' x' h' e' = passes (d.sends refl e (a, b) g c s (beside h) refl i is to p' x' (beside h') e')

    pub work_says : Told p 1 channel now x y → (n : ℕ) → dones most p (counts_of x) x.registers ≡ suc n
        → Goes g c p s y [] [] (replicate (suc n) (one c s.tick))
    work_says d n q = goes (d.work_done refl e n q g c s (beside h) refl)

    pub no_work_says : Told p 1 channel now x y → dones most p (counts_of x) x.registers ≡ 0
        → (u : Run) × Chosen g c s u × (Rattle.model.specs.Run.node_of u c ≡ node_of p (counts_of x) y.registers) × (u.works ≡ s.works ++ [])
    no_work_says d q = let a = d.no_work_done refl e q g c s (beside h) refl in (a.state, a.chosen, a.holds.node, a.alone.works)

    pub received_says : Told p 3 channel now x y → (sender : ℕ) (is : List ℕ) → listeners g s sender channel ≡ c ∷ is
        → (p' : List ℕ) (x' : Running) → Stands g sender p' s x' → places_fit (counts_of x') ≡ true → registers_fit x'.registers ≡ true
        → channel-of p' x' ≡ channel → (happened_of p' 2 channel (own_tick g sender s.tick) x').answer ≡ 0
        → Passes g sender c channel p' p s (happened_of p' 2 channel (own_tick g sender s.tick) x') y
    received_says d sender is to p' x' h' a b m e' = passes (d.receives refl e g c s (beside h) refl sender is to p' x' (beside h') (a, b) m e')

  -- at another tick the run does not allow it, or the work is late
  module _ (n : x.answer ≡ 3 → ⊥) where
    pub asleep_says : Told p 0 channel now x y → (y.answer ≡ 1) ⊎ (y.answer ≡ 3) → choose1 g s c ≡ forbidden
    asleep_says d q = d.not-allowed (inl refl) n q g c s (beside h) refl

    pub listening_says : Told p 4 channel now x y → (y.answer ≡ 1) ⊎ (y.answer ≡ 3) → choose1 g s c ≡ forbidden
    listening_says d q = d.not-allowed (inr refl) n q g c s (beside h) refl

    pub late_says : (what : ℕ) → (what ≡ 0 → ⊥) → Told p what channel now x y → y.answer ≡ 3
        → Rattle.model.specs.Run.late g now c (Rattle.model.specs.Run.node_of s c) (stand_of (Rattle.model.specs.Run.node_of s c)) ≡ true
    late_says what z d q = d.missed z n q g c s (beside h) refl

pub stays_says : (p : List ℕ) (what channel tick : ℕ) (x y : Running) → Told p what channel tick x y → (y.answer ≡ 0 → ⊥)
    → y ≡ answering x y.answer
stays_says p what channel tick x y d n = d.stays n

-- ## Any log

module _ (g : Setting) where
  -- no node is behind at a tick, by what it stands at
  abbrev on_time : Scene → ℕ → ℕ → Type 0
  on_time x n c =
      (op_of (part_bytes g.program c) (node_in x c).registers ≡ 0 → own_tick g c n ≤ (node_in x c).registers.t)
      × (1 ≤ op_of (part_bytes g.program c) (node_in x c).registers → op_of (part_bytes g.program c) (node_in x c).registers ≤ 5
      → own_tick g c n ≤ (node_in x c).registers.t + (node_in x c).registers.d)
      × (node_in x c ≡ unbegun (part_bytes g.program c) (node_in x c).clocks (node_in x c).variables → n ≤ offset_of g c)

  pub in_time_says : (x : Scene) (n : ℕ) → ((c : ℕ) → c < length x.nodes → on_time x n c) → InTime g x n
  in_time_says x n f c l = let a = f c l in record { sleep = a.0; work = a.1; start = a.2 }

  -- a log without an entry is as it should be where none is
  pub end_says : (x : Scene) → ((c : ℕ) → c < length x.nodes → on_time x x.tick c) → Answered g [] x
  unfolding Answered
  end_says x f = in_time_says x x.tick f

  abbrev asked : Event → Scene → Type 0
  asked (begins c) x =
      (x.tick ≡ offset_of g c) × (c < length x.nodes) × (node_in x c ≡ unbegun (part_bytes g.program c) (node_in x c).clocks (node_in x c).variables)
  asked (wakes c) x = (c < length x.nodes) × (offset_of g c ≤ x.tick) × ((told g x c 0 0).answer ≡ 0)
  asked (works c) x = (c < length x.nodes) × (offset_of g c ≤ x.tick) × ((told g x c 1 0).answer ≡ 0)
  asked (hears_nothing c) x = (c < length x.nodes) × (offset_of g c ≤ x.tick) × ((told g x c 4 0).answer ≡ 0)
  asked (message c i m) x =
      (c < length x.nodes) × (offset_of g c ≤ x.tick) × (i < length x.nodes) × (offset_of g i ≤ x.tick) × (i ≡ c → ⊥)
      × ((told g x c 2 m).answer ≡ 0)
      × ((told g x i 3 m).answer ≡ 0)
      × (byte (drop (node_in x c).registers.pc (part_bytes g.program c)) 1 ≡ m)
      × ((node_in x i).registers.t + offset_of g i ≤ (node_in x c).registers.t + offset_of g c)

  -- one entry more in front: what is asked of it gives it
  pub entry_says : (n : ℕ) (e : Event) (es : List Entry) (x : Scene) → x.tick ≤ n → n < g.horizon → asked e (at_tick x n)
      → Answered g es (after_event g (at_tick x n) e) → Answered g (record { tick = n; event = e } ∷ es) x
  unfolding Answered
  entry_says n (begins c) es x l m a r = (l, m, a.0, ((a.1, first a.0), a.2), r)
    where
      first : n ≡ offset_of g c → offset_of g c ≤ n
      first q = omega arith
  entry_says n (wakes c) es x l m a r = (l, m, tt, ((a.0, a.1), a.2), r)
  entry_says n (works c) es x l m a r = (l, m, tt, ((a.0, a.1), a.2), r)
  entry_says n (hears_nothing c) es x l m a r = (l, m, tt, ((a.0, a.1), a.2), r)
  entry_says n (message c i k) es x l m a r = (l, m, tt, ((a.0, a.1), (a.2, a.3), a.4, a.5, a.6, a.7, a.8), r)

module _ (every : EveryLog) (bytes : List ℕ) (t : Read) (S : List Passage) (r : read_table bytes ≡ accepted t) (log : List Entry) where
  -- a run of these choices, used up, that shows what the nodes noted
  abbrev Shows : List ℕ → List ℕ → Run → Scene → Type 0
  Shows os choices s x =
      (run (setting_at t t.horizon S os) choices ≡ ends s 1 255) × (s.used ≡ length choices) × (s.tick ≡ x.tick)
      × (s.observations ≡ x.observations)
      × (s.previous ≡ x.previous)
      × (s.works ≡ x.works)
      × (length x.nodes ≡ size t.table)
      × ((c : ℕ) → c < length x.nodes → Rattle.model.specs.Run.node_of s c ≡ view_of (setting_at t t.horizon S os) x c)
      × ((c : ℕ) → c < length x.nodes
      → (node_in x c ≡ unbegun (part_bytes (setting_at t t.horizon S os).program c) (node_in x c).clocks (node_in x c).variables)
      ⊎ (6 ≤ op_of (part_bytes (setting_at t t.horizon S os).program c) (node_in x c).registers
      → (op_of (part_bytes (setting_at t t.horizon S os).program c) (node_in x c).registers ≡ 16) × ((node_in x c).registers.kept.some ≡ false)))

  shows : (os : List ℕ) (x : Scene) (d : Realised t t.horizon S os x) → Shows os d.choices d.state x
  shows os x d = (d.runs, d.used, d.tick, d.observations, d.previous, d.works, d.count, d.nodes, d.waits)

  module _ (spread : ℕ) (e : accepted_schedule_at spread t ≡ accepted S) (os : List ℕ) (p : Permitted spread (size t.table) os) where
    abbrev g : Setting
    g = setting_at t t.horizon S os

    module _ (a : Answered g log (start_scene g)) where
      pub runs_say : (choices : List ℕ) × (s : Run) × Shows os choices s (played g log (start_scene g)) × Demand3Apart t t.horizon S os choices
      runs_say = let d = every.runs spread bytes t S r e os p log a in (d.choices, d.state, shows os (played g log (start_scene g)) d, d.demand)

      pub arrives_say : InTime g (played g log (start_scene g)) t.horizon
          → (choices : List ℕ) × (s : Run) × (run g choices ≡ ends s 0 255) × (s.tick ≡ t.horizon) × (s.used ≡ length choices)
          × (s.observations ≡ (played g log (start_scene g)).observations)
          × (s.previous ≡ (played g log (start_scene g)).previous)
          × (s.works ≡ (played g log (start_scene g)).works)
          × Demand3Apart t t.horizon S os choices
      arrives_say b =
          let d = every.arrives spread bytes t S r e os p log a b in
          (d.choices, d.state, d.runs, d.tick, d.used, d.observations, d.previous, d.works, d.demand)

  pub together_say : accepted_schedule_of t ≡ accepted S → Answered (setting_of t S) log (start_scene (setting_of t S))
      → (choices : List ℕ) × (s : Run) × Shows [] choices s (played (setting_of t S) log (start_scene (setting_of t S))) × Demand3 t t.horizon S choices
  together_say e a =
      let d = every.together bytes t S r e log a in
      (d.realised.choices, d.realised.state, shows [] (played (setting_of t S) log (start_scene (setting_of t S))) d.realised, d.demand)
