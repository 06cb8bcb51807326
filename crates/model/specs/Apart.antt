-- Demand 3 for nodes that wake apart: what holds of every run of a table accepted at a spread G, for offsets up to G, as one record with a
-- field for each of its sentences. With no offsets it gives `Demand3` (the law `together`).
use Rattle.std.specs.Prelude.{◌≡◌, List, [], ◌∷◌, ◌++◌, map, ℕ, ◌≤◌, ◌<◌, max, get_or}
use Rattle.model.specs.Lists.{below, All, accepted}
use Rattle.model.specs.Table.{Read, size}
use Rattle.model.specs.Reader.{read_table}
use Rattle.model.specs.Schedule.{Passage, own}
use Rattle.model.specs.Checks.{accepted_schedule_at}
use Rattle.model.specs.Network.{State, Label, Work, one, two, start, works_on}
use Rattle.model.specs.Order.{work_tick, by_tick}
use Rattle.model.specs.Run.{Setting, setting_at, offset_in, own_tick, Run, Result, stand_of, node_of, run, start_run}
use Rattle.model.specs.Demand3.{reached, DueIn, NotDueIn, EarlyIn, states, Valid, Scheduled, Kept, ObservedTo, CompleteBy, Listened, TakesLateBy, LateEndsBy, LateIsBy, AllowedBut, NodeOf, UsedOf, TicksOf, NotBefore, EndsBy}

-- ## Permitted offsets

-- an offset for each of n nodes, none above G ("an offset above G" is refused with 20)
abbrev pub Permitted : ℕ → ℕ → List ℕ → Type 0
Permitted G n os = (c : ℕ) → c < n → offset_in os c ≤ G

-- ## Works by the clocks of the nodes

-- a work with its tick by the clock of the node that finished it, "a message at its sender's tick"
abbrev pub own_work : Setting → Work → Work
own_work g (one c k) = one c (own_tick g c k)
own_work g (two a b k t) = two a b k (own_tick g a t)

-- the node whose clock that is
abbrev pub work_node : Work → ℕ
work_node (one c k) = c
work_node (two a b k t) = a

-- the greatest of these numbers
abbrev pub most : List ℕ → ℕ
most [] = 0
most (n ∷ ns) = max n (most ns)

-- ## The sentences that have a clock of each node, of any path, any record of a run and any states that it went through. The others are those of
-- `Demand3`.

module _ (t : Read) (H : ℕ) (S : List Passage) (os : List ℕ) where
  -- node c's own clock at a common tick
  abbrev pub own_clock : ℕ → ℕ → ℕ
  own_clock c now = own_tick (setting_at t H S os) c now

  -- Choices that are never carried out in state s: a node before it wakes ("until that tick .. choosing it isn't allowed"); the others as in
  -- `Barred`, by the nodes' own clocks. Before a node wakes nothing of it is due.
  pub data BarredIn (s : Run) (b : ℕ) : Type 0 where
    absent : size t.table ≤ b → (b ≡ 255 → ⊥) → BarredIn s b
    unwoken : b < size t.table → s.tick < offset_in os b → BarredIn s b
    early : b < size t.table → EarlyIn (own b S) (own_clock b s.tick) (node_of s b) (stand_of (node_of s b)) → BarredIn s b
    pending : b ≡ 255 → (c : ℕ) → c < size t.table → offset_in os c ≤ s.tick → DueIn (own c S) (own_clock c s.tick) (node_of s c) (stand_of (node_of s c))
        → BarredIn s b

  module _ (result : Result) where
    -- node c's own clock when the path ends (a late tick is not on it), and the clock of the node that is ahead of all others
    abbrev pub clock_at_end : ℕ → ℕ
    clock_at_end c = own_clock c (reached result)

    abbrev pub leading_clock : ℕ
    leading_clock = most (map clock_at_end (below (size t.table)))

    -- the path reaches the tick of the node that is ahead of all others
    abbrev pub ReachApart : State → Type 0
    ReachApart last = last.tick ≡ leading_clock

    -- what is filled in: for nodes that are behind, works between their own clock and the path's last tick
    abbrev pub Fills : State → List Work → Type 0
    Fills last filled = All (λ w. (work_node w < size t.table) × (clock_at_end (work_node w) ≤ work_tick w) × (work_tick w < last.tick)) filled

    -- the steps in on the path are the works finished, each at its node's tick, "a message at its sender's tick"; and, for nodes that are
    -- behind, what the schedule has them do between their own clock and the path's last tick
    abbrev pub WorkedApart : List Label → List Work → Type 0
    WorkedApart path filled = works_on t.table (start t.table) path ≡ by_tick (map (own_work (setting_at t H S os)) result.state.works ++ filled)

    -- why a choice was not allowed, in the words of the schedule and of the nodes' own clocks
    pub data RefusedIn (b : ℕ) : Type 0 where
      no_node : size t.table ≤ b → (b ≡ 255 → ⊥) → RefusedIn b
      asleep : b < size t.table → result.state.tick < offset_in os b → RefusedIn b
      not_due : b < size t.table → NotDueIn (own b S) (own_clock b result.state.tick) (node_of result.state b) (stand_of (node_of result.state b))
          → RefusedIn b
      due : b ≡ 255 → (c : ℕ) → c < size t.table → offset_in os c ≤ result.state.tick
          → DueIn (own c S) (own_clock c result.state.tick) (node_of result.state c) (stand_of (node_of result.state c)) → RefusedIn b

    abbrev pub WhyRefusedApart : List ℕ → Type 0
    WhyRefusedApart cs = result.end ≡ 3 → RefusedIn (get_or cs result.state.used 0)

-- ## The demand

module _ (t : Read) (H : ℕ) (S : List Passage) (os cs : List ℕ) where
  abbrev pub setting_now : Setting
  setting_now = setting_at t H S os

  abbrev pub result_now : Result
  result_now = run setting_now cs

  -- the state after k choices carried out
  abbrev pub state_then : ℕ → Run
  state_then k = get_or (states setting_now cs (start_run setting_now)) k (start_run setting_now)

  -- node c's own clock when the path ends
  abbrev pub clock_on : ℕ → ℕ
  clock_on = clock_at_end t H S os result_now

  abbrev pub LateThen : ℕ → ℕ → Type 0
  LateThen = TakesLateBy t.table S cs result_now state_then (own_clock t H S os)

  -- how the run ended: "The horizon stays on the common tick"
  abbrev pub EndedApart : Type 0
  EndedApart = EndsBy (own_clock t H S os) setting_now t.table S cs result_now

  abbrev pub RefusedApart : ℕ → Type 0
  RefusedApart = RefusedIn t H S os result_now

  abbrev pub BarredApart : Run → ℕ → Type 0
  BarredApart = BarredIn t H S os

  pub record Demand3Apart : Type 0 where
    -- one path of the network, for all nodes together, in their own clocks
    pub path : List Label
    pub last : State
    pub valid : Valid t.table path last
    pub reach : ReachApart t H S os result_now last
    pub scheduled : Scheduled t.table S path
    pub kept : Kept t.table S path last
    pub filled : List Work
    pub fills : Fills t H S os result_now last filled
    pub worked : WorkedApart t H S os result_now path filled
    -- "Observations carry the node's own clock": each node's are the first that the path shows up to that node's clock
    pub observed : ObservedTo clock_on t.table S path result_now
    -- "each node owing only what was due on its own clock"
    pub complete : CompleteBy (own_clock t H S os) t.table S result_now
    pub listener : Listened t.table S cs result_now state_then setting_now
    -- late by its own clock
    pub late_ends : LateEndsBy t.table S cs result_now state_then (own_clock t H S os)
    pub late_is : LateIsBy t.table S cs result_now state_then (own_clock t H S os)
    pub node : NodeOf result_now
    pub used : UsedOf cs result_now
    pub ticks : TicksOf cs result_now
    pub ended : EndedApart
    pub not_before : NotBefore H result_now state_then
    pub refused : WhyRefusedApart t H S os result_now cs
    -- the other way: no choice that is barred was ever carried out
    pub allowed : AllowedBut t.table S cs result_now state_then BarredApart

-- for every spread, every table accepted at it, all permitted offsets and every list of choices
abbrev pub PromiseApart : Type 0
PromiseApart =
    (G : ℕ) (bytes : List ℕ) (t : Read) (S : List Passage) → read_table bytes ≡ accepted t → accepted_schedule_at G t ≡ accepted S
    → (os : List ℕ) → Permitted G (size t.table) os → (cs : List ℕ) → Demand3Apart t t.horizon S os cs
