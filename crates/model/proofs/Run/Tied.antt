-- A run's state held against the schedule: for each node which of its passages have their work finished, its phase in the next one, and the
-- observations that it has written; together with the network's side, which passes along. Assumes nothing.
use mathlib.Core.Path.{◌≡◌, sym, ap, subst, ◌∙◌}
use mathlib.Core.List.{List, [], ◌∷◌, ◌++◌, map}
use Prim.Native.Nat.{ℕ, zero, suc, ◌+◌, ◌-◌, ◌≤◌, ◌<◌}
use native.Mathlib.Omega.{arith}
use lib.Dec.{eqb}
use lib.ListN.{length, get_or}
use Rattle.model.specs.Lists.{only, from, All, accepted}
use Rattle.model.specs.Table.{TableHeader, header_of, Component, Table, Read, no_component, size, component_of}
use Rattle.model.specs.Limits.{ComponentIn, InLimits}
use Rattle.model.specs.Window.{Entry, Pick}
use Rattle.model.specs.Schedule.{Passage, own, schedule}
use Rattle.model.specs.Checks.{checked, accepted_schedule, accepted_schedule_at, accepted_schedule_of, limit}
use Rattle.model.specs.Chains.{IsSchedule}
use Rattle.model.specs.Program.{program_bytes}
use Rattle.model.specs.Network.{Work, Observation}
use Rattle.model.specs.Machine.{Node, part_bytes}
use Rattle.model.specs.Order.{work_tick}
use Rattle.model.specs.Run.{setting_at, offset_in, offset_of, own_tick, Run, node_of}
use Rattle.model.specs.Apart.{Permitted, own_work, work_node}
use Rattle.model.proofs.Reader.Parts.{after_ok}
use Rattle.model.proofs.Basics.Walk.{all_at}
use Rattle.model.proofs.Checks.Heard.{checked_is}
use Rattle.model.proofs.Window.Opening.{opened}
use Rattle.model.proofs.Schedule.Own.{all_in}
use Rattle.model.proofs.Schedule.Scheduled.{schedule_is}
use Rattle.model.proofs.Schedule.Passages.{Entered, entered}
use Rattle.model.proofs.Program.Decode.{location-code, edge-code}
use Rattle.model.proofs.Node.Choosing.{Coded, Asleep}
use Rattle.model.proofs.Node.Working.{Working}
use Rattle.model.proofs.Node.Phase.{Heading, Phase, is_heading, is_asleep, is_working}
use Rattle.model.proofs.Node.Passage.{Begins}
use Rattle.model.proofs.Node.Schedule.{Nth}
use Rattle.model.proofs.Network.Says.{seen}
use Rattle.model.proofs.Network.Links.{Links}
use Rattle.model.proofs.Network.Order.{Comes, Sorted}
use Rattle.model.proofs.Network.Ahead.{accepted_at_0, first_own, first_before, linked}
use Rattle.model.proofs.Network.Ahead.{Along as AlongAt}

-- ## What is given

-- a table in the limits, a horizon, and a schedule to it, of however many passages, that 10 to 12 accept at a spread; and offsets within that
pub record Given (t : Read) (H : ℕ) (S : List Passage) (offs : List ℕ) : Type 0 where
  pub spread : ℕ
  pub limits : InLimits t
  pub least : 1 ≤ H
  pub most : ℕ
  pub sched : IsSchedule most t.table H S
  pub checks : checked spread t.table H S ≡ accepted S
  pub permitted : Permitted spread (size t.table) offs

-- what 7 to 12 accept is a schedule of at most so many passages, and 10 to 12 accept it
pub schedule_at : (spread : ℕ) (T : Table) (H most : ℕ) (S : List Passage) → accepted_schedule most spread T H ≡ accepted S
    → IsSchedule most T H S × (checked spread T H S ≡ accepted S)
unfolding accepted_schedule
schedule_at spread T H most S e =
    let r = after_ok (schedule most T H) (λ (X : List Passage). checked spread T H X) e in
    let same : r.0 ≡ S = ((checked_is spread T H r.0 S).0 r.2).0 in
    (subst (IsSchedule most T H) same (schedule_is T H most r.1), subst (λ (X : List Passage). checked spread T H X ≡ accepted S) same r.2)

-- acceptance at a horizon and a spread, with a limit, gives that
pub given_at : (spread : ℕ) (t : Read) (H most : ℕ) (S : List Passage) (offs : List ℕ) → InLimits t → 1 ≤ H → accepted_schedule most spread t.table H ≡ accepted S
    → Permitted spread (size t.table) offs → Given t H S offs
given_at spread t H most S offs h k e p =
    let r = schedule_at spread t.table H most S e in
    record { spread = spread; limits = h; least = k; most = most; sched = r.0; checks = r.1; permitted = p }

pub given_apart : (spread : ℕ) (t : Read) (S : List Passage) (offs : List ℕ) → InLimits t → accepted_schedule_at spread t ≡ accepted S
    → Permitted spread (size t.table) offs → Given t t.horizon S offs
given_apart spread t S offs h e p = given_at spread t t.horizon limit S offs h h.least_horizon e p

-- all nodes together
pub given : (t : Read) (S : List Passage) → InLimits t → accepted_schedule_of t ≡ accepted S → Given t t.horizon S []
given t S h e = given_apart 0 t S [] h e (λ c i. omega arith)

-- accepted without a spread too
pub at_zero : {t : Read} {H : ℕ} {S : List Passage} {offs : List ℕ} (G : Given t H S offs) → checked 0 t.table H S ≡ accepted S
at_zero {t} {H} {S} G = accepted_at_0 G.spread G.most t.table H S G.sched G.checks

-- ## Own clocks

-- the offset of each node is the one handed
at_below : (f : ℕ → ℕ) (i n c : ℕ) → c < n → get_or (map f (from i n)) c 0 ≡ f (i + c)
at_below f i zero c h = absurd (omega arith)
at_below f i (suc n) zero h = ap f (let z : i ≡ i + 0 = omega arith in z)
at_below f i (suc n) (suc c) h = at_below f (suc i) n c (omega arith) ∙ ap f (let z : suc i + c ≡ i + suc c = omega arith in z)

pub offset_is : (t : Read) (H : ℕ) (S : List Passage) (offs : List ℕ) (c : ℕ) → c < size t.table → offset_of (setting_at t H S offs) c ≡ offset_in offs c
offset_is t H S offs c h = at_below (offset_in offs) 0 (size t.table) c h ∙ ap (offset_in offs) (let z : 0 + c ≡ c = omega arith in z)

-- ## One node

-- Node r of component C at tick τ, i of whose works are finished: ahead are the passages whose work is not, and `more` is the first of them once
-- its sleep is finished.
pub data Held (H : ℕ) (C : Component) (τ i : ℕ) (r : Node) (ahead more : List Passage) : Type 0 where
  -- on the way to the sleep of the first passage ahead
  coming : (v : Passage) (vs : List Passage) → ahead ≡ v ∷ vs → more ≡ [] → τ ≤ v.ready → Heading C i v.entry r → Held H C τ i r ahead more
  -- at that sleep
  waiting : (v : Passage) (vs : List Passage) → ahead ≡ v ∷ vs → more ≡ [] → τ ≤ v.ready → (k : Pick) → Asleep C i v.entry k r → Held H C τ i r ahead more
  -- past it
  busy : (v : Passage) (vs : List Passage) → ahead ≡ v ∷ vs → more ≡ v ∷ [] → v.ready ≤ τ → v.ready < H → (k : Pick) → Working C i v.entry k r
      → Held H C τ i r ahead more
  -- beyond the last passage, on the way to a sleep
  leaving : (at : Entry) → ahead ≡ [] → more ≡ [] → H ≤ at.tick → Heading C i at r → Held H C τ i r ahead more
  -- beyond the last passage, at a sleep
  resting : (at : Entry) → ahead ≡ [] → more ≡ [] → H ≤ at.tick → (k : Pick) → Asleep C i at k r → Held H C τ i r ahead more

-- Node c of a run at tick τ: os are its observations, `ahead` its passages whose work is unfinished.
pub record Tie (T : Table) (H : ℕ) (S : List Passage) (c τ : ℕ) (r : Node) (os : List Observation) (ahead : List Passage) : Type 0 where
  pub fin : List Passage
  pub more : List Passage
  pub count : ℕ
  pub counts : length fin ≡ count
  pub whole : fin ++ ahead ≡ own c S
  pub held : Held H (component_of T c) τ count r ahead more
  pub shown : os ≡ map (seen (component_of T c) c) (fin ++ more)

-- the observations of node c
abbrev pub shown_by : ℕ → List Observation → List Observation
shown_by c os = only (λ o. eqb o.component c) os

-- ## All nodes

-- works in the order of their ticks, none after τ, each of one of n nodes
pub record Logged (n τ : ℕ) (ws : List Work) : Type 0 where
  pub sorted : Sorted ws
  pub each : All (λ w. (work_node w < n) × (work_tick w ≤ τ)) ws

module _ {t : Read} {H : ℕ} {S : List Passage} {offs : List ℕ} (G : Given t H S offs) where
  -- the nodes' clocks at a common tick
  abbrev pub clock_at : ℕ → ℕ → ℕ
  clock_at τ c = own_tick (setting_at t H S offs) c τ

  -- they lie at most the spread apart
  pub offset_least : (c : ℕ) → c < size t.table → offset_of (setting_at t H S offs) c ≤ G.spread
  offset_least c h = omega (arith, offset_is t H S offs c h, G.permitted c h)

  pub clocks_close : (τ a b : ℕ) → a < size t.table → b < size t.table → clock_at τ a ≤ clock_at τ b + G.spread
  clocks_close τ a b ha hb = omega (arith, offset_least b hb)

  -- the network's side
  abbrev pub Along : (ℕ → ℕ) → (ℕ → List Passage) → Type 0
  Along clock A = AlongAt G.spread G.most t.table H S G.sched G.checks clock A

  -- the run's state: every node and the network are where the schedule has them
  pub record Tied (s : Run) : Type 0 where
    pub ahead : ℕ → List Passage
    pub along : Along (clock_at s.tick) ahead
    pub came : Comes t.table (λ c. own c S) (map (own_work (setting_at t H S offs)) s.works) ahead
    pub logged : Logged (size t.table) s.tick s.works
    -- a node that is asleep has shown nothing
    pub silent : (c : ℕ) → c < size t.table → s.tick < offset_of (setting_at t H S offs) c → shown_by c s.observations ≡ []
    pub full : length s.nodes ≡ size t.table
    pub ties : (c : ℕ) → c < size t.table → Tie t.table H S c (clock_at s.tick c) (node_of s c) (shown_by c s.observations) (ahead c)

  -- the part of the program of node c has the component's blocks
  pub coded : (c : ℕ) → c < size t.table → Coded (part_bytes (program_bytes t) c) (component_of t.table c)
  coded c h = record { locations = location-code t G.limits c h; edges = edge-code t G.limits c h }

  -- component c is in the limits
  pub component-in : (c : ℕ) → c < size t.table → ComponentIn (header_of t) (component_of t.table c)
  component-in c h = all_at no_component G.limits.components c h

  -- the first passage ahead is one that the schedule opens
  pub opened_first : {clock : ℕ → ℕ} {A : ℕ → List Passage} → Along clock A → (c : ℕ) → c < size t.table → (v : Passage) (vs : List Passage) → A c ≡ v ∷ vs
      → Begins c (component_of t.table c) v.entry v
  opened_first g c h v vs e =
      let o = first_own G.spread G.most t.table H S G.sched G.checks g c h v vs e in
      let n : Entered H v.component (component_of t.table v.component) v = all_in (entered G.sched) o.0 in
      let m : Entered H c (component_of t.table c) v = subst (λ (i : ℕ). Entered H i (component_of t.table i) v) o.1 n in
      record { opens = opened c (component_of t.table c) v.entry m.opens }

-- no passage ahead ends before its component's clock; what is ahead is linked
module _ {t : Read} {H : ℕ} {S : List Passage} {offs : List ℕ} (G : Given t H S offs) {clock : ℕ → ℕ} {A : ℕ → List Passage} (g : Along G clock A) where
  pub ahead_before : (c : ℕ) → c < size t.table → (v : Passage) (vs : List Passage) → A c ≡ v ∷ vs → clock c ≤ v.end
  ahead_before c h v vs e = first_before G.spread G.most t.table H S G.sched G.checks g c h v vs e

  pub ahead_linked : (c : ℕ) → c < size t.table → (v : Passage) (vs : List Passage) → A c ≡ v ∷ vs → Links H (component_of t.table c) v vs
  ahead_linked c h v vs e = linked G.spread G.most t.table H S G.sched G.checks g c h v vs e

-- the first passage ahead has the number of the works finished
pub nth_first : (c : ℕ) (S : List Passage) {i : ℕ} (fin : List Passage) {ahead : List Passage} → length fin ≡ i → fin ++ ahead ≡ own c S → (v : Passage) (vs : List Passage) → ahead ≡ v ∷ vs → Nth (own c S) i v
nth_first c S fin n w v vs e = record { past = fin; rest = vs; is = sym w ∙ ap (λ (l : List Passage). fin ++ l) e; number = n }

-- the phase of a node
pub phase_of : {H : ℕ} {C : Component} {τ i : ℕ} {r : Node} {ahead more : List Passage} → Held H C τ i r ahead more → (at : Entry) × Phase C i at r
phase_of (coming v vs e m l g) = (v.entry, is_heading g)
phase_of (waiting v vs e m l k g) = (v.entry, is_asleep k g)
phase_of (busy v vs e m l b k g) = (v.entry, is_working k g)
phase_of (leaving at e m l g) = (at, is_heading g)
phase_of (resting at e m l k g) = (at, is_asleep k g)
