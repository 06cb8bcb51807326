-- A simulated run as the code keeps it: the slices of a run, for each node the tick at which its work is over, and four numbers.
use Rattle.std.specs.Prelude.{◌≡◌, ◌⊎◌, Bool, true, false, cond, ◌&&◌, List, ℕ, suc, ◌+◌, ◌≤◌, ◌<◌, leb, ltb, ℤ, length, get_or, drop}
use Rattle.model.specs.Run.{Run, stand_of, node_of, on, choose1}
use Rattle.node.specs.Views.{op_in}
use Rattle.registers.specs.Words.{place_in, due_in, kept_in, part_in}
use Rattle.stand.specs.Stands.{never}
use Rattle.machine.specs.Running.{setting_in, Running}
use Rattle.machine.specs.Chosen.{Inside}
use Rattle.run.specs.Ends.{Calm}
use Rattle.simulation.specs.Simulated.{Trying, until_of, waits, went, Stuck, start_trying}
use Rattle.simulation.proofs.Turns.{result, drawn, Same}
use Rattle.std.specs.Prelude.{Option}
use Rattle.simulator.specs.declared.Course.TheVariants.{GoesOn, Over}
use Rattle.simulator.specs.declared.Turn.{Turn}
use Rattle.simulator.specs.Answers.{late_node}

-- it is node c's turn in y, whose nodes and works stand in these slices
pub record Holds (program rows : List ℕ) (n count tick c state : ℕ) (l : List ℕ) (v : List ℤ) (until : List ℕ) (y : Trying) : Type 0 where
  pub running : Running program rows n l v count y.state
  pub at : y.state.tick ≡ tick
  pub turn : y.turn ≡ c
  pub draw : y.draw ≡ state
  pub full : length y.until ≡ count
  pub works : (i : ℕ) → i < count → until_of y i ≡ get_or until i 0

-- the slices are the nodes of some state of a run at that tick, not too many choices after its start
pub record Somewhere (program rows : List ℕ) (n count tick : ℕ) (l : List ℕ) (v : List ℤ) : Type 0 where
  pub state : Run
  pub running : Running program rows n l v count state
  pub at : state.tick ≡ tick
  pub used : state.used ≤ 1000000000000

-- the turn of node c, after which the generator and the slices are these
pub record Attempted (program rows : List ℕ) (n H count tick c lo hi state : ℕ) (l : List ℕ) (v : List ℤ) (until : List ℕ) (moved : Bool) (state' : ℕ) (l' : List ℕ) (v' : List ℤ) (until' : List ℕ) : Type 0 where
  -- it did not move, and nothing changed
  pub keeps : moved ≡ false → (l' ≡ l) × (v' ≡ v) × (until' ≡ until) × (state' ≡ state)
  pub stuck : moved ≡ false → (y : Trying) → Holds program rows n count tick c state l v until y → Stuck (setting_in program H rows n l count) (record { lo = lo; hi = hi }) y c
  -- it finished its statement
  pub free : moved ≡ true → (y : Trying) → Holds program rows n count tick c state l v until y → waits tick (until_of y c) (stand_of (node_of y.state c)) ≡ false
  pub goes : moved ≡ true → (y : Trying) → Holds program rows n count tick c state l v until y
      → (u : Run) × (choose1 (setting_in program H rows n l count) y.state c ≡ on u) × (u.used ≡ suc y.state.used)
      × Holds program rows n count tick c state' l' v' until' (went (setting_in program H rows n l count) (record { lo = lo; hi = hi }) y u)
  pub same : setting_in program H rows n l' count ≡ setting_in program H rows n l count

-- so many turns: the run goes on in z after them, or it is over, with that late node and that generator
pub record Turned (program rows : List ℕ) (n H count lo hi : ℕ) (l : List ℕ) (y : Trying) (r : Turn) (l' : List ℕ) (v' : List ℤ) (until' : List ℕ) : Type 0 where
  pub on : r.course ≡ GoesOn
      → (z : Trying) × ((m : ℕ) → Same (setting_in program H rows n l count) (record { lo = lo; hi = hi }) (r.turns + m) y m z)
      × Holds program rows n count r.tick r.turn r.state l' v' until' z × (z.moved ≡ r.moved) × (z.state.used ≤ y.state.used + r.turns)
  pub ends : (late : Option ℕ) → r.course ≡ Over late → (m : ℕ)
      → (late_node (result (setting_in program H rows n l count) (record { lo = lo; hi = hi }) (r.turns + m) y) ≡ late)
      × (drawn (setting_in program H rows n l count) (record { lo = lo; hi = hi }) (r.turns + m) y ≡ r.state)
  pub same : setting_in program H rows n l' count ≡ setting_in program H rows n l count

-- how many turns they were: one at least, no more than were left, and no more ticks than turns
pub record Few (tick left : ℕ) (r : Turn) : Type 0 where
  pub some : 1 ≤ r.turns
  pub most : r.turns ≤ left
  pub ticks : r.tick ≤ tick + r.turns

-- a simulated run under way in the slices, so many turns before its limit
pub record Going (program rows : List ℕ) (n H count lo hi seed : ℕ) (l₀ l : List ℕ) (v : List ℤ) (until : List ℕ) (tick turn : ℕ) (moved : Bool) (state left : ℕ) : Type 0 where
  pub trying : Trying
  pub holds : Holds program rows n count tick turn state l v until trying
  pub moves : trying.moved ≡ moved
  pub same : setting_in program H rows n l count ≡ setting_in program H rows n l₀ count
  pub from : Same (setting_in program H rows n l₀ count) (record { lo = lo; hi = hi }) 1000000000000
      (start_trying (setting_in program H rows n l₀ count) (record { lo = lo; hi = hi }) seed) left trying
  pub used : trying.state.used + left ≤ 1000000000000

-- ## Nodes that sleep or listen until later

-- a tick is noted for node c, and it is another one
abbrev pub EarlyAt : List ℕ → ℕ → ℕ → Type 0
EarlyAt l c tick = (due_in l c < never) × (tick ≡ due_in l c → ⊥)

-- from that turn on up to the first, fewer than are left, they are of such nodes
pub record PassedTo (l : List ℕ) (count tick turn left first : ℕ) : Type 0 where
  pub from : turn ≤ first
  pub to : turn < first → first ≤ count
  pub few : first < turn + left
  pub early : (c : ℕ) → turn ≤ c → c < first → EarlyAt l c tick

-- ## A node that does not move

-- a node that stands at this op waits at that tick for its work, which is over then: ops 3 and 4 do
abbrev pub waits_by : ℕ → ℕ → ℕ → Bool
waits_by op tick then = cond (leb 3 op && leb op 4) (ltb tick then) false

-- node c, whose statement's op that is, does not move at tick t: its sleep or its listen is not due, its work is not over, or nothing is kept for
-- its take
pub data StillBy (op : ℕ) (l until : List ℕ) (c t : ℕ) : Type 0 where
  early : (op ≡ 0) ⊎ (op ≡ 5) → (t ≡ due_in l c → ⊥) → StillBy op l until c t
  works : (op ≡ 3) ⊎ (op ≡ 4) → t < get_or until c 0 → StillBy op l until c t
  unkept : op ≡ 16 → (kept_in l c).some ≡ false → StillBy op l until c t

abbrev pub StillAt : List ℕ → List ℕ → List ℕ → ℕ → ℕ → Type 0
StillAt program l until c t = StillBy (op_in (drop (place_in l c) (part_in program l c))) l until c t

-- its part lies in the program, and a tick is noted for it only where it sleeps or listens
pub record Placed (program l : List ℕ) (c : ℕ) : Type 0 where
  pub inside : Inside program l c
  pub noted : due_in l c < never → (op_in (drop (place_in l c) (part_in program l c)) ≡ 0) ⊎ (op_in (drop (place_in l c) (part_in program l c)) ≡ 5)

-- up to that tick it does not
abbrev pub StillTo : List ℕ → List ℕ → List ℕ → ℕ → ℕ → Type 0
StillTo program l until c idle = (t : ℕ) → 0 < t → t ≤ idle → StillAt program l until c t

-- nor does any node, none is due, none late, and the horizon is not reached
pub record Idle (program l until : List ℕ) (count H idle : ℕ) : Type 0 where
  pub calm : Calm l count H idle
  pub still : (c : ℕ) → c < count → StillTo program l until c idle
