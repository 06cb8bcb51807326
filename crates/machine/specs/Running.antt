-- The run's state as the code keeps it, in the words of the definitions (model's specs/Run.antt).
use Rattle.std.specs.Prelude.{◌≡◌, Bool, cond, ◌&&◌, List, map, ℕ, ◌+◌, ◌-◌, ◌*◌, ◌≤◌, ◌<◌, leb, ltb, ℤ, length, drop}
use Rattle.model.specs.Lists.{only, below}
use Rattle.model.specs.Schedule.{Passage, own}
use Rattle.model.specs.Checks.{passage_at}
use Rattle.model.specs.Machine.{Node, part_bytes}
use Rattle.model.specs.Network.{Work}
use Rattle.model.specs.Order.{work_tick}
use Rattle.model.specs.Run.{Counts, Setting, ready_of_nth, Run, takes_part, last_of, no_work, stand_of}
use Rattle.rows.specs.Rows.{rows_of}
use Rattle.node.specs.Views.{node_of, Held, Within}
use Rattle.stand.specs.Stands.{never, due_tick, last_tick}
use Rattle.registers.specs.Words.{node_in, part_in, held_in, Eight, part_start, part_length, row_in, due_in, last_in, wake_tick_in, finish_tick_in}

-- ## Rows of the schedule

-- n rows stand there
pub record RowsStand (rows : List ℕ) (n : ℕ) : Type 0 where
  pub few : n ≤ 1024
  pub fits : n * 9 ≤ length rows

-- row is the row of component c's passage number k, or the number of rows where it has none
pub record RowIs (S : List Passage) (c k row : ℕ) : Type 0 where
  pub among : row ≤ length S
  pub rest : own c (drop row S) ≡ drop k (own c S)
  pub there : row < length S → (passage_at S row).component ≡ c

-- the ready of that passage
abbrev pub ready_at : List Passage → ℕ → ℕ
ready_at S row = cond (ltb row (length S)) (passage_at S row).ready never

-- ## The nodes

abbrev pub counts_at : List ℕ → ℕ → Counts
counts_at l c = record { clocks = (held_in l c).clocks; variables = (held_in l c).variables }

-- what the run goes by
abbrev pub setting_in : List ℕ → ℕ → List ℕ → ℕ → List ℕ → ℕ → Setting
setting_in program H rows n l count =
    record {
      program = program;
      horizon = H;
      counts = map (counts_at l) (below count);
      ready = λ c k. ready_of_nth (own c (rows_of rows n)) k;
      offsets = map (wake_tick_in l) (below count);
    }

-- node c
abbrev pub view_in : List ℕ → List ℕ → List ℤ → ℕ → Node
view_in program l v c = node_of (part_in program l c) (held_in l c) (node_in l v c)

-- the words beside node c's registers are right, and the registers have not grown beyond m
pub record NodeStands (program rows : List ℕ) (n : ℕ) (l : List ℕ) (v : List ℤ) (c m : ℕ) : Type 0 where
  pub inside : part_start l c + part_length l c ≤ length program
  pub short : part_length l c ≤ 65535
  pub part : part_in program l c ≡ part_bytes program c
  pub held : Held (held_in l c)
  pub within : Within m (node_in l v c)
  pub row : RowIs (rows_of rows n) c (node_in l v c).sleeps (row_in l c)
  pub wakes : wake_tick_in l c ≤ 1000
  -- by the common tick: as much later as the node wakes
  pub due : due_in l c ≡ due_tick (view_in program l v c) (stand_of (view_in program l v c)) + wake_tick_in l c
  pub last : last_in l c ≡ last_tick (view_in program l v c) (ready_at (rows_of rows n) (row_in l c)) (stand_of (view_in program l v c)) + wake_tick_in l c

-- the slices hold so many nodes
pub record Standing (program rows : List ℕ) (n : ℕ) (l : List ℕ) (v : List ℤ) (count : ℕ) : Type 0 where
  pub most : count ≤ 8
  pub listed : RowsStand rows n
  pub eight : Eight l v
  pub each : (c : ℕ) → c < count → NodeStands program rows n l v c 3000000000000000000

-- when the last of these works that node c has a part in finished, by its own clock
abbrev pub previous_in : List ℕ → ℕ → List Work → ℕ
previous_in l c ws = last_of no_work (map (λ w. work_tick w - wake_tick_in l c) (only (takes_part c) ws))

-- a statement with that op finishes its node's work: done, send, listen
abbrev pub finishes_work : ℕ → Bool
finishes_work op = leb 3 op && leb op 5

-- the slices are the nodes of s
pub record Running (program rows : List ℕ) (n : ℕ) (l : List ℕ) (v : List ℤ) (count : ℕ) (s : Run) : Type 0 where
  pub most : count ≤ 8
  pub listed : RowsStand rows n
  pub eight : Eight l v
  pub nodes : s.nodes ≡ map (view_in program l v) (below count)
  pub each : (c : ℕ) → c < count → NodeStands program rows n l v c (s.used * 131070)
  pub finish : (c : ℕ) → c < count → finish_tick_in l c ≡ previous_in l c s.works
  pub alike : length s.previous ≡ length s.observations
