-- What is known when a run begins, and what holds when it has ended.
use Rattle.std.specs.Prelude.{◌≡◌, List, ◌++◌, map, ℕ, ◌+◌, ◌*◌, ◌-◌, ◌≤◌, ◌<◌, ℤ, length, get_or, take, drop}
use Rattle.model.specs.Lists.{each, below, accepted}
use Rattle.model.specs.Table.{Component, size}
use Rattle.model.specs.Reader.{byte}
use Rattle.model.specs.Places.{read_of}
use Rattle.model.specs.Schedule.{Passage, light}
use Rattle.model.specs.Checks.{accepted_schedule_at}
use Rattle.model.specs.Machine.{start_node, part_bytes}
use Rattle.model.specs.Run.{Counts, Setting, Run, offset_in, no_work, start_run, run_from, run, observation_width, Written, written_bytes, written_in}
use Rattle.model.specs.declared.End.TheVariants.{Horizon}
use Rattle.model.specs.Calls.{end_of}
use Rattle.model.specs.Apart.{Permitted}
use Rattle.rows.specs.Rows.{rows_of}
use Rattle.registers.specs.Words.{word_in, Eight, SameNode, part_start, part_length, clock_count, variable_count, row_in, due_in, last_in, wake_tick_in, finish_tick_in}
use Rattle.machine.specs.Running.{RowsStand, counts_at, setting_in, view_in, NodeStands, Running}
use Rattle.run.specs.declared.Ended.{Ended}

-- however far the list is carried out from a state, its observations have room
abbrev pub Roomy : Setting → List ℕ → Run → ℕ → Type 0
Roomy g choices s room = (k : ℕ) → length (run_from g (take k choices) s).state.observations * observation_width ≤ room

-- so many choices are carried out at most: no run to a horizon of four bytes has more
abbrev pub most_used : ℕ
most_used = 22700000000000

-- however far the list is carried out, no more than that
abbrev pub Brief : Setting → List ℕ → Run → Type 0
Brief g choices s = (k : ℕ) → (run_from g (take k choices) s).state.used ≤ most_used

-- the observations' bytes over the front of what was lent
abbrev pub Over : List Written → List ℕ → List ℕ → Type 0
Over ws out₀ out = out ≡ each written_bytes ws ++ drop (length ws * observation_width) out₀

-- a run, or a part of one, begins in state s; what was lent at first was out₀
pub record Begun (program : List ℕ) (H : ℕ) (rows : List ℕ) (n : ℕ) (l : List ℕ) (v : List ℤ) (count : ℕ) (choices out : List ℕ) (since seen : ℕ) (s : Run) (out₀ : List ℕ) : Type 0 where
  pub running : Running program rows n l v count s
  pub tick : s.tick ≡ since
  pub early : s.tick ≤ s.used
  pub written : seen ≡ length s.observations
  pub few : length s.observations ≤ s.used
  pub bytes : Over (written_in s) out₀ out
  pub brief : Brief (setting_in program H rows n l count) choices s
  pub roomy : Roomy (setting_in program H rows n l count) choices s (length out₀)

-- where it ends with the horizon it can go on: the slices are the nodes
pub record GoesOn (program : List ℕ) (H : ℕ) (rows : List ℕ) (n : ℕ) (l : List ℕ) (count : ℕ) (l' : List ℕ) (v' : List ℤ) (s : Run) : Type 0 where
  pub running : Running program rows n l' v' count s
  pub same : setting_in program H rows n l' count ≡ setting_in program H rows n l count
  pub early : s.tick ≤ s.used
  pub few : length s.observations ≤ s.used

-- the end of a part that began in state s, its numbers, and the bytes of the observations over the front of what was lent at first
pub record PartEnds (program : List ℕ) (H : ℕ) (rows : List ℕ) (n : ℕ) (l : List ℕ) (count : ℕ) (choices : List ℕ) (s : Run) (out₀ : List ℕ) (e : Ended) (l' : List ℕ) (v' : List ℤ) (out' : List ℕ) : Type 0 where
  pub end : e.end ≡ end_of (run_from (setting_in program H rows n l count) choices s).end (run_from (setting_in program H rows n l count) choices s).node
  pub tick : e.tick ≡ (run_from (setting_in program H rows n l count) choices s).state.tick
  pub used : (run_from (setting_in program H rows n l count) choices s).state.used ≡ s.used + e.used
  pub written : e.written ≡ length (run_from (setting_in program H rows n l count) choices s).state.observations
  pub bytes : Over (written_in (run_from (setting_in program H rows n l count) choices s).state) out₀ out'
  pub further : e.end ≡ Horizon → GoesOn program H rows n l count l' v' (run_from (setting_in program H rows n l count) choices s).state

-- the end, its numbers, and the bytes of the observations over the front of what was lent
pub record EndsAs (g : Setting) (choices out : List ℕ) (e : Ended) (out' : List ℕ) : Type 0 where
  pub end : e.end ≡ end_of (run g choices).end (run g choices).node
  pub tick : e.tick ≡ (run g choices).state.tick
  pub used : e.used ≡ (run g choices).state.used
  pub written : e.written ≡ length (run g choices).state.observations
  pub bytes : out' ≡ each written_bytes (written_in (run g choices).state) ++ drop (length (written_in (run g choices).state) * observation_width) out

-- the first late node, the number of nodes where none is
pub record FirstLate (l : List ℕ) (count tick r : ℕ) : Type 0 where
  pub among : r ≤ count
  pub before : (i : ℕ) → i < r → tick ≤ last_in l i
  pub there : r < count → last_in l r < tick

-- before that tick no node is due, up to it none is late, and it lies before the horizon
pub record Calm (l : List ℕ) (count H calm : ℕ) : Type 0 where
  pub due : (i : ℕ) → i < count → calm ≤ due_in l i
  pub last : (i : ℕ) → i < count → calm ≤ last_in l i
  pub before : calm ≤ H - 1

-- the choices from one place up to another are ticks
abbrev pub Ticks : List ℕ → ℕ → ℕ → Type 0
Ticks choices from end = (i : ℕ) → from ≤ i → i < end → get_or choices i 0 ≡ 255

-- ## The start

-- words 21 to 25 and 28 of node c are these numbers, and no work of it has finished; the words of any other node are as they were
pub record WordsPut (l : List ℕ) (c start long clocks variables row wake : ℕ) (l' : List ℕ) : Type 0 where
  pub begins : part_start l' c ≡ start
  pub lasts : part_length l' c ≡ long
  pub ages : clock_count l' c ≡ clocks
  pub holds : variable_count l' c ≡ variables
  pub passes : row_in l' c ≡ row
  pub wakes : wake_tick_in l' c ≡ wake
  pub finish : finish_tick_in l' c ≡ no_work
  pub others : (i k : ℕ) → (i ≡ c → ⊥) → k < 32 → word_in l' i k ≡ word_in l i k
  pub same : length l' ≡ length l

-- node c stands at its program's start, with so many clocks and variables, and wakes at that tick; all of any other node is as it was
pub record NodeStarted (program rows : List ℕ) (n clocks variables wake : ℕ) (l : List ℕ) (v : List ℤ) (c : ℕ) (l' : List ℕ) (v' : List ℤ) : Type 0 where
  pub stands : NodeStands program rows n l' v' c 0
  pub view : view_in program l' v' c ≡ start_node (part_bytes program c) clocks variables
  pub counts : counts_at l' c ≡ record { clocks = clocks; variables = variables }
  pub wakes : wake_tick_in l' c ≡ wake
  pub finish : finish_tick_in l' c ≡ no_work
  pub others : (i : ℕ) → (i ≡ c → ⊥) → SameNode l v l' v' i
  pub eight : Eight l' v'

abbrev pub counts_of : Component → Counts
counts_of C = record { clocks = C.clocks; variables = C.variables }

-- the slices hold the nodes of the table at their programs' start, with these offsets
pub record Started (table program rows : List ℕ) (n : ℕ) (handed l : List ℕ) (v : List ℤ) : Type 0 where
  pub counts : map (counts_at l) (below (byte table 3)) ≡ map counts_of (read_of table).table.components
  pub offsets : map (wake_tick_in l) (below (byte table 3)) ≡ map (offset_in handed) (below (size (read_of table).table))
  pub running : (H : ℕ) → Running program rows n l v (byte table 3) (start_run (setting_in program H rows n l (byte table 3)))

-- the rows are the schedule of a table accepted at a spread
pub record Planned (spread : ℕ) (table rows : List ℕ) (n : ℕ) : Type 0 where
  pub small : spread ≤ 1000
  pub passages : List Passage
  pub accepted_schedule : accepted_schedule_at spread (read_of table) ≡ accepted passages
  pub count : n ≡ length passages
  pub listed : rows_of rows n ≡ map light passages
  pub stand : RowsStand rows n

-- and the offsets lie in the spread
pub record PlannedApart (table rows : List ℕ) (n : ℕ) (offsets : List ℕ) : Type 0 where
  pub spread : ℕ
  pub plan : Planned spread table rows n
  pub permitted : Permitted spread (size (read_of table).table) offsets
