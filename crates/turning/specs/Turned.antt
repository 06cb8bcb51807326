-- The slices between two parts of a run to a horizon beyond the table's own.
use Rattle.std.specs.Prelude.{◌≡◌, cond, List, map, ℕ, ◌+◌, ◌-◌, ◌≤◌, ◌<◌, eqb, ℤ, length, get_or, take, drop}
use Rattle.model.specs.Schedule.{Passage, own}
use Rattle.model.specs.Run.{stand_of}
use Rattle.later_runs.proofs.Front.{delayed}
use Rattle.rows.specs.Rows.{num, rows_of}
use Rattle.stand.specs.Stands.{due_tick, last_tick}
use Rattle.registers.specs.Words.{word_in, node_in, Eight, row_in, due_in, last_in, wake_tick_in, finish_tick_in, with_sleeps}
use Rattle.machine.specs.Running.{RowsStand, ready_at, view_in, Standing}

-- 1 where row i is of component c
abbrev pub is_of : List ℕ → ℕ → ℕ → ℕ
is_of rows i c = cond (eqb (num rows i 0) c) 1 0

-- how many of the passages from the first up to the second are of component c
abbrev pub between : List Passage → ℕ → ℕ → ℕ → ℕ
between S first second c = length (own c (take (second - first) (drop first S)))

-- what the turn goes by: the sleeps of a period, and the row that each node comes to will be ready when the one is at which it stands
pub record MayTurn (program rows : List ℕ) (n : ℕ) (l : List ℕ) (v : List ℤ) (count first second period : ℕ) (fewer : List ℕ) : Type 0 where
  pub standing : Standing program rows n l v count
  pub fewer_is : (c : ℕ) → c < count → get_or fewer c 0 ≡ between (rows_of rows n) first second c
  pub same_ready : (c : ℕ) → c < count → ready_at (map (delayed period) (rows_of rows n)) (first + c) ≡ ready_at (rows_of rows n) (row_in l c)

-- node c has so many sleeps fewer and stands at that row; it is noted by these rows when it is due and when it is late, all else of it is as it was
pub record NodeTurned (program rows : List ℕ) (n : ℕ) (l : List ℕ) (v : List ℤ) (c fewer row : ℕ) (l' : List ℕ) (v' : List ℤ) : Type 0 where
  pub node : node_in l' v' c ≡ with_sleeps (node_in l v c) ((node_in l v c).sleeps - fewer)
  pub row_is : row_in l' c ≡ row
  pub beside : (k : ℕ) → 21 ≤ k → k < 25 → word_in l' c k ≡ word_in l c k
  pub wakes : wake_tick_in l' c ≡ wake_tick_in l c
  pub finish : finish_tick_in l' c ≡ finish_tick_in l c
  pub due : due_in l' c ≡ due_tick (view_in program l' v' c) (stand_of (view_in program l' v' c)) + wake_tick_in l' c
  pub last : last_in l' c ≡ last_tick (view_in program l' v' c) (ready_at (rows_of rows n) (row_in l' c)) (stand_of (view_in program l' v' c)) + wake_tick_in l' c

-- the rows are so much later, and each node stands as many of its passages back as lie between the two rows
pub record Turned (program rows : List ℕ) (n : ℕ) (l : List ℕ) (v : List ℤ) (count first second period : ℕ) (rows' l' : List ℕ) (v' : List ℤ) : Type 0 where
  pub moved : rows_of rows' n ≡ map (delayed period) (rows_of rows n)
  pub same : length rows' ≡ length rows
  pub stand : RowsStand rows' n
  pub eight : Eight l' v'
  pub each : (c : ℕ) → c < count → NodeTurned program rows' n l v c (between (rows_of rows n) first second c) (first + c) l' v'
