-- What one choice does to the slices.
use Rattle.std.specs.Prelude.{◌≡◌, Bool, true, false, ◌&&◌, List, [], ◌∷◌, ◌++◌, ℕ, suc, ◌+◌, ◌*◌, ◌≤◌, ◌<◌, eqb, ℤ, length, drop, set}
use Rattle.std.specs.Option.{is_some}
use Rattle.std.specs.Prelude.{Option, None, Some}
use Rattle.std.proofs.lemmas.List.Edits.{sets}
use Rattle.model.specs.Lists.{each}
use Rattle.model.specs.Network.{Observation}
use Rattle.model.specs.Machine.{finish}
use Rattle.model.specs.Run.{Run, forbidden, on, stand_of, choose1, observation_width, written_bytes, with_ticks}
use Rattle.rows.specs.Rows.{rows_of}
use Rattle.node.specs.declared.Counts.{Counts}
use Rattle.node.specs.declared.Node.{Node}
use Rattle.node.specs.Views.{op_in, node_of}
use Rattle.stand.specs.Stands.{due_tick, last_tick}
use Rattle.registers.specs.Words.{word_in, node_in, part_in, Eight, SameNode, place_in, ready_tick_in, part_start, part_length, row_in, due_in, last_in, wake_tick_in, finish_tick_in}
use Rattle.machine.specs.Running.{RowIs, ready_at, setting_in, view_in, NodeStands, Running}

-- the op of the statement that node c stands at
abbrev pub op_of : List ℕ → List ℕ → List ℤ → ℕ → ℕ
op_of program l v c = op_in (drop (place_in l c) (part_in program l c))

-- where node c's part lies in the program
pub record Inside (program l : List ℕ) (c : ℕ) : Type 0 where
  pub inside : part_start l c + part_length l c ≤ length program
  pub short : part_length l c ≤ 65535

-- it is noted when node c, whose part is p, is due and when it is late
pub record Noted (p rows : List ℕ) (n : ℕ) (l : List ℕ) (c : ℕ) (l' : List ℕ) : Type 0 where
  pub due : ℕ
  pub last : ℕ
  pub dues : (held : Counts) (v : List ℤ) → due ≡ due_tick (node_of p held (node_in l v c)) (stand_of (node_of p held (node_in l v c)))
  pub lasts : (held : Counts) (v : List ℤ) → last ≡ last_tick (node_of p held (node_in l v c)) (ready_at (rows_of rows n) (row_in l c)) (stand_of (node_of p held (node_in l v c)))
  -- by the common tick
  pub put : l' ≡ set (set l (c * 32 + 26) (due + wake_tick_in l c)) (c * 32 + 27) (last + wake_tick_in l c)

-- node c's registers are q, and it is noted when it is due and when it is late; all of any other node is as it was
pub record NodePut (program rows : List ℕ) (n : ℕ) (l : List ℕ) (v : List ℤ) (c : ℕ) (q : Node) (l' : List ℕ) (v' : List ℤ) : Type 0 where
  pub node : node_in l' v' c ≡ q
  pub beside : (k : ℕ) → 21 ≤ k → k < 26 → word_in l' c k ≡ word_in l c k
  pub wakes : wake_tick_in l' c ≡ wake_tick_in l c
  pub finish : finish_tick_in l' c ≡ finish_tick_in l c
  pub due : due_in l' c ≡ due_tick (view_in program l' v' c) (stand_of (view_in program l' v' c)) + wake_tick_in l' c
  pub last : last_in l' c ≡ last_tick (view_in program l' v' c) (ready_at (rows_of rows n) (row_in l' c)) (stand_of (view_in program l' v' c)) + wake_tick_in l' c
  pub others : (i : ℕ) → (i ≡ c → ⊥) → SameNode l v l' v' i
  pub eight : Eight l' v'

-- the row of node c's passage is that of its next passage now
pub record RowPassed (rows : List ℕ) (n : ℕ) (l : List ℕ) (c : ℕ) (l' : List ℕ) : Type 0 where
  pub row : (k : ℕ) → RowIs (rows_of rows n) c k (row_in l c) → RowIs (rows_of rows n) c (suc k) (row_in l' c)
  pub beside : (k : ℕ) → k < 32 → (k ≡ 25 → ⊥) → word_in l' c k ≡ word_in l c k
  pub others : (i k : ℕ) → (i ≡ c → ⊥) → k < 32 → word_in l' i k ≡ word_in l i k
  pub same : length l' ≡ length l

-- the node found is the first of the listeners, if there is one
abbrev pub IsFirst : List ℕ → Option ℕ → Type 0
IsFirst [] r = r ≡ None
IsFirst (i ∷ is) r = r ≡ Some i

-- node c has finished its statement, or taken a message: it is as `q` says, all of any other node is as it was
pub record NodeMoved (program rows : List ℕ) (n : ℕ) (l : List ℕ) (v : List ℤ) (c : ℕ) (q : Rattle.model.specs.Machine.Node) (l' : List ℕ) (v' : List ℤ) : Type 0 where
  pub view : view_in program l' v' c ≡ q
  pub stands : (m : ℕ) → NodeStands program rows n l v c m → NodeStands program rows n l' v' c (m + 131070)
  pub fixed : (k : ℕ) → 21 ≤ k → k < 25 → word_in l' c k ≡ word_in l c k
  pub wakes : wake_tick_in l' c ≡ wake_tick_in l c
  pub others : (i : ℕ) → (i ≡ c → ⊥) → SameNode l v l' v' i
  pub eight : Eight l' v'

-- node c sleeps until now, by its own clock, so that an observation is written if it goes on
abbrev pub observes_now : List ℕ → List ℕ → List ℤ → ℕ → ℕ → Bool
observes_now program l v c tick = eqb (op_of program l v c) 0 && eqb tick (ready_tick_in l c)

-- the state after a choice that is allowed, and how many observations are written
pub record After (program rows : List ℕ) (n H count : ℕ) (b : ℕ) (l : List ℕ) (s : Run) (out : List ℕ) (written : ℕ) (m : Option ℕ) (l' : List ℕ) (v' : List ℤ) (out' : List ℕ) : Type 0 where
  pub next : Run
  pub goes : choose1 (setting_in program H rows n l count) s b ≡ on next
  pub running : Running program rows n l' v' count next
  pub same : setting_in program H rows n l' count ≡ setting_in program H rows n l count
  pub tick : next.tick ≡ s.tick
  pub used : next.used ≡ suc s.used
  pub seen : List Observation
  pub observed : next.observations ≡ s.observations ++ seen
  pub ticks : List ℕ
  pub noted : next.previous ≡ s.previous ++ ticks
  pub counted : m ≡ Some (written + length seen)
  pub bytes : out' ≡ sets out (written * observation_width) (each written_bytes (with_ticks seen ticks))

-- Choice b of a node: "After a choice, one node's registers after the statement and nothing of any other node has changed, send and tick excepted."
-- The last two fields say, for all eight places: of any other node nothing has changed, a send excepted; a send
-- changes one other node, its listener.
pub record Chosen (program rows : List ℕ) (n H count tick b : ℕ) (l : List ℕ) (v : List ℤ) (out : List ℕ) (written : ℕ) (m : Option ℕ) (l' : List ℕ) (v' : List ℤ) (out' : List ℕ) : Type 0 where
  pub refuses : is_some m ≡ false → (s : Run) → Running program rows n l v count s → s.tick ≡ tick → choose1 (setting_in program H rows n l count) s b ≡ forbidden
  pub keeps : is_some m ≡ false → (l' ≡ l) × (v' ≡ v) × (out' ≡ out)
  pub allows : is_some m ≡ true → (s : Run) → Running program rows n l v count s → s.tick ≡ tick → After program rows n H count b l s out written m l' v' out'
  pub finished : is_some m ≡ true → view_in program l' v' b ≡ finish (part_in program l b) (view_in program l v b) (view_in program l v b).rest
  pub alone : (op_of program l v b ≡ 4 → ⊥) → (i : ℕ) → (i ≡ b → ⊥) → SameNode l v l' v' i
  pub two : (i : ℕ) × ((j : ℕ) → (j ≡ b → ⊥) → (j ≡ i → ⊥) → SameNode l v l' v' j)

-- The same, whatever was observed and wherever it would have been written.
pub record ChosenUnseen (program rows : List ℕ) (n H count tick b : ℕ) (l : List ℕ) (v : List ℤ) (allowed : Bool) (l' : List ℕ) (v' : List ℤ) : Type 0 where
  pub moved : Option ℕ
  pub out : List ℕ
  pub may : is_some moved ≡ allowed
  pub chosen : Chosen program rows n H count tick b l v [] 0 moved l' v' out
