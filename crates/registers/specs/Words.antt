-- The registers of the nodes as numbers in two lent slices: 32 words a node, and four variables a node.
use Rattle.std.specs.Prelude.{◌≡◌, Bool, true, false, List, [], ◌∷◌, ℕ, ◌+◌, ◌*◌, ◌%◌, ◌<◌, ◌≤◌, eqb, ℤ, pos, length, get_or, take, drop}
use Rattle.node.specs.declared.Counts.{Counts}
use Rattle.node.specs.declared.Trial.{Trial}
use Rattle.node.specs.declared.Kept.{Kept}
use Rattle.node.specs.declared.Node.{Node}

-- word k of node c; variable k of node c
abbrev pub word_in : List ℕ → ℕ → ℕ → ℕ
word_in l c k = get_or l (c * 32 + k) 0

abbrev pub value_in : List ℤ → ℕ → ℕ → ℤ
value_in v c k = get_or v (c * 4 + k) (pos 0)

-- Words by name: the place of the next statement and t; where the node's part begins and its length, how many clocks and variables the node
-- has, which never change; the row of its next passage, the tick at which it is due, the last tick before it is late.
abbrev pub place_in : List ℕ → ℕ → ℕ
place_in l c = word_in l c 0

abbrev pub ready_tick_in : List ℕ → ℕ → ℕ
ready_tick_in l c = word_in l c 1

abbrev pub part_start : List ℕ → ℕ → ℕ
part_start l c = word_in l c 21

abbrev pub part_length : List ℕ → ℕ → ℕ
part_length l c = word_in l c 22

abbrev pub clock_count : List ℕ → ℕ → ℕ
clock_count l c = word_in l c 23

abbrev pub variable_count : List ℕ → ℕ → ℕ
variable_count l c = word_in l c 24

abbrev pub row_in : List ℕ → ℕ → ℕ
row_in l c = word_in l c 25

abbrev pub due_in : List ℕ → ℕ → ℕ
due_in l c = word_in l c 26

abbrev pub last_in : List ℕ → ℕ → ℕ
last_in l c = word_in l c 27

-- the common tick at which the node's clock starts, its offset; it never changes
abbrev pub wake_tick_in : List ℕ → ℕ → ℕ
wake_tick_in l c = word_in l c 28

-- the tick at which the node's last work finished, by its own clock; 4,294,967,295 where none has
abbrev pub finish_tick_in : List ℕ → ℕ → ℕ
finish_tick_in l c = word_in l c 29

-- the word of a boolean: 1 for true
abbrev pub flag_of : Bool → ℕ
flag_of true = 1
flag_of false = 0

-- words 2 to 5, and the variables
abbrev pub clocks_in : List ℕ → ℕ → List ℕ
clocks_in l c = word_in l c 2 ∷ word_in l c 3 ∷ word_in l c 4 ∷ word_in l c 5 ∷ []

abbrev pub values_in : List ℤ → ℕ → List ℤ
values_in v c = value_in v c 0 ∷ value_in v c 1 ∷ value_in v c 2 ∷ value_in v c 3 ∷ []

-- words 12 to 15, and 16 to 19
abbrev pub trial_in : List ℕ → ℕ → Trial
trial_in l c =
    record {
      ready = word_in l c 12 % 65536;
      ended = eqb (word_in l c 13) 1;
      end = word_in l c 14 % 65536;
      good = eqb (word_in l c 15) 1;
    }

abbrev pub kept_in : List ℕ → ℕ → Kept
kept_in l c =
    record {
      some = eqb (word_in l c 16) 1;
      edge = word_in l c 17 % 256;
      ready = word_in l c 18 % 65536;
      end = word_in l c 19 % 65536;
    }

-- Words 0 to 20 are the registers, in this order: pc, t, four clocks, n, d, location, edge, whether a message was taken and where it leads,
-- the trial's ready, whether it has an end, its end, whether no bound failed, whether an edge is kept, its number, its ready and end, and
-- the sleeps finished.
abbrev pub node_in : List ℕ → List ℤ → ℕ → Node
node_in l v c =
    record {
      pc = place_in l c;
      location = word_in l c 8 % 256;
      clocks = clocks_in l c;
      values = values_in v c;
      t = ready_tick_in l c;
      n = word_in l c 6 % 65536;
      d = word_in l c 7 % 65536;
      edge = word_in l c 9 % 256;
      taken = eqb (word_in l c 10) 1;
      goes = word_in l c 11 % 256;
      tried = trial_in l c;
      kept = kept_in l c;
      sleeps = word_in l c 20;
    }

-- The registers as words, in that order: words 0 to 5, 6 to 11, 12 to 15, 16 to 19.
abbrev pub time_words : ℕ → ℕ → List ℕ → List ℕ
time_words pc t clocks = pc ∷ t ∷ get_or clocks 0 0 ∷ get_or clocks 1 0 ∷ get_or clocks 2 0 ∷ get_or clocks 3 0 ∷ []

abbrev pub place_words : ℕ → ℕ → ℕ → ℕ → Bool → ℕ → List ℕ
place_words n d location edge taken goes = n ∷ d ∷ location ∷ edge ∷ flag_of taken ∷ goes ∷ []

abbrev pub trial_words : Trial → List ℕ
trial_words x = x.ready ∷ flag_of x.ended ∷ x.end ∷ flag_of x.good ∷ []

abbrev pub kept_words : Kept → List ℕ
kept_words k = flag_of k.some ∷ k.edge ∷ k.ready ∷ k.end ∷ []

-- the four variables
abbrev pub four_of : List ℤ → List ℤ
four_of xs = get_or xs 0 (pos 0) ∷ get_or xs 1 (pos 0) ∷ get_or xs 2 (pos 0) ∷ get_or xs 3 (pos 0) ∷ []

-- the node's part, and how many clocks and variables the node has
abbrev pub part_in : List ℕ → List ℕ → ℕ → List ℕ
part_in program l c = take (part_length l c) (drop (part_start l c) program)

abbrev pub held_in : List ℕ → ℕ → Counts
held_in l c = record { clocks = clock_count l c % 256; variables = variable_count l c % 256 }

-- the slices hold eight nodes
pub record Eight (l : List ℕ) (v : List ℤ) : Type 0 where
  pub words : 256 ≤ length l
  pub values : 32 ≤ length v

-- node i's words and variables are what they were
pub record SameNode (l : List ℕ) (v : List ℤ) (l' : List ℕ) (v' : List ℤ) (i : ℕ) : Type 0 where
  pub words : (k : ℕ) → k < 32 → word_in l' i k ≡ word_in l i k
  pub values : (k : ℕ) → k < 4 → value_in v' i k ≡ value_in v i k

-- node c's registers are r now; its other words and all of any other node are what they were
pub record Stored (l : List ℕ) (v : List ℤ) (c : ℕ) (r : Node) (l' : List ℕ) (v' : List ℤ) : Type 0 where
  pub node : node_in l' v' c ≡ r
  pub beside : (k : ℕ) → 21 ≤ k → k < 32 → word_in l' c k ≡ word_in l c k
  pub others : (i : ℕ) → (i ≡ c → ⊥) → SameNode l v l' v' i
  pub length_l : length l' ≡ length l
  pub length_v : length v' ≡ length v

-- ## Registers changed in part

abbrev pub at_place : Node → ℕ → Node
at_place r pc = record { pc = pc; location = r.location; clocks = r.clocks; values = r.values; t = r.t; n = r.n; d = r.d; edge = r.edge; taken = r.taken; goes = r.goes; tried = r.tried; kept = r.kept; sleeps = r.sleeps }

abbrev pub with_clocks : Node → List ℕ → Node
with_clocks r xs = record { pc = r.pc; location = r.location; clocks = xs; values = r.values; t = r.t; n = r.n; d = r.d; edge = r.edge; taken = r.taken; goes = r.goes; tried = r.tried; kept = r.kept; sleeps = r.sleeps }

abbrev pub with_values : Node → List ℤ → Node
with_values r xs = record { pc = r.pc; location = r.location; clocks = r.clocks; values = xs; t = r.t; n = r.n; d = r.d; edge = r.edge; taken = r.taken; goes = r.goes; tried = r.tried; kept = r.kept; sleeps = r.sleeps }

-- in another location, with no message taken
abbrev pub entering : Node → ℕ → Node
entering r x = record { pc = r.pc; location = x; clocks = r.clocks; values = r.values; t = r.t; n = r.n; d = r.d; edge = r.edge; taken = false; goes = r.goes; tried = r.tried; kept = r.kept; sleeps = r.sleeps }

abbrev pub with_trial : Node → Trial → Node
with_trial r x = record { pc = r.pc; location = r.location; clocks = r.clocks; values = r.values; t = r.t; n = r.n; d = r.d; edge = r.edge; taken = r.taken; goes = r.goes; tried = x; kept = r.kept; sleeps = r.sleeps }

abbrev pub with_kept : Node → Kept → Node
with_kept r k = record { pc = r.pc; location = r.location; clocks = r.clocks; values = r.values; t = r.t; n = r.n; d = r.d; edge = r.edge; taken = r.taken; goes = r.goes; tried = r.tried; kept = k; sleeps = r.sleeps }

abbrev pub with_passage : Node → ℕ → ℕ → ℕ → ℕ → Node
with_passage r edge t n d = record { pc = r.pc; location = r.location; clocks = r.clocks; values = r.values; t = t; n = n; d = d; edge = edge; taken = r.taken; goes = r.goes; tried = r.tried; kept = r.kept; sleeps = r.sleeps }

abbrev pub with_sleeps : Node → ℕ → Node
with_sleeps r k = record { pc = r.pc; location = r.location; clocks = r.clocks; values = r.values; t = r.t; n = r.n; d = r.d; edge = r.edge; taken = r.taken; goes = r.goes; tried = r.tried; kept = r.kept; sleeps = k }
