-- Nodes that stand a period's sleeps back. Assumes nothing.
use mathlib.Core.Path.{◌≡◌, refl, sym, ap, ap₂, ◌∙◌}
use mathlib.Core.List.{List, [], map}
use Prim.Native.Nat.{ℕ, ◌+◌, ◌-◌, ◌*◌, ◌≤◌, ◌<◌}
use native.Mathlib.Omega.{arith}
use borrow.Author.Count.{below_more}
use lib.IntN.{ℤ}
use lib.ListN.{length, get_or, set}
use Rattle.model.specs.Machine.{Node}
use Rattle.model.specs.Run.{Stand, sleeping, sending, listening, finishing, adding, working, taking, elsewhere, nowhere, stand_of}
use Rattle.recurrence.proofs.Shift
use Rattle.later_runs.proofs.Front.{delayed}
use Rattle.rows.specs.Rows.{rows_of}
use Rattle.node.specs.declared.Node as held
use Rattle.node.specs.Views.{Within, node_of}
use Rattle.stand.specs.Stands.{due_tick, last_tick}
use Rattle.registers.specs.Words.{word_in, node_in, part_in, held_in, row_in, wake_tick_in, with_sleeps}
use Rattle.registers.proofs.Frames.{part_alike, held_alike, put_there, put_beside, put_others, put_length}
use Rattle.machine.specs.Running.{RowsStand, ready_at, view_in}
use Rattle.turning.specs.Turned.{between, MayTurn, NodeTurned, Turned}

-- fewer sleeps are within what more are
pub fewer_within : {m : ℕ} {r : held.Node} (k : ℕ) → k ≤ r.sleeps → Within m r → Within m (with_sleeps r k)
fewer_within k h w = record { t = w.t; clocks = w.clocks; sleeps = omega (arith, w.sleeps) }

-- when a node is due and when it is late does not rest on its sleeps
due_rested : (q : Node) (k : ℕ) (x : Stand) → due_tick (Rattle.recurrence.proofs.Shift.with_sleeps q k) x ≡ due_tick q x
due_rested q k sleeping = refl
due_rested q k (sending a) = refl
due_rested q k (listening qs) = refl
due_rested q k finishing = refl
due_rested q k (adding v z) = refl
due_rested q k working = refl
due_rested q k taking = refl
due_rested q k elsewhere = refl
due_rested q k nowhere = refl

last_rested : (q : Node) (k next : ℕ) (x : Stand) → last_tick (Rattle.recurrence.proofs.Shift.with_sleeps q k) next x ≡ last_tick q next x
last_rested q k next sleeping = refl
last_rested q k next (sending a) = refl
last_rested q k next (listening qs) = refl
last_rested q k next finishing = refl
last_rested q k next (adding v z) = refl
last_rested q k next working = refl
last_rested q k next taking = refl
last_rested q k next elsewhere = refl
last_rested q k next nowhere = refl

-- ## The words, node after node

-- the first k nodes stand at their rows with so many sleeps fewer; all else is as it was
pub record SetBack (fewer : List ℕ) (first : ℕ) (l₀ l : List ℕ) (k : ℕ) : Type 0 where
  pub long : length l ≡ length l₀
  pub row : (c : ℕ) → c < k → word_in l c 25 ≡ first + c
  pub sleeps : (c : ℕ) → c < k → word_in l c 20 ≡ word_in l₀ c 20 - get_or fewer c 0
  pub beside : (c i : ℕ) → c < k → i < 32 → (i ≡ 25 → ⊥) → (i ≡ 20 → ⊥) → word_in l c i ≡ word_in l₀ c i
  pub rest : (c i : ℕ) → k ≤ c → i < 32 → word_in l c i ≡ word_in l₀ c i

pub none_back : (fewer : List ℕ) (first : ℕ) (l : List ℕ) → SetBack fewer first l l 0
none_back fewer first l = record { long = refl; row = λ c h. absurd (omega arith); sleeps = λ c h. absurd (omega arith); beside = λ c i h b d e. refl; rest = λ c i h b. refl }

-- one more
module _ {fewer : List ℕ} {first : ℕ} {l₀ l : List ℕ} {k : ℕ} (s : SetBack fewer first l₀ l k) (room : 256 ≤ length l) (few : k < 8) {l' : List ℕ}
    (e : l' ≡ set (set l (k * 32 + 25) (first + k)) (k * 32 + 20) (word_in l k 20 - get_or fewer k 0)) where
  abbrev l₁ : List ℕ
  l₁ = set l (k * 32 + 25) (first + k)

  long₁ : length l₁ ≡ length l
  long₁ = put_length l k 25 (first + k) refl

  here : (i : ℕ) → (i ≡ 25 → ⊥) → (i ≡ 20 → ⊥) → word_in l' k i ≡ word_in l k i
  here i d b = put_beside l₁ k 20 (word_in l k 20 - get_or fewer k 0) e i b ∙ put_beside l k 25 (first + k) refl i d

  others : (c : ℕ) → (c ≡ k → ⊥) → (i : ℕ) → i < 32 → word_in l' c i ≡ word_in l c i
  others c d i h =
      (put_others l₁ k 20 (word_in l k 20 - get_or fewer k 0) e [] c d (omega arith)).words i h ∙ (put_others l k 25 (first + k) refl [] c d (omega arith)).words i h

  pub one_back : SetBack fewer first l₀ l' (k + 1)
  one_back =
      record {
        long = put_length l₁ k 20 (word_in l k 20 - get_or fewer k 0) e ∙ long₁ ∙ s.long;
        row =
            below_more (λ c. word_in l' c 25 ≡ first + c) k (λ c h. others c (λ p. omega arith) 25 (omega arith) ∙ s.row c h)
            (put_beside l₁ k 20 (word_in l k 20 - get_or fewer k 0) e 25 (λ p. omega arith) ∙ put_there l k 25 (first + k) refl room few (omega arith));
        sleeps =
            below_more (λ c. word_in l' c 20 ≡ word_in l₀ c 20 - get_or fewer c 0) k (λ c h. others c (λ p. omega arith) 20 (omega arith) ∙ s.sleeps c h)
            (put_there l₁ k 20 (word_in l k 20 - get_or fewer k 0) e (omega (arith, long₁, room)) few (omega arith) ∙ ap (λ (x : ℕ). x - get_or fewer k 0) (s.rest k 20 (omega arith) (omega arith)));
        beside =
            λ c i h. below_more (λ c. i < 32 → (i ≡ 25 → ⊥) → (i ≡ 20 → ⊥) → word_in l' c i ≡ word_in l₀ c i) k
            (λ c h b x y. others c (λ p. omega arith) i b ∙ s.beside c i h b x y)
            (λ b x y. here i x y ∙ s.rest k i (omega arith) b) c h;
        rest = λ c i h b. others c (λ p. omega arith) i b ∙ s.rest c i (omega arith) b;
      }

-- what is asked for the next one
pub next_fewer : {fewer : List ℕ} {first : ℕ} {l₀ l : List ℕ} {k : ℕ} → SetBack fewer first l₀ l k → get_or fewer k 0 ≤ word_in l₀ k 20 → get_or fewer k 0 ≤ word_in l k 20
next_fewer {fewer} {first} {l₀} {l} {k} s h = omega (arith, s.rest k 20 (omega arith) (omega arith))

-- ## All of them

pub rows_stand : (rows rows' : List ℕ) {n : ℕ} → length rows' ≡ length rows → RowsStand rows n → RowsStand rows' n
rows_stand rows rows' e r = record { few = r.few; fits = omega (arith, e, r.fits) }

module _ {program rows : List ℕ} {n : ℕ} {l : List ℕ} {v : List ℤ} {count first second period : ℕ} {fewer : List ℕ} (m : MayTurn program rows n l v count first second period fewer)
    (rows' : List ℕ) (moved : rows_of rows' n ≡ map (delayed period) (rows_of rows n)) {l' : List ℕ} {k : ℕ} (s : SetBack fewer first l l' k) (all : count ≤ k) (c : ℕ) (h : c < count) where
  word : (i : ℕ) → i < 32 → (i ≡ 25 → ⊥) → (i ≡ 20 → ⊥) → word_in l' c i ≡ word_in l c i
  word i b x y = s.beside c i (omega arith) b x y

  low : (i : ℕ) → i < 20 → word_in l' c i ≡ word_in l c i
  low i b = word i (omega arith) (λ p. omega arith) (λ p. omega arith)

  high : (i : ℕ) → 21 ≤ i → i < 25 → word_in l' c i ≡ word_in l c i
  high i a b = word i (omega arith) (λ p. omega arith) (λ p. omega arith)

  fewer_sleeps : word_in l' c 20 ≡ word_in l c 20 - between (rows_of rows n) first second c
  fewer_sleeps = s.sleeps c (omega arith) ∙ ap (λ (x : ℕ). word_in l c 20 - x) (m.fewer_is c h)

  node_back : node_in l' v c ≡ with_sleeps (node_in l v c) ((node_in l v c).sleeps - between (rows_of rows n) first second c)
  node_back =
      rw (
        low 0 (omega arith),
        low 1 (omega arith),
        low 2 (omega arith),
        low 3 (omega arith),
        low 4 (omega arith),
        low 5 (omega arith),
        low 6 (omega arith),
        low 7 (omega arith),
        low 8 (omega arith),
        low 9 (omega arith),
        low 10 (omega arith),
        low 11 (omega arith),
        low 12 (omega arith),
        low 13 (omega arith),
        low 14 (omega arith),
        low 15 (omega arith),
        low 16 (omega arith),
        low 17 (omega arith),
        low 18 (omega arith),
        low 19 (omega arith),
        fewer_sleeps,
      )

  view_back : view_in program l' v c ≡ Rattle.recurrence.proofs.Shift.with_sleeps (view_in program l v c) ((node_in l v c).sleeps - between (rows_of rows n) first second c)
  view_back =
      ap (λ (p : List ℕ). node_of p (held_in l' c) (node_in l' v c)) (part_alike program l l' c high)
      ∙ ap₂ (node_of (part_in program l c)) (held_alike l l' c high) node_back

  wakes_same : wake_tick_in l' c ≡ wake_tick_in l c
  wakes_same = word 28 (omega arith) (λ p. omega arith) (λ p. omega arith)

  due_same : due_tick (view_in program l' v c) (stand_of (view_in program l' v c)) ≡ due_tick (view_in program l v c) (stand_of (view_in program l v c))
  due_same = ap (λ (q : Node). due_tick q (stand_of q)) view_back ∙ due_rested (view_in program l v c) ((node_in l v c).sleeps - between (rows_of rows n) first second c) (stand_of (view_in program l v c))

  -- the ready of its row is that of the row before
  ready_same : ready_at (rows_of rows' n) (row_in l' c) ≡ ready_at (rows_of rows n) (row_in l c)
  ready_same = ap₂ ready_at moved (s.row c (omega arith)) ∙ m.same_ready c h

  last_same : last_tick (view_in program l' v c) (ready_at (rows_of rows' n) (row_in l' c)) (stand_of (view_in program l' v c)) ≡ last_tick (view_in program l v c) (ready_at (rows_of rows n) (row_in l c)) (stand_of (view_in program l v c))
  last_same =
      ap₂ (λ (q : Node) (x : ℕ). last_tick q x (stand_of q)) view_back ready_same
      ∙ last_rested (view_in program l v c) ((node_in l v c).sleeps - between (rows_of rows n) first second c) (ready_at (rows_of rows n) (row_in l c)) (stand_of (view_in program l v c))

  pub node_turned : NodeTurned program rows' n l v c (between (rows_of rows n) first second c) (first + c) l' v
  node_turned =
      record {
        node = node_back;
        row_is = s.row c (omega arith);
        beside = high;
        wakes = wakes_same;
        finish = word 29 (omega arith) (λ p. omega arith) (λ p. omega arith);
        due = word 26 (omega arith) (λ p. omega arith) (λ p. omega arith) ∙ (m.standing.each c h).due ∙ sym (ap₂ (λ (x k : ℕ). x + k) due_same wakes_same);
        last = word 27 (omega arith) (λ p. omega arith) (λ p. omega arith) ∙ (m.standing.each c h).last ∙ sym (ap₂ (λ (x k : ℕ). x + k) last_same wakes_same);
      }

pub all_turned : {rows : List ℕ} {n : ℕ} {l : List ℕ} {count first period : ℕ} {fewer rows' l' : List ℕ} {k : ℕ}
    → (rows_of rows' n ≡ map (delayed period) (rows_of rows n)) × (length rows' ≡ length rows) → SetBack fewer first l l' k → count ≤ k
    → (program : List ℕ) (v : List ℤ) (second : ℕ) → MayTurn program rows n l v count first second period fewer → Turned program rows n l v count first second period rows' l' v
all_turned {rows} {n} {l} {count} {first} {period} {fewer} {rows'} {l'} {k} (e, same) s h program v second m =
    record {
      moved = e;
      same = same;
      stand = rows_stand rows rows' same m.standing.listed;
      eight = record { words = omega (arith, s.long, m.standing.eight.words); values = m.standing.eight.values };
      each = node_turned m rows' e s h;
    }
