-- Rows one by one: what a row added, or messages put, make of the rows and of what is known of them. Assumes nothing.
use mathlib.Core.Path.{◌≡◌, refl, ap₂, ◌∙◌}
use mathlib.Core.List.{List, [], ◌∷◌, map}
use mathlib.Core.Option.{none}
use Prim.Native.Nat.{ℕ, zero, suc, ◌+◌, ◌*◌, ◌≤◌, ◌<◌}
use native.Mathlib.Omega.{arith}
use borrow.Author.Count.{below_more}
use lib.ListN.{length, get_or}
use lib.Seq.{sets, length-sets}
use Rattle.model.specs.Lists.{snoc}
use Rattle.model.specs.Table.{size}
use Rattle.model.specs.Places.{arc_place, start_of, read_of, component_in}
use Rattle.model.specs.Schedule.{Passage, message_in, with_message, finished}
use Rattle.rows.specs.Rows.{num, row_passage, rows_from, rows_of, RowPlaced, RowsPlaced, MessagesPut}
use Rattle.rows.proofs.Stored.{row_others, row_written}
use Rattle.rows.proofs.Sought.{rows_split}
use Rattle.rows.proofs.Relabelled.{same_placed, same_rows}

-- ## The rows as passages

-- rows of the same numbers are the same passages
pub rows_same : (l k : List ℕ) (i n : ℕ) → ((j m : ℕ) → i ≤ j → j < i + n → m < 9 → num k j m ≡ num l j m) → rows_from k i n ≡ rows_from l i n
unfolding rows_from
rows_same l k i zero h = refl
rows_same l k i (suc n) h =
    ap₂ (λ (v : Passage) (vs : List Passage). v ∷ vs) first (rows_same l k (suc i) n (λ j m a b c. h j m (omega arith) (omega arith) c))
  where
    first : row_passage k i ≡ row_passage l i
    first =
        rw (
          h i 0 (omega arith) (omega arith) (omega arith),
          h i 1 (omega arith) (omega arith) (omega arith),
          h i 2 (omega arith) (omega arith) (omega arith),
          h i 3 (omega arith) (omega arith) (omega arith),
          h i 4 (omega arith) (omega arith) (omega arith),
          h i 5 (omega arith) (omega arith) (omega arith),
          h i 6 (omega arith) (omega arith) (omega arith),
        )

-- one row more
pub rows_snoc : (l : List ℕ) (n : ℕ) → rows_of l (n + 1) ≡ snoc (rows_of l n) (row_passage l n)
unfolding rows_from
rows_snoc l n = let e : 0 + n ≡ n = omega arith in rows_split l 0 n 1 ∙ rw e

-- ## A row added

-- what is asked of the numbers of a row that is added after n rows
pub record RowFits (bs l : List ℕ) (n component edge entry ready end place back : ℕ) : Type 0 where
  pub present : component < size (read_of bs).table
  pub there : edge < length (component_in bs component).arcs
  pub stands : place ≡ arc_place bs (start_of bs component) edge
  pub early : entry ≤ ready
  pub window : ready < end
  pub small : end ≤ 200000
  pub order : (j : ℕ) → j < n → num l j 3 ≤ entry
  pub among : back ≤ n
  pub skips : (j : ℕ) → back ≤ j → j < n → num l j 5 ≤ end

module _ (l : List ℕ) (n component edge location entry ready end place back : ℕ) (fits : n * 9 + 9 ≤ length l) where
  -- what `put_row` writes, and the rows then
  abbrev pub new_row : List ℕ
  new_row = component ∷ edge ∷ location ∷ entry ∷ ready ∷ end ∷ 255 ∷ place ∷ back ∷ []

  abbrev pub added : List ℕ
  added = sets l (n * 9) new_row

  new_number : (k : ℕ) → k < 9 → num added n k ≡ get_or new_row k 0
  new_number k h = row_written l new_row n refl k fits h

  old_number : (j k : ℕ) → j < n → k < 9 → num added j k ≡ num l j k
  old_number j k a h = row_others l new_row n refl j k (λ e. omega arith) h

  abbrev pub new_passage : Passage
  new_passage =
      record {
        component = component;
        edge = edge;
        entry = record { location = location; tick = entry; clocks = []; values = [] };
        ready = ready;
        end = end;
        message = none;
      }

  pub passage_added : row_passage added n ≡ new_passage
  passage_added =
      rw (
        new_number 0 (omega arith),
        new_number 1 (omega arith),
        new_number 2 (omega arith),
        new_number 3 (omega arith),
        new_number 4 (omega arith),
        new_number 5 (omega arith),
        new_number 6 (omega arith),
      )

  pub rows_added : rows_of added (n + 1) ≡ snoc (rows_of l n) new_passage
  rows_added =
      rows_snoc added n
      ∙ ap₂ snoc (rows_same l added 0 n (λ j m a b c. old_number j m (omega arith) c)) passage_added

  module _ (bs : List ℕ) (r : RowsPlaced bs l n) (f : RowFits bs l n component edge entry ready end place back) where
    new_placed : RowPlaced bs added n
    new_placed =
        record {
          present = rw (new_number 0 (omega arith)) f.present;
          there = rw (new_number 0 (omega arith), new_number 1 (omega arith)) f.there;
          place = rw (new_number 0 (omega arith), new_number 1 (omega arith), new_number 7 (omega arith)) f.stands;
          early = rw (new_number 3 (omega arith), new_number 4 (omega arith)) f.early;
          window = rw (new_number 4 (omega arith), new_number 5 (omega arith)) f.window;
          small = rw (new_number 5 (omega arith)) f.small;
        }

    old_placed : (i : ℕ) → i < n → RowPlaced bs added i
    old_placed i h = same_placed l added n (λ j m a b d. old_number j m a b) bs i h (r.row i h)

    new_order : (i : ℕ) → i < n → num added i 3 ≤ num added n 3
    new_order i h = rw (old_number i 3 h (omega arith), new_number 3 (omega arith)) (f.order i h)

    old_order : (j : ℕ) → j < n → (i : ℕ) → i ≤ j → num added i 3 ≤ num added j 3
    old_order j h i a = rw (old_number i 3 (omega arith) (omega arith), old_number j 3 h (omega arith)) (r.order i j a h)

    old_back : (j : ℕ) → j < n → num added j 8 ≤ j
    old_back j h = rw (old_number j 8 h (omega arith)) (r.back j h)

    new_back : num added n 8 ≤ n
    new_back = rw (new_number 8 (omega arith)) f.among

    old_skips : (j : ℕ) → j < n → (i : ℕ) → num added j 8 ≤ i → i < j → num added i 5 ≤ num added j 5
    old_skips j h i a c =
        let b : num l j 8 ≤ i = omega (arith, old_number j 8 h (omega arith)) in
        rw (old_number i 5 (omega arith) (omega arith), old_number j 5 h (omega arith)) (r.skips j i h b c)

    new_skips : (i : ℕ) → num added n 8 ≤ i → i < n → num added i 5 ≤ num added n 5
    new_skips i a c =
        let b : back ≤ i = omega (arith, new_number 8 (omega arith)) in
        rw (old_number i 5 c (omega arith), new_number 5 (omega arith)) (f.skips i b c)

    -- n + 1 rows of a schedule
    pub placed_added : n < 1024 → RowsPlaced bs added (n + 1)
    placed_added h =
        record {
          valid = r.valid;
          few = omega arith;
          fits = omega (arith, length-sets l (n * 9) new_row);
          row = below_more (RowPlaced bs added) n old_placed new_placed;
          order = λ i j a b.
              below_more (λ (k : ℕ). (m : ℕ) → m ≤ k → num added m 3 ≤ num added k 3) n old_order
              (λ m c. below_more (λ (k : ℕ). num added k 3 ≤ num added n 3) n new_order (omega arith) m (omega arith)) j b i a;
          back = below_more (λ (k : ℕ). num added k 8 ≤ k) n old_back new_back;
          skips = λ j i b a c. below_more (λ (k : ℕ). (m : ℕ) → num added k 8 ≤ m → m < k → num added m 5 ≤ num added k 5) n old_skips new_skips j b i a c;
        }

-- ## Messages put

module _ (bs : List ℕ) (H n : ℕ) (before after : List ℕ) (p : MessagesPut bs H n before after) where
  pub put_placed : RowsPlaced bs before n → RowsPlaced bs after n
  put_placed r = same_rows before after n p.rest bs p.same r

  passage_put : (i : ℕ) → i < n → row_passage after i ≡ with_message (row_passage before i) (message_in (read_of bs).table H (rows_of before n) (row_passage before i))
  passage_put i h =
      rw (
        p.rest i 0 h (omega arith) (λ e. omega arith),
        p.rest i 1 h (omega arith) (λ e. omega arith),
        p.rest i 2 h (omega arith) (λ e. omega arith),
        p.rest i 3 h (omega arith) (λ e. omega arith),
        p.rest i 4 h (omega arith) (λ e. omega arith),
        p.rest i 5 h (omega arith) (λ e. omega arith),
        p.message i h,
      )

  rows_put : (i m : ℕ) → i + m ≤ n → rows_from after i m ≡ map (λ v. with_message v (message_in (read_of bs).table H (rows_of before n) v)) (rows_from before i m)
  unfolding rows_from
  rows_put i zero h = refl
  rows_put i (suc m) h = ap₂ (λ (v : Passage) (vs : List Passage). v ∷ vs) (passage_put i (omega arith)) (rows_put (suc i) m (omega arith))

  -- the rows are the finished schedule
  pub rows_finished : rows_of after n ≡ finished (read_of bs).table H (rows_of before n)
  unfolding finished
  rows_finished = rows_put 0 n (omega arith)
