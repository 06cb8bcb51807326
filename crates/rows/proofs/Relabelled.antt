-- Messages are sought by component, edge, ready and end alone: rows that agree in all but the message find the same. Assumes nothing.
use mathlib.Core.Path.{◌≡◌, refl, sym, ap, ap₂, ◌∙◌}
use mathlib.Core.Bool.{Bool, true, false, cond}
use mathlib.Core.List.{List, [], ◌∷◌, map}
use mathlib.Core.Option
use mathlib.Core.Option.{Option, none, some}
use Prim.Native.Nat.{ℕ, zero, suc, ◌+◌, ◌*◌, ◌≤◌, ◌<◌}
use native.Mathlib.Omega.{arith}
use borrow.Author.Tests.{eqb-true, eqb-false}
use lib.Dec.{eqb}
use lib.ListN.{length, get_or, set, length-set}
use lib.Seq.{get_or-set_same, get_or-set_other}
use Rattle.model.specs.Table.{Table}
use Rattle.model.specs.Window.{listens, channel_of}
use Rattle.model.specs.Places.{read_of}
use Rattle.model.specs.Schedule.{Passage, passage_arc, heard_by, ends_sooner, sooner, earliest, carried, message_in, bare}
use Rattle.rows.specs.Rows.{num, message_of, row_passage, rows_from, rows_of, RowPlaced, RowsPlaced, Told, MessagesPut}

-- ## What a search reads: component, edge, ready and end

-- a change of passages that keeps these
pub record Keeps (f : Passage → Passage) : Type 0 where
  pub component : (v : Passage) → (f v).component ≡ v.component
  pub edge : (v : Passage) → (f v).edge ≡ v.edge
  pub ready : (v : Passage) → (f v).ready ≡ v.ready
  pub end : (v : Passage) → (f v).end ≡ v.end

module _ (f : Passage → Passage) (k : Keeps f) where
  kept_cond : (t : Bool) (a b : Option Passage) → cond t (Option.map f a) (Option.map f b) ≡ Option.map f (cond t a b)
  kept_cond true a b = refl
  kept_cond false a b = refl

  kept_arc : (T : Table) (v : Passage) → passage_arc T (f v) ≡ passage_arc T v
  kept_arc T v = rw (k.component v, k.edge v)

  kept_ends : (s b : Passage) → ends_sooner (f s) (f b) ≡ ends_sooner s b
  kept_ends s b = rw (k.end s, k.end b, k.component s, k.component b)

  kept_sooner : (b : Option Passage) (s : Passage) → sooner (Option.map f b) (f s) ≡ Option.map f (sooner b s)
  kept_sooner none s = refl
  kept_sooner (some b) s =
      ap (λ (t : Bool). cond t (some (f s)) (some (f b))) (kept_ends s b) ∙ kept_cond (ends_sooner s b) (some s) (some b)

  kept_heard : (T : Table) (H : ℕ) (v s : Passage) → heard_by T H (f v) (f s) ≡ heard_by T H v s
  kept_heard T H v s =
      rw (k.component v, k.component s, k.edge v, k.edge s, k.ready v, k.ready s, k.end v, k.end s)

  kept_earliest : (p q : Passage → Bool) → ((v : Passage) → q (f v) ≡ p v) → (vs : List Passage) (b : Option Passage)
      → earliest q (map f vs) (Option.map f b) ≡ Option.map f (earliest p vs b)
  kept_earliest p q h [] b = refl
  kept_earliest p q h (v ∷ vs) b = ap (earliest q (map f vs)) one ∙ kept_earliest p q h vs (cond (p v) (sooner b v) b)
    where
      one : cond (q (f v)) (sooner (Option.map f b) (f v)) (Option.map f b) ≡ Option.map f (cond (p v) (sooner b v) b)
      one = rw (h v, kept_sooner b v) (kept_cond (p v) (sooner b v) b)

  kept_carried : (T : Table) (o : Option Passage) → carried T (Option.map f o) ≡ carried T o
  kept_carried T none = refl
  kept_carried T (some v) = ap channel_of (kept_arc T v)

  -- finds the same messages
  pub kept_message : (T : Table) (H : ℕ) (vs : List Passage) (v : Passage) → message_in T H (map f vs) (f v) ≡ message_in T H vs v
  unfolding message_in
  kept_message T H vs v =
      let p = heard_by T H v in
      let found : carried T (earliest (heard_by T H (f v)) (map f vs) none) ≡ carried T (earliest p vs none) =
      ap (carried T) (kept_earliest p (heard_by T H (f v)) (kept_heard T H v) vs none) ∙ kept_carried T (earliest p vs none) in
      rw (kept_arc T v) (ap (λ (o : Option ℕ). cond (listens (passage_arc T v)) o (channel_of (passage_arc T v))) found)

-- without the message
pub bare_message : (T : Table) (H : ℕ) (vs : List Passage) (v : Passage) → message_in T H (map bare vs) (bare v) ≡ message_in T H vs v
bare_message = kept_message bare (record { component = λ v. refl; edge = λ v. refl; ready = λ v. refl; end = λ v. refl })

-- ## Rows that agree in all but the message

module _ (l k : List ℕ) (n : ℕ) (agree : (i m : ℕ) → i < n → m < 9 → (m ≡ 6 → ⊥) → num k i m ≡ num l i m) where
  pub row_bare : (i : ℕ) → i < n → bare (row_passage k i) ≡ bare (row_passage l i)
  row_bare i h =
      rw (
        agree i 0 h (omega arith) (λ e. omega arith),
        agree i 1 h (omega arith) (λ e. omega arith),
        agree i 2 h (omega arith) (λ e. omega arith),
        agree i 3 h (omega arith) (λ e. omega arith),
        agree i 4 h (omega arith) (λ e. omega arith),
        agree i 5 h (omega arith) (λ e. omega arith),
      )

  pub rows_bare : (i m : ℕ) → i + m ≤ n → map bare (rows_from k i m) ≡ map bare (rows_from l i m)
  unfolding rows_from
  rows_bare i zero h = refl
  rows_bare i (suc m) h = ap₂ (λ (v : Passage) (vs : List Passage). v ∷ vs) (row_bare i (omega arith)) (rows_bare (suc i) m (omega arith))

  -- find the same message
  pub same_message : (T : Table) (H i : ℕ) → i < n → message_in T H (rows_of k n) (row_passage k i) ≡ message_in T H (rows_of l n) (row_passage l i)
  same_message T H i h =
      sym (bare_message T H (rows_of k n) (row_passage k i))
      ∙ ap₂ (message_in T H) (rows_bare 0 n (omega arith)) (row_bare i h)
      ∙ bare_message T H (rows_of l n) (row_passage l i)

  pub same_placed : (bs : List ℕ) (i : ℕ) → i < n → RowPlaced bs l i → RowPlaced bs k i
  same_placed bs i h r =
      let e0 = agree i 0 h (omega arith) (λ e. omega arith) in
      let e1 = agree i 1 h (omega arith) (λ e. omega arith) in
      let e3 = agree i 3 h (omega arith) (λ e. omega arith) in
      let e4 = agree i 4 h (omega arith) (λ e. omega arith) in
      let e5 = agree i 5 h (omega arith) (λ e. omega arith) in
      let e7 = agree i 7 h (omega arith) (λ e. omega arith) in
      record {
        present = rw e0 r.present;
        there = rw (e0, e1) r.there;
        place = rw (e0, e1, e7) r.place;
        early = rw (e3, e4) r.early;
        window = rw (e4, e5) r.window;
        small = rw e5 r.small;
      }

  pub same_rows : (bs : List ℕ) → length k ≡ length l → RowsPlaced bs l n → RowsPlaced bs k n
  same_rows bs e r =
      record {
        valid = r.valid;
        few = r.few;
        fits = rw e r.fits;
        row = λ i h. same_placed bs i h (r.row i h);
        order = λ i j a h.
            rw (agree i 3 (omega arith) (omega arith) (λ e. omega arith), agree j 3 h (omega arith) (λ e. omega arith)) (r.order i j a h);
        back = λ j h. rw (agree j 8 h (omega arith) (λ e. omega arith)) (r.back j h);
        skips = λ j i h a c.
            let b : num l j 8 ≤ i = omega (arith, agree j 8 h (omega arith) (λ e. omega arith)) in
            rw (agree i 5 (omega arith) (omega arith) (λ e. omega arith), agree j 5 h (omega arith) (λ e. omega arith)) (r.skips j i h b c);
      }

-- ## Messages put row by row

-- the first i of n rows have their messages
pub record PutBelow (bs : List ℕ) (H n : ℕ) (before after : List ℕ) (i : ℕ) : Type 0 where
  pub same : length after ≡ length before
  pub message : (j : ℕ) → j < i → message_of (num after j 6) ≡ message_in (read_of bs).table H (rows_of before n) (row_passage before j)
  pub rest : (j k : ℕ) → j < n → k < 9 → (k ≡ 6 → ⊥) → num after j k ≡ num before j k
  pub later : (j : ℕ) → i ≤ j → num after j 6 ≡ num before j 6
  pub past : (j : ℕ) → n * 9 ≤ j → get_or after j 0 ≡ get_or before j 0

pub put_none : (bs : List ℕ) (H n : ℕ) (l : List ℕ) → PutBelow bs H n l l 0
put_none bs H n l =
    record { same = refl; message = λ j h. absurd (omega arith); rest = λ j k h b d. refl; later = λ j h. refl; past = λ j h. refl }

module _ (bs : List ℕ) (H n : ℕ) (l k : List ℕ) (i : ℕ) (r : RowsPlaced bs l n) (p : PutBelow bs H n l k i) where
  -- the rows are still a schedule's
  pub still_placed : RowsPlaced bs k n
  still_placed = same_rows l k n p.rest bs p.same r

  pub put_within : i < n → i * 9 + 6 < length k
  put_within h = omega (arith, r.fits, p.same)

  -- one more
  pub put_turn : (m : ℕ) → i < n → message_of m ≡ message_in (read_of bs).table H (rows_of k n) (row_passage k i)
      → PutBelow bs H n l (set k (i * 9 + 6) m) (i + 1)
  put_turn m h e =
      record {
        same = length-set k (i * 9 + 6) m ∙ p.same;
        message = λ j b. at_row j b (eqb j i) refl;
        rest = λ j c a b d. get_or-set_other k (i * 9 + 6) (j * 9 + c) m 0 (λ q. d (omega arith)) ∙ p.rest j c a b d;
        later = λ j a. get_or-set_other k (i * 9 + 6) (j * 9 + 6) m 0 (λ q. omega arith) ∙ p.later j (omega arith);
        past = λ j a. get_or-set_other k (i * 9 + 6) j m 0 (λ q. omega arith) ∙ p.past j a;
      }
    where
      at_row : (j : ℕ) → j < i + 1 → (t : Bool) → eqb j i ≡ t
          → message_of (num (set k (i * 9 + 6) m) j 6) ≡ message_in (read_of bs).table H (rows_of l n) (row_passage l j)
      at_row j b true q =
          let s : j ≡ i = eqb-true j i q in
          rw (s, get_or-set_same k (i * 9 + 6) m 0 (put_within h)) (e ∙ same_message l k n p.rest (read_of bs).table H i h)
      at_row j b false q =
          let d = eqb-false j i q in
          let c : j < i = omega arith in
          rw (get_or-set_other k (i * 9 + 6) (j * 9 + 6) m 0 (λ q. d (omega arith))) (p.message j c)

  -- the next row has its message if it had it
  pub still_told : i < n → (num l i 5 < H → Told bs H l n i) → num k i 5 < H → Told bs H k n i
  still_told h t e =
      ap message_of (p.later i (omega arith))
      ∙ t (omega (arith, p.rest i 5 h (omega arith) (λ q. omega arith)))
      ∙ sym (same_message l k n p.rest (read_of bs).table H i h)

  pub put_all : n ≤ i → MessagesPut bs H n l k
  put_all h = record { same = p.same; message = λ j a. p.message j (omega arith); rest = p.rest; past = p.past }
