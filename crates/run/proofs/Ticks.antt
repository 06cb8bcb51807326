-- A tick by the words that the slices keep: whether a node is due, and which is the first late one. Assumes nothing.
use mathlib.Core.Path.{◌≡◌, refl, sym, ap, ◌∙◌}
use mathlib.Core.Bool.{Bool, true, false, cond, ◌&&◌, ◌||◌}
use mathlib.Core.List.{List, [], ◌∷◌, map}
use mathlib.Core.Logic.{by_cases}
use mathlib.Core.Option.{Option, none, some}
use Prim.Native.Nat.{ℕ, zero, suc, ◌+◌, ◌-◌, ◌≤◌, ◌<◌}
use native.Mathlib.Omega.{arith}
use native.Mathlib.Decide.{ℕ_discrete}
use borrow.Author.Tests.{ltb-true, ltb-false, lt-ltb, le-ltb, eq-eqb, ne_eqb}
use lib.Dec.{leb, ltb, eqb}
use lib.IntN.{ℤ}
use lib.ListN.{length, drop, drop_of_length-le}
use lib.Seq.{drop-cons, drop-nil}
use Rattle.model.specs.Lists.{any, from, below}
use Rattle.model.specs.Schedule.{Passage, own}
use Rattle.model.specs.Checks.{no_passage, passage_at}
use Rattle.model.specs.Machine.{Node}
use Rattle.model.specs.Run.{Setting, offset_of, own_tick, awake, ready_of_nth, Run, Stand, sleeping, sending, listening, finishing, adding, working, taking, elsewhere, nowhere, stand_of, due, some_due, overdue, late, late_nodes}
use Rattle.model.proofs.Schedule.Own.{own_here}
use Rattle.model.proofs.Run.OwnClock.{due_shifted, late_shifted}
use Rattle.machine.proofs.Alone.{offset_at}
use Rattle.rows.specs.Rows.{rows_of}
use Rattle.stand.specs.Stands.{never, due_tick, last_tick}
use Rattle.registers.specs.Words.{word_in}
use Rattle.machine.specs.Running.{RowIs, ready_at, setting_in, view_in, Running}
use Rattle.run.specs.Ends.{FirstLate}

-- ## One node

-- a test for equality, turned
turned : (a b : ℕ) → eqb a b ≡ eqb b a
turned a b =
    by_cases (ℕ_discrete a b) (λ e. eq-eqb a b e ∙ sym (eq-eqb b a (sym e))) (λ n. ne_eqb a b n ∙ sym (ne_eqb b a (λ e. n (sym e))))

module _ (g : Setting) (now : ℕ) (r : Node) where
  -- no run reaches that tick
  unmet : now < never → false ≡ eqb never now
  unmet h = sym (ne_eqb never now (λ e. omega arith))

  -- a node is due at its due tick
  due-at : (x : Stand) → now < never → due g now r x ≡ eqb (due_tick r x) now
  due-at sleeping h = turned now r.t
  due-at (sending k) h = unmet h
  due-at (listening qs) h = turned now (r.t + r.d)
  due-at finishing h = unmet h
  due-at (adding v z) h = unmet h
  due-at working h = unmet h
  due-at taking h = unmet h
  due-at elsewhere h = unmet h
  due-at nowhere h = unmet h

  -- a node is late past its last tick
  late-at : (c next : ℕ) (x : Stand) → now < never → overdue g (g.ready c r.sleeps) now ≡ ltb next now → late g now c r x ≡ ltb (last_tick r next x) now
  late-at c next sleeping h o = sym (le-ltb never now (omega arith))
  late-at c next (sending k) h o = refl
  late-at c next (listening qs) h o = refl
  late-at c next finishing h o = refl
  late-at c next (adding v z) h o = refl
  late-at c next working h o = refl
  late-at c next taking h o = o
  late-at c next elsewhere h o = o
  late-at c next nowhere h o = o

-- ## The next passage

-- the ready of the first of these
abbrev first_ready : List Passage → Option ℕ
first_ready [] = none
first_ready (v ∷ vs) = some v.ready

-- the ready of passage k is that of the first one from there on
nth_first : (vs : List Passage) (k : ℕ) → ready_of_nth vs k ≡ first_ready (drop k vs)
nth_first [] k = sym (ap first_ready (drop-nil k))
nth_first (v ∷ vs) zero = refl
nth_first (v ∷ vs) (suc k) = nth_first vs k

-- the row knows it
row_overdue : (g : Setting) (now : ℕ) (S : List Passage) (c k row : ℕ) → RowIs S c k row → now < never
    → overdue g (ready_of_nth (own c S) k) now ≡ ltb (ready_at S row) now
row_overdue g now S c k row R h =
    ap (λ (o : Option ℕ). overdue g o now) (nth_first (own c S) k ∙ ap first_ready (sym R.rest)) ∙ go (ltb row (length S)) refl
  where
    go : (t : Bool) → ltb row (length S) ≡ t → overdue g (first_ready (own c (drop row S))) now ≡ ltb (cond t (passage_at S row).ready never) now
    go true e =
        let there : row < length S = ltb-true row (length S) e in
        ap (λ (vs : List Passage). overdue g (first_ready vs) now)
        (ap (own c) (drop-cons S row no_passage there) ∙ own_here c (passage_at S row) (drop (suc row) S) (R.there there))
    go false e =
        ap (λ (vs : List Passage). overdue g (first_ready (own c vs)) now) (drop_of_length-le S (ltb-false row (length S) e))
        ∙ sym (le-ltb never now (omega arith))

-- ## All nodes

module _ (g : Setting) (now : ℕ) (f : ℕ → Node) where
  -- whether node k is due, is late
  abbrev due_of : ℕ → Bool
  due_of k = awake g k now && due g (own_tick g k now) (f k) (stand_of (f k))

  abbrev late_of : ℕ → Bool
  late_of k = late g (own_tick g k now) k (f k) (stand_of (f k))

  any_due : (w : ℕ → Bool) (i n : ℕ) → ((k : ℕ) → i ≤ k → k < i + n → due_of k ≡ w k) → some_due g now i (map f (from i n)) ≡ any w (from i n)
  unfolding some_due
  any_due w i zero h = refl
  any_due w i (suc n) h =
      rw (h i (omega arith) (omega arith), any_due w (suc i) n (λ k a b. h k (omega arith) (omega arith))) (either (w i) (any w (from (suc i) n)))
    where
      either : (a b : Bool) → cond a true b ≡ a || b
      either true b = refl
      either false b = refl

  none_late : (i n : ℕ) → ((k : ℕ) → i ≤ k → k < i + n → late_of k ≡ false) → late_nodes g now i (map f (from i n)) ≡ []
  unfolding late_nodes
  none_late i zero h = refl
  none_late i (suc n) h = rw (h i (omega arith) (omega arith)) (none_late (suc i) n (λ k a b. h k (omega arith) (omega arith)))

  first-late : (i n r : ℕ) → i ≤ r → r < i + n → ((k : ℕ) → i ≤ k → k < r → late_of k ≡ false) → late_of r ≡ true
      → (ds : List ℕ) × (late_nodes g now i (map f (from i n)) ≡ r ∷ ds)
  unfolding late_nodes
  first-late i zero r a b h e = absurd (omega arith)
  first-late i (suc n) r a b h e = by_cases (ℕ_discrete i r) here (λ q. there q (first-late (suc i) n r (omega arith) (omega arith) (λ k x y. h k (omega arith) y) e))
    where
      after : List ℕ
      after = late_nodes g now (suc i) (map f (from (suc i) n))

      here : i ≡ r → (ds : List ℕ) × (cond (late_of i) (i ∷ after) after ≡ r ∷ ds)
      here q = (after, ap (λ (t : Bool). cond t (i ∷ after) after) (ap late_of q ∙ e) ∙ ap (λ (j : ℕ). j ∷ after) q)

      there : (i ≡ r → ⊥) → (ds : List ℕ) × (after ≡ r ∷ ds) → (ds : List ℕ) × (cond (late_of i) (i ∷ after) after ≡ r ∷ ds)
      there q m = (m.0, ap (λ (t : Bool). cond t (i ∷ after) after) (h i (omega arith) (omega arith)) ∙ m.1)

-- ## The nodes in the slices

module _ (program : List ℕ) (H : ℕ) (rows : List ℕ) (n : ℕ) (l₀ l : List ℕ) (v : List ℤ) (count : ℕ) (s : Run) (R : Running program rows n l v count s)
    (same : setting_in program H rows n l count ≡ setting_in program H rows n l₀ count) (now : ℕ) (early : now < never) where
  -- what the run goes by
  abbrev g : Setting
  g = setting_in program H rows n l₀ count

  abbrev view : ℕ → Node
  view c = view_in program l v c

  offset_is : (c : ℕ) → c < count → offset_of g c ≡ word_in l c 28
  offset_is c h = ap (λ (q : Setting). offset_of q c) (sym same) ∙ offset_at program H rows n l count c h

  -- a node is due, by its own clock, exactly if its word says so
  node_due : (c : ℕ) → c < count → (awake g c now && due g (own_tick g c now) (view c) (stand_of (view c))) ≡ eqb (word_in l c 26) now
  node_due c h =
      let o = offset_of g c in
      let tick = due_tick (view c) (stand_of (view c)) in
      ap (λ (x : Bool). leb o now && x) (due-at g (now - o) (view c) (stand_of (view c)) (omega arith) ∙ turned tick (now - o))
      ∙ (sym (due_shifted o tick now)
      ∙ (ap (λ (k : ℕ). eqb (tick + k) now) (offset_is c h) ∙ ap (λ (w : ℕ). eqb w now) (sym (R.each c h).due)))

  -- somebody is due exactly if the word of one says so
  pub due_said : some_due g now 0 s.nodes ≡ any (λ (c : ℕ). eqb (word_in l c 26) now) (below count)
  due_said =
      ap (some_due g now 0) R.nodes
      ∙ any_due g now view (λ (c : ℕ). eqb (word_in l c 26) now) 0 count
      (λ c a b. node_due c (omega arith))

  late_said : (c : ℕ) → c < count → late g (own_tick g c now) c (view c) (stand_of (view c)) ≡ ltb (word_in l c 27) now
  late_said c h =
      let N = R.each c h in
      let o = offset_of g c in
      let next = ready_at (rows_of rows n) (word_in l c 25) in
      let last = last_tick (view c) next (stand_of (view c)) in
      let before : now - o < never = omega arith in
      late-at g (now - o) (view c) c next (stand_of (view c)) before (row_overdue g (now - o) (rows_of rows n) c (view c).sleeps (word_in l c 25) N.row before)
      ∙ (sym (late_shifted o last now)
      ∙ (ap (λ (k : ℕ). ltb (last + k) now) (offset_is c h) ∙ ap (λ (w : ℕ). ltb w now) (sym N.last)))

  -- nobody is late
  pub late_none : {r : ℕ} → FirstLate l count now r → count ≤ r → late_nodes g now 0 s.nodes ≡ []
  late_none F h =
      ap (late_nodes g now 0) R.nodes
      ∙ none_late g now view 0 count (λ c a b. late_said c (omega arith) ∙ le-ltb (word_in l c 27) now (F.before c (omega arith)))

  -- one is, and no lower one
  pub late_some : {r : ℕ} → FirstLate l count now r → r < count → (ds : List ℕ) × (late_nodes g now 0 s.nodes ≡ r ∷ ds)
  late_some {r} F h =
      let m =
      first-late g now view 0 count r (omega arith) (omega arith)
      (λ c a b. late_said c (omega arith) ∙ le-ltb (word_in l c 27) now (F.before c b))
      (late_said r h ∙ lt-ltb (word_in l r 27) now (F.there h)) in
      (m.0, ap (late_nodes g now 0) R.nodes ∙ m.1)
