-- The message sought among the rows: those that ended too early, and those that open too late, can be left out. Assumes nothing.
use mathlib.Core.Path.{◌≡◌, refl, sym, ap, subst, ◌∙◌}
use mathlib.Core.Bool.{Bool, true, false, cond, ◌&&◌, ◌||◌, not}
use mathlib.Core.List.{List, [], ◌∷◌, ◌++◌}
use mathlib.Core.Option.{Option, none, some}
use mathlib.Core.Logic.{inl, inr}
use Rattle.std.specs.Prelude.{◌⊎◌, IfSome}
use Rattle.std.specs.declared.option.Option.{Option as Found}
use Rattle.std.specs.declared.option.Option.TheVariants.{Some, None}
use Prim.Native.Nat.{ℕ, zero, suc, ◌+◌, ◌-◌, ◌*◌, ◌≤◌, ◌<◌}
use native.Mathlib.Numerals.{add-one}
use native.Mathlib.Omega.{arith}
use borrow.Author.Tests.{lt-ltb, le-ltb, eq-eqb, ltb-true, ltb-false, eqb-true, eqb-false}
use lib.Dec.{ltb, eqb}
use Rattle.model.specs.Table.{Table}
use Rattle.model.specs.Window.{channel_of, listens}
use Rattle.model.specs.Places.{read_of}
use Rattle.model.specs.Schedule.{Passage, passage_arc, names, others, heard_by, ends_sooner, sooner, earliest, carried, message_in}
use Rattle.model.proofs.Basics.Bools.{clash}
use Rattle.rows.specs.Rows.{num, in_time, row_passage, rows_from, rows_of, Linked, RowsPlaced, sooner_of}

-- ## Tests

and_false : (a : Bool) → a && false ≡ false
and_false true = refl
and_false false = refl

and_true : (a : Bool) → a && true ≡ a
and_true true = refl
and_true false = refl

turned : (a b c : Bool) → a && b && c ≡ b && c && a
turned true true true = refl
turned true true false = refl
turned true false c = refl
turned false true c = sym (and_false c)
turned false false c = refl

-- ## What is computed from the numbers of two rows

-- row j for row i: it ends too late ..
pub ends-late : (l : List ℕ) (i j H : ℕ) → num l i 5 ≤ num l j 5 → false ≡ in_time H (row_passage l i) (row_passage l j)
ends-late l i j H h = rw (le-ltb (num l j 5) (num l i 5) h, and_false, and_false)

-- .. or before it: `ri`, `rj` are the two readies, `ci`, `cj` the components
pub in_time_is : (l : List ℕ) (i j H : ℕ) {ri rj ci cj : ℕ} {after r : Bool}
    → num l j 5 < num l i 5
    → rj ≡ num l j 4 → ri ≡ num l i 4 → after ≡ ltb ri rj && ltb rj H
    → ci ≡ num l i 0 → cj ≡ num l j 0 → r ≡ not (eqb ci cj) && after
    → r ≡ in_time H (row_passage l i) (row_passage l j)
in_time_is l i j H h a b c d e f = rw (f, c, a, b, d, e, lt-ltb (num l j 5) (num l i 5) h, and_true)

-- row j and row b
pub ends_sooner_is : (l : List ℕ) (j b : ℕ) {ej eb cj cb : ℕ} {same r : Bool}
    → ej ≡ num l j 5 → eb ≡ num l b 5 → cj ≡ num l j 0 → cb ≡ num l b 0
    → same ≡ eqb ej eb && ltb cj cb → r ≡ ltb ej eb || same
    → r ≡ ends_sooner (row_passage l j) (row_passage l b)
ends_sooner_is l j b a c d e f g = rw (g, f, a, c, d, e)

-- ## Rows one after the other

pub rows_split : (l : List ℕ) (i m n : ℕ) → rows_from l i (m + n) ≡ rows_from l i m ++ rows_from l (i + m) n
unfolding rows_from
rows_split l i zero n =
    let e : 0 + n ≡ n = omega arith in
    let f : i + 0 ≡ i = omega arith in
    rw (e, f)
rows_split l i (suc m) n =
    let e : suc m + n ≡ suc (m + n) = omega arith in
    let f : i + suc m ≡ suc i + m = omega arith in
    rw (e, f) (ap (λ (vs : List Passage). row_passage l i ∷ vs) (rows_split l (suc i) m n))

-- ## Links

-- the links of the rows below one of them
pub linked_below : {bs l : List ℕ} {n : ℕ} → RowsPlaced bs l n → (j : ℕ) → j ≤ n → Linked l j
linked_below r j h =
    record {
      few = omega (arith, r.few);
      fits = omega (arith, r.fits);
      back = λ k a. r.back k (omega arith);
      skips = λ k i a b c. r.skips k i (omega arith) b c;
    }

-- row k ended, so the rows from its link on did
pub passed_over : (l : List ℕ) (j k back tick : ℕ) → Linked l j → k < j → back ≡ num l k 8 → num l k 5 < tick
    → ((i : ℕ) → k + 1 ≤ i → i < j → num l i 5 < tick) → (i : ℕ) → back ≤ i → i < j → num l i 5 < tick
passed_over l j k back tick r h e t later i a c = below (ltb i k) refl
  where
    same : (i : ℕ) → i ≡ k → num l i 5 < tick
    same i q = rw q t

    below : (b : Bool) → ltb i k ≡ b → num l i 5 < tick
    below true q = omega (arith, t, r.skips k i h (omega (arith, e)) (ltb-true i k q))
    below false q = beyond (ltb k i) refl
      where
        beyond : (b : Bool) → ltb k i ≡ b → num l i 5 < tick
        beyond true p = later i (omega (arith, ltb-true k i p)) c
        beyond false p = same i (omega (arith, ltb-false i k q, ltb-false k i p))

-- ## The earliest of which p holds

module _ (p : Passage → Bool) where
  pub earliest_append : (vs ws : List Passage) (b : Option Passage) → earliest p (vs ++ ws) b ≡ earliest p ws (earliest p vs b)
  earliest_append [] ws b = refl
  earliest_append (v ∷ vs) ws b = earliest_append vs ws (cond (p v) (sooner b v) b)

  -- rows of which p does not hold change nothing
  pub none_holds : (l : List ℕ) (i n : ℕ) (b : Option Passage) → ((j : ℕ) → i ≤ j → j < i + n → p (row_passage l j) ≡ false) → earliest p (rows_from l i n) b ≡ b
  unfolding rows_from
  none_holds l i zero b h = refl
  none_holds l i (suc n) b h =
      let e : cond (p (row_passage l i)) (sooner b (row_passage l i)) b ≡ b = rw (h i (omega arith) (omega arith)) in
      ap (earliest p (rows_from l (suc i) n)) e ∙ none_holds l (suc i) n b (λ j a c. h j (omega arith) (omega arith))

-- ## Which of two ends sooner, of ends e, f and components c, d

module _ (e c f d : ℕ) where
  soon_true : ltb e f || (eqb e f && ltb c d) ≡ true → (e ≤ f) × (e ≡ f → c < d)
  soon_true h = go (ltb e f) refl (eqb e f) refl (ltb c d) refl
    where
      go : (x : Bool) → ltb e f ≡ x → (y : Bool) → eqb e f ≡ y → (z : Bool) → ltb c d ≡ z → (e ≤ f) × (e ≡ f → c < d)
      go true p y q z r = (omega (arith, ltb-true e f p), λ u. absurd (omega (arith, ltb-true e f p)))
      go false p true q true r = (omega (arith, eqb-true e f q), λ u. ltb-true c d r)
      go false p true q false r = clash (rw (p, q, r) at h)
      go false p false q z r = clash (rw (p, q) at h)

  soon_false : ltb e f || (eqb e f && ltb c d) ≡ false → (f ≤ e) × (e ≡ f → d ≤ c)
  soon_false h = go (ltb e f) refl (eqb e f) refl (ltb c d) refl
    where
      go : (x : Bool) → ltb e f ≡ x → (y : Bool) → eqb e f ≡ y → (z : Bool) → ltb c d ≡ z → (f ≤ e) × (e ≡ f → d ≤ c)
      go true p y q z r = clash (sym (rw p at h))
      go false p true q true r = clash (sym (rw (p, q, r) at h))
      go false p true q false r = (ltb-false e f p, λ u. ltb-false c d r)
      go false p false q z r = (ltb-false e f p, λ u. absurd (eqb-false e f q u))

  true_soon : e ≤ f → (e ≡ f → c < d) → ltb e f || (eqb e f && ltb c d) ≡ true
  true_soon h g = go (ltb e f) refl
    where
      go : (x : Bool) → ltb e f ≡ x → ltb e f || (eqb e f && ltb c d) ≡ true
      go true p = rw p
      go false p = let q : e ≡ f = omega (arith, ltb-false e f p) in rw (p, eq-eqb e f q, lt-ltb c d (g q))

  false_soon : f ≤ e → (e ≡ f → d ≤ c) → ltb e f || (eqb e f && ltb c d) ≡ false
  false_soon h g = go (eqb e f) refl
    where
      go : (x : Bool) → eqb e f ≡ x → ltb e f || (eqb e f && ltb c d) ≡ false
      go true p = rw (le-ltb e f h, p, le-ltb c d (g (eqb-true e f p)))
      go false p = rw (le-ltb e f h, p)

-- of three passages
module _ (s w v : Passage) where
  soon_soon : ends_sooner w v ≡ true → ends_sooner s w ≡ true → ends_sooner s v ≡ true
  soon_soon a b =
      let x = soon_true w.end w.component v.end v.component a in
      let y = soon_true s.end s.component w.end w.component b in
      true_soon s.end s.component v.end v.component (omega (arith, x.0, y.0))
      (λ q.
      let m : w.end ≡ v.end = omega (arith, x.0, y.0, q) in
      let k : s.end ≡ w.end = omega (arith, x.0, y.0, q) in
      omega (arith, x.1 m, y.1 k))

  late_late : ends_sooner w v ≡ false → ends_sooner s w ≡ false → ends_sooner s v ≡ false
  late_late a b =
      let x = soon_false w.end w.component v.end v.component a in
      let y = soon_false s.end s.component w.end w.component b in
      false_soon s.end s.component v.end v.component (omega (arith, x.0, y.0))
      (λ q.
      let m : w.end ≡ v.end = omega (arith, x.0, y.0, q) in
      let k : s.end ≡ w.end = omega (arith, x.0, y.0, q) in
      omega (arith, x.1 m, y.1 k))

-- ## The earliest, when an earlier passage is looked at last

sooner_both : (v s : Passage) (b : Option Passage) → sooner (sooner_of (some v) b) s ≡ sooner_of (some v) (sooner b s)
sooner_both v s none = refl
sooner_both v s (some w) = go (ends_sooner w v) refl (ends_sooner s w) refl
  where
    go : (x : Bool) → ends_sooner w v ≡ x → (y : Bool) → ends_sooner s w ≡ y
        → sooner (cond x (some w) (some v)) s ≡ sooner_of (some v) (cond y (some s) (some w))
    go true p true q = rw (q, soon_soon s w v p q)
    go true p false q = rw (q, p)
    go false p true q = refl
    go false p false q = rw (p, late_late s w v p q)

module _ (p : Passage → Bool) where
  earliest_both : (v : Passage) (vs : List Passage) (b : Option Passage) → earliest p vs (sooner_of (some v) b) ≡ sooner_of (some v) (earliest p vs b)
  earliest_both v [] b = refl
  earliest_both v (s ∷ vs) b = ap (earliest p vs) (one (p s)) ∙ earliest_both v vs (cond (p s) (sooner b s) b)
    where
      one : (t : Bool) → cond t (sooner (sooner_of (some v) b) s) (sooner_of (some v) b) ≡ sooner_of (some v) (cond t (sooner b s) b)
      one true = sooner_both v s b
      one false = refl

  earliest_first : (v : Passage) (vs : List Passage) → earliest p (v ∷ vs) none ≡ cond (p v) (sooner_of (some v) (earliest p vs none)) (earliest p vs none)
  earliest_first v vs = go (p v)
    where
      go : (t : Bool) → earliest p vs (cond t (some v) none) ≡ cond t (sooner_of (some v) (earliest p vs none)) (earliest p vs none)
      go true = earliest_both v vs none
      go false = refl

-- ## Being heard: the numbers first, then the channel

module _ (T : Table) (H : ℕ) (v s : Passage) where
  pub not_in_time : in_time H v s ≡ false → false ≡ heard_by T H v s
  not_in_time e = sym (turned (names (passage_arc T v) (channel_of (passage_arc T s))) (others v s) _ ∙ rw e)

  pub heard_in_time : (x : Bool) → in_time H v s ≡ true → x ≡ names (passage_arc T v) (channel_of (passage_arc T s)) → x ≡ heard_by T H v s
  heard_in_time x e q = q ∙ sym (turned (names (passage_arc T v) (channel_of (passage_arc T s))) (others v s) _ ∙ rw e)

-- row j is looked at for row i: one turn of `earliest` ..
abbrev pub heard_row : List ℕ → List ℕ → ℕ → ℕ → ℕ → Option Passage → Option Passage
heard_row bs l H i j b = cond (heard_by (read_of bs).table H (row_passage l i) (row_passage l j)) (sooner b (row_passage l j)) b

-- .. or after the rows behind it
abbrev pub heard_first : List ℕ → List ℕ → ℕ → ℕ → ℕ → Option Passage → Option Passage
heard_first bs l H i j b = cond (heard_by (read_of bs).table H (row_passage l i) (row_passage l j)) (sooner_of (some (row_passage l j)) b) b

sooner_last : (b : Option Passage) (v : Passage) → sooner_of b (some v) ≡ sooner b v
sooner_last none v = refl
sooner_last (some w) v = refl

module _ (bs l : List ℕ) (H i j : ℕ) (b x : Option Passage) (h : Bool) (e : h ≡ heard_by (read_of bs).table H (row_passage l i) (row_passage l j)) where
  pub row_heard : h ≡ true → x ≡ sooner_of b (some (row_passage l j)) → x ≡ heard_row bs l H i j b
  row_heard t q = q ∙ sooner_last b (row_passage l j) ∙ sym (ap (λ (k : Bool). cond k (sooner b (row_passage l j)) b) (sym e ∙ t))

  pub row_unheard : h ≡ false → x ≡ b → x ≡ heard_row bs l H i j b
  row_unheard t q = q ∙ sym (ap (λ (k : Bool). cond k (sooner b (row_passage l j)) b) (sym e ∙ t))

  pub first_heard : h ≡ true → x ≡ sooner_of (some (row_passage l j)) b → x ≡ heard_first bs l H i j b
  first_heard t q = q ∙ sym (ap (λ (k : Bool). cond k (sooner_of (some (row_passage l j)) b) b) (sym e ∙ t))

  pub first_unheard : h ≡ false → x ≡ b → x ≡ heard_first bs l H i j b
  first_unheard t q = q ∙ sym (ap (λ (k : Bool). cond k (sooner_of (some (row_passage l j)) b) b) (sym e ∙ t))

-- one of two rows below a bound is below it
pub below_one : (n : ℕ) {x y z : Found ℕ} → (x ≡ y) ⊎ (x ≡ z) → IfSome y (λ i. i < n) → IfSome z (λ i. i < n) → IfSome x (λ i. i < n)
below_one n (inl e) a b = rw e a
below_one n (inr e) a b = rw e b

-- and its numbers stand in the slice
pub fits_below : (n m : ℕ) (x : Found ℕ) → n * 9 ≤ m → IfSome x (λ i. i < n) → IfSome x (λ i. i * 9 + 9 ≤ m)
fits_below n m None h b = tt
fits_below n m (Some i) h b = omega (arith, h, b)

-- ## What row i hears

module _ (bs l : List ℕ) (n i H : ℕ) (r : RowsPlaced bs l n) (there : i < n) where
  abbrev pub hears_it : Passage → Bool
  hears_it = heard_by (read_of bs).table H (row_passage l i)

  -- a row that ended before its ready started too early
  too_early : (j : ℕ) → j < n → num l j 5 < num l i 4 → hears_it (row_passage l j) ≡ false
  too_early j a h =
      rw (le-ltb (num l i 4) (num l j 4) (omega (arith, h, (r.row j a).window)), and_false)

  -- a row that opens at its end or later ends too late
  too-late : (j : ℕ) → j < n → num l i 5 ≤ num l j 3 → hears_it (row_passage l j) ≡ false
  too-late j a h = rw (le-ltb (num l j 5) (num l i 5) (omega (arith, r.row j a)), and_false, and_false)

  -- the rows before it, backward: from row j on none that ended is heard ..
  ended_none : (j m : ℕ) (b : Option Passage) → j + m ≤ n → ((t : ℕ) → j ≤ t → t < j + m → num l t 5 < num l i 4) → earliest hears_it (rows_from l j m) b ≡ b
  ended_none j m b h e = none_holds hears_it l j m b (λ t a c. too_early t (omega arith) (e t a c))

  pub back_start : (j : ℕ) → j ≤ i → ((t : ℕ) → j ≤ t → t < i → num l t 5 < num l i 4) → earliest hears_it (rows_from l j (i - j)) none ≡ none
  back_start j h e = ended_none j (i - j) none (omega (arith, there)) (λ t a c. e t a (omega arith))

  -- .. then row k is looked at, and before it again those that ended are left out ..
  pub back_turn : (j k : ℕ) (b c : Option Passage) → k < i → j ≤ k → ((t : ℕ) → j ≤ t → t < k → num l t 5 < num l i 4)
      → earliest hears_it (rows_from l (k + 1) (i - (k + 1))) none ≡ b → c ≡ heard_first bs l H i k b → earliest hears_it (rows_from l j (i - j)) none ≡ c
  unfolding rows_from
  back_turn j k b c h a e q f =
      let m : i - j ≡ (k - j) + (i - k) = omega arith in
      let z : j + (k - j) ≡ k = omega arith in
      let u : i - k ≡ suc (i - suc k) = omega arith in
      let split : rows_from l j (i - j) ≡ rows_from l j (k - j) ++ rows_from l k (i - k) =
      ap (rows_from l j) m ∙ rows_split l j (k - j) (i - k) ∙ ap (λ (x : ℕ). rows_from l j (k - j) ++ rows_from l x (i - k)) z in
      let one : rows_from l k (i - k) ≡ row_passage l k ∷ rows_from l (k + 1) (i - (k + 1)) = rw (add-one k) (ap (rows_from l k) u) in
      ap (λ (vs : List Passage). earliest hears_it vs none) split
      ∙ earliest_append hears_it (rows_from l j (k - j)) (rows_from l k (i - k)) none
      ∙ ap (earliest hears_it (rows_from l k (i - k))) (ended_none j (k - j) none (omega (arith, there)) (λ t x y. e t x (omega arith)))
      ∙ ap (λ (vs : List Passage). earliest hears_it vs none) one
      ∙ earliest_first hears_it (row_passage l k) (rows_from l (k + 1) (i - (k + 1)))
      ∙ ap (λ (o : Option Passage). cond (hears_it (row_passage l k)) (sooner_of (some (row_passage l k)) o) o) q
      ∙ sym f

  -- .. the rest of the search starts at row i ..
  pub from_row : (b : Option Passage) → b ≡ earliest hears_it (rows_of l i) none → earliest hears_it (rows_from l i (n - i)) b ≡ earliest hears_it (rows_of l n) none
  from_row b e =
      let k : n ≡ i + (n - i) = omega (arith, there) in
      let z : 0 + i ≡ i = omega arith in
      let split : rows_of l n ≡ rows_from l 0 i ++ rows_from l i (n - i) =
      ap (rows_from l 0) k ∙ rows_split l 0 i (n - i) ∙ ap (λ (m : ℕ). rows_from l 0 i ++ rows_from l m (n - i)) z in
      ap (earliest hears_it (rows_from l i (n - i))) e
      ∙ sym (ap (λ (vs : List Passage). earliest hears_it vs none) split ∙ earliest_append hears_it (rows_from l 0 i) (rows_from l i (n - i)) none)

  -- .. goes on by one row ..
  pub turn : (j : ℕ) (b c x : Option Passage) → j < n → c ≡ heard_row bs l H i j b → earliest hears_it (rows_from l j (n - j)) b ≡ x
      → earliest hears_it (rows_from l (j + 1) (n - (j + 1))) c ≡ x
  unfolding rows_from
  turn j b c x h e q =
      let k : n - j ≡ suc (n - suc j) = omega arith in
      rw (e, add-one j) (subst (λ (m : ℕ). earliest hears_it (rows_from l j m) b ≡ x) k q)

  -- .. and may stop there
  pub stop : (j : ℕ) (b x : Option Passage) → j < n → num l i 5 ≤ num l j 3 → earliest hears_it (rows_from l j (n - j)) b ≡ x → b ≡ x
  stop j b x h e q =
      sym (none_holds hears_it l j (n - j) b (λ t a c. too-late t (omega arith) (omega (arith, r.order j t a (omega arith))))) ∙ q

  pub done : (j : ℕ) (b x : Option Passage) → n ≤ j → earliest hears_it (rows_from l j (n - j)) b ≡ x → b ≡ x
  unfolding rows_from
  done j b x h q = let k : n - j ≡ 0 = omega arith in subst (λ (m : ℕ). earliest hears_it (rows_from l j m) b ≡ x) k q

-- ## The message

module _ (T : Table) (H : ℕ) (vs : List Passage) (v : Passage) (m : Option ℕ) where
  -- of an edge that does not receive
  pub own_message : listens (passage_arc T v) ≡ false → m ≡ channel_of (passage_arc T v) → m ≡ message_in T H vs v
  unfolding message_in
  own_message e q = rw e q

  -- of one that does
  pub heard_message : (o : Option Passage) → listens (passage_arc T v) ≡ true → o ≡ earliest (heard_by T H v) vs none → m ≡ carried T o → m ≡ message_in T H vs v
  unfolding message_in
  heard_message o e p q = rw (e, ← p) q
