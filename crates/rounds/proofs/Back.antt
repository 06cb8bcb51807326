-- The row at which each component enters at the first tick of the pair, and how many of its passages lie between the two ticks: there and by so many
-- the nodes go back. Assumes nothing.
use mathlib.Core.Path.{◌≡◌, refl, sym, ap, ◌∙◌}
use mathlib.Core.Bool.{Bool, true, false, cond}
use mathlib.Core.List.{List, [], ◌∷◌, map}
use mathlib.Core.Option.{Option, none, some}
use Prim.Native.Nat.{ℕ, zero, suc, ◌+◌, ◌-◌, ◌≤◌, ◌<◌}
use native.Mathlib.Omega.{arith}
use borrow.Author.Tests.{ltb-true, ltb-false, lt-ltb, le-leb}
use lib.Dec.{eqb, ltb}
use lib.ListN.{length, take, drop, length-append, length-map, length-take, length-drop, take-append-drop}
use lib.Seq.{take_at, drop_at, drop-cons, take-add, take-take, get_or-take, get_or-drop}
use Rattle.model.specs.Lists.{◌∈◌, only}
use Rattle.model.specs.Table.{Read, size}
use Rattle.model.specs.Schedule.{Passage, own, light}
use Rattle.model.specs.Checks.{limit, no_passage, passage_at}
use Rattle.model.specs.Run.{ready_of_nth}
use Rattle.model.proofs.Basics.Members.{only_append, only_is, fewer}
use Rattle.model.proofs.Checks.Independence.{only_map}
use Rattle.model.proofs.Schedule.Own.{own_here, own_other}
use Rattle.recurrence.specs.Rows.{rows_before}
use Rattle.recurrence.proofs.Seam.{enters_before, enters_from, split_at}
use Rattle.recurrence.proofs.Grow.{only_swap, ordered_only}
use Rattle.recurrence.proofs.Count.{entered_before}
use Rattle.recurrence.proofs.Index.{at_map, comes_again}
use Rattle.recurrence.proofs.Beyond.{some_in}
use Rattle.recurrence.proofs.Upcoming.{RowsJoin, rows_join}
use Rattle.later_runs.proofs.Front.{delayed}
use Rattle.stand.specs.Stands.{never}
use Rattle.machine.specs.Running.{RowIs, ready_at}
use Rattle.rounds.proofs.Moved.{Recurring, sched, parted, take_map}

-- ## Fronts

-- what is moved keeps its component
own_moved : (p c i : ℕ) (Z : List Passage) → length (own c (take i (map (delayed p) (map light Z)))) ≡ length (own c (take i Z))
own_moved p c i Z =
    ap (λ (ws : List Passage). length (own c ws)) (take_map (delayed p) i (map light Z))
    ∙ ap length (only_map (delayed p) (λ (v : Passage). eqb v.component c) (take i (map light Z)))
    ∙ length-map (own c (take i (map light Z))) (delayed p)
    ∙ ap (λ (ws : List Passage). length (own c ws)) (take_map light i Z)
    ∙ ap length (only_map light (λ (v : Passage). eqb v.component c) (take i Z))
    ∙ length-map (own c (take i Z)) light

at_moved : (p i : ℕ) (Z : List Passage) → i < length Z → (passage_at (map (delayed p) (map light Z)) i).component ≡ (passage_at Z i).component
at_moved p i Z h =
    ap (λ (v : Passage). v.component) (at_map (delayed p) (map light Z) i (omega (arith, length-map Z light)))
    ∙ ap (λ (v : Passage). v.component) (at_map light Z i h)

moved_long : (p : ℕ) (Z : List Passage) → length (map (delayed p) (map light Z)) ≡ length Z
moved_long p Z = length-map (map light Z) (delayed p) ∙ length-map Z light

-- none of them is of component c
none_of : (c : ℕ) (X : List Passage) → ((i : ℕ) → i < length X → (passage_at X i).component ≡ c → ⊥) → length (own c X) ≡ 0
none_of c [] n = refl
none_of c (v ∷ X) n = ap length (own_other c v X (n 0 (omega arith))) ∙ none_of c X (λ i h. n (suc i) (omega arith))

-- a row with so many of component c before it
row_of : (R : List Passage) (c k row : ℕ) → row ≤ length R → (row < length R → (passage_at R row).component ≡ c) → length (own c (take row R)) ≡ k → RowIs R c k row
row_of R c k row l t e =
    record {
      among = l;
      rest =
          sym (
          ap (drop k) (sym (ap (own c) (take-append-drop row R)) ∙ only_append (λ (v : Passage). eqb v.component c) (take row R) (drop row R))
          ∙ drop_at (own c (take row R)) (own c (drop row R)) k e
          );
      there = t;
    }

-- ## The ready of a row

nth_drop : (vs : List Passage) (k : ℕ) → ready_of_nth (drop k vs) 0 ≡ ready_of_nth vs k
nth_drop vs zero = refl
nth_drop [] (suc k) = refl
nth_drop (v ∷ vs) (suc k) = nth_drop vs k

none_left : (c : ℕ) (vs : List Passage) → length vs ≡ 0 → ready_of_nth (own c vs) 0 ≡ none
none_left c [] e = refl
none_left c (v ∷ vs) e = absurd (omega (arith, e))

abbrev tick_of : Option ℕ → ℕ
tick_of none = 0
tick_of (some x) = x

abbrev how_many : Option ℕ → ℕ
how_many none = 0
how_many (some x) = 1

-- is that of the passage whose row it is
pub row_ready : (R : List Passage) (c k row x : ℕ) → RowIs R c k row → ready_of_nth (own c R) k ≡ some x → ready_at R row ≡ x
row_ready R c k row x r e = go (ltb row (length R)) refl
  where
    front : ready_of_nth (own c (drop row R)) 0 ≡ some x
    front = ap (λ (vs : List Passage). ready_of_nth vs 0) r.rest ∙ nth_drop (own c R) k ∙ e

    go : (b : Bool) → ltb row (length R) ≡ b → cond b (passage_at R row).ready never ≡ x
    go true q =
        let h = ltb-true row (length R) q in
        ap tick_of (sym (ap (λ (vs : List Passage). ready_of_nth vs 0) (ap (own c) (drop-cons R row no_passage h) ∙ own_here c (passage_at R row) (drop (suc row) R) (r.there h))) ∙ front)
    go false q =
        let none_is = none_left c (drop row R) (omega (arith, length-drop row R, ltb-false row (length R) q)) in
        absurd (omega (arith, ap how_many (sym none_is ∙ front)))

module _ {bytes : List ℕ} {t : Read} {S : List Passage} {a P : ℕ} (B : Recurring bytes t S a P) where
  -- those entered before a tick, of one component
  own_front : (c x : ℕ) → length (own c (take (entered_before S x) S)) ≡ rows_before S c x
  own_front c x =
      ap (λ (ws : List Passage). length (own c ws)) (ap (take (entered_before S x)) (sym (split_at x (sched B).order)) ∙ take_at (only (enters_before x) S) (only (enters_from x) S) (entered_before S x) refl)
      ∙ ap length (only_swap (λ (v : Passage). eqb v.component c) (enters_before x) S)

  pub first_second : entered_before S a ≤ entered_before S (a + P)
  first_second = fewer (enters_before (a + P)) (enters_before a) S (λ v m e. lt-ltb v.entry.tick (a + P) (omega (arith, ltb-true v.entry.tick a e)))

  joins : RowsJoin S (size t.table) (entered_before S a) a
  joins = rows_join limit t.table t.horizon S (sched B) a (λ d i. (let k = B.recurs.enters d i in (k.0, k.1)))

  joins_second : RowsJoin S (size t.table) (entered_before S (a + P)) (a + P)
  joins_second = rows_join limit t.table t.horizon S (sched B) (a + P) (λ d i. (let k = B.recurs.enters d i in (k.0, k.2)))

  -- so many rows are there
  pub parted_most : 1 ≤ size t.table → parted B ≤ length S
  parted_most h = omega (arith, (joins_second (size t.table - 1) (omega arith)).0)

  -- a component enters at the second tick
  own_second : (c : ℕ) → c < size t.table → rows_before S c (a + P) < length (own c S)
  own_second c h =
      let e = (B.recurs.enters c h).2 in
      let Z = own c S in
      let z = split_at (a + P) (ordered_only (λ (v : Passage). eqb v.component c) (sched B).order) in
      let m : e.passage ∈ only (enters_from (a + P)) Z = (only_is (enters_from (a + P)) Z).1 (e.listed, le-leb (a + P) e.passage.entry.tick (omega (arith, e.tick))) in
      omega (arith, ap length z, length-append (only (enters_before (a + P)) Z) (only (enters_from (a + P)) Z), some_in m)

  -- and is ready for that a period after it is for what it enters at the first
  pub ready_again : (c : ℕ) → c < size t.table → (passage_at (own c S) (rows_before S c (a + P))).ready ≡ (passage_at (own c S) (rows_before S c a)).ready + P
  ready_again c h =
      let w : rows_before S c (a + P) + 0 ≡ rows_before S c (a + P) = omega arith in
      let u : rows_before S c a + 0 ≡ rows_before S c a = omega arith in
      let again = comes_again t.table t.horizon S (sched B) a P B.longer B.recurs c 0 (omega (arith, own_second c h)) in
      omega (arith, again.1, ap (λ (i : ℕ). (passage_at (own c S) i).ready) w, ap (λ (i : ℕ). (passage_at (own c S) i).ready) u)

  -- before the row of component c, at the first tick
  own_before : (c : ℕ) → c < size t.table → length (own c (take (entered_before S a + c) S)) ≡ rows_before S c a
  own_before c h =
      let f = entered_before S a in
      let none = none_of c (take c (drop f S)) (λ i k e.
      let small : i < c = omega (arith, k, length-take c (drop f S)) in
      let at : passage_at (take c (drop f S)) i ≡ passage_at S (f + i) = get_or-take c (drop f S) i no_passage small ∙ get_or-drop f S i no_passage in
      omega (arith, e, ap (λ (v : Passage). v.component) at, (joins i (omega arith)).1)) in
      ap (λ (ws : List Passage). length (own c ws)) (take-add f c S)
      ∙ ap length (only_append (λ (v : Passage). eqb v.component c) (take f S) (take c (drop f S)))
      ∙ length-append (own c (take f S)) (own c (take c (drop f S)))
      ∙ omega (arith, none, own_front c a)

  module _ (R : List Passage) (n p : ℕ) (long : n ≡ parted B) (most : n ≤ length S) (moved : R ≡ map (delayed p) (map light (take n S))) where
    R-long : length R ≡ n
    R-long = ap length moved ∙ moved_long p (take n S) ∙ omega (arith, length-take n S)

    own_up : (c i : ℕ) → i ≤ n → length (own c (take i R)) ≡ length (own c (take i S))
    own_up c i h = ap (λ (ws : List Passage). length (own c (take i ws))) moved ∙ own_moved p c i (take n S) ∙ ap (λ (ws : List Passage). length (own c ws)) (take-take i n S h)

    -- The laws: how many lie between, and the row.
    pub between_is : (c : ℕ) → length (own c (take (entered_before S (a + P) - entered_before S a) (drop (entered_before S a) R))) + rows_before S c a ≡ rows_before S c (a + P)
    between_is c =
        let f = entered_before S a in
        let g = entered_before S (a + P) in
        let le = first_second in
        let e : f + (g - f) ≡ g = omega arith in
        let q =
        sym (length-append (own c (take f R)) (own c (take (g - f) (drop f R))))
        ∙ sym (ap length (only_append (λ (v : Passage). eqb v.component c) (take f R) (take (g - f) (drop f R))))
        ∙ sym (ap (λ (ws : List Passage). length (own c ws)) (take-add f (g - f) R))
        ∙ ap (λ (k : ℕ). length (own c (take k R))) e in
        omega (arith, q, own_up c f (omega (arith, long)), own_up c g (omega (arith, long)), own_front c a, own_front c (a + P))

    pub row_back : (c : ℕ) → c < size t.table → RowIs R c (rows_before S c a) (entered_before S a + c)
    row_back c h =
        let row = entered_before S a + c in
        let le = first_second in
        row_of R c (rows_before S c a) row (omega (arith, R-long, long)) (λ k. there (omega (arith, k, R-long))) (own_up c row (omega (arith, long)) ∙ own_before c h)
      where
        there : entered_before S a + c < n → (passage_at R (entered_before S a + c)).component ≡ c
        there k =
            ap (λ (ws : List Passage). (passage_at ws (entered_before S a + c)).component) moved
            ∙ at_moved p (entered_before S a + c) (take n S) (omega (arith, length-take n S))
            ∙ ap (λ (v : Passage). v.component) (get_or-take n S (entered_before S a + c) no_passage k)
            ∙ (joins c h).1
