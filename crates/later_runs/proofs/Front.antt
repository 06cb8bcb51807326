-- The rows that a run beyond the table's own horizon goes by: the passages entered before the second tick of a pair, and those entered there. Of each
-- component they are its first passages, up to the one that is entered there. Assumes nothing.
use mathlib.Core.Path.{◌≡◌, refl, sym, ap, ap₂, subst, ◌∙◌}
use mathlib.Core.Bool.{Bool, true, false, cond}
use mathlib.Core.Logic.{by_cases}
use mathlib.Core.List.{List, [], ◌∷◌, ◌++◌, map}
use mathlib.Core.Option.{Option, none, some}
use Prim.Native.Nat.{ℕ, zero, suc, ◌+◌, ◌-◌, ◌*◌, ◌≤◌, ◌<◌}
use native.Mathlib.Omega.{arith}
use native.Mathlib.Decide.{ℕ_discrete}
use borrow.Author.Tests.{ltb-true, ltb-false, lt-ltb, le-ltb, le-leb}
use lib.Dec.{ltb, eqb}
use lib.ListN.{length, take, drop, length-append, take-append-drop}
use Rattle.model.specs.Lists.{◌∈◌, only}
use Rattle.model.specs.Table.{Table, size}
use Rattle.model.specs.Schedule.{Passage, own}
use Rattle.model.specs.Checks.{passage_at}
use Rattle.model.specs.Chains.{IsSchedule}
use Rattle.model.specs.Run.{ready_of_nth}
use Rattle.model.proofs.Basics.Members.{only_is, only_append}
use Rattle.model.proofs.Checks.Independence.{only_map}
use Rattle.model.proofs.Schedule.Own.{own_here, own_other}
use Rattle.recurrence.specs.Recurrence.{Recurs}
use Rattle.recurrence.specs.Rows.{rows_before}
use Rattle.recurrence.proofs.Seam.{enters_before, enters_from, split_at}
use Rattle.recurrence.proofs.Grow.{only_swap, ordered_only}
use Rattle.recurrence.proofs.Count.{entered_before}
use Rattle.recurrence.proofs.Upcoming.{RowsJoin, rows_join}
use Rattle.recurrence.proofs.Index.{at_second, ready_at, no_ready}
use Rattle.recurrence.proofs.Beyond.{some_in}
use Rattle.recurrence.proofs.Turned.{capped, round_ready}

-- ## One of each

-- of passages with the numbers from k on, none is of a lower number
none_lower : (c k : ℕ) (X : List Passage) → ((i : ℕ) → i < length X → (passage_at X i).component ≡ k + i) → c < k → length (own c X) ≡ 0
none_lower c k [] f h = refl
none_lower c k (v ∷ X) f h =
    ap length (own_other c v X (λ e. omega (arith, f 0 (omega arith)))) ∙ none_lower c (suc k) X (λ i l. f (suc i) (omega arith) ∙ (let z : k + suc i ≡ suc k + i = omega arith in z)) (omega arith)

-- one is of each of theirs
one_each : (c k : ℕ) (X : List Passage) → ((i : ℕ) → i < length X → (passage_at X i).component ≡ k + i) → k ≤ c → c < k + length X → length (own c X) ≡ 1
one_each c k [] f h l = absurd (omega arith)
one_each c k (v ∷ X) f h l = by_cases (ℕ_discrete c k) here (λ n. later n (one_each c (suc k) X rest (omega arith) (omega arith)))
  where
    rest : (i : ℕ) → i < length X → (passage_at X i).component ≡ suc k + i
    rest i q = f (suc i) (omega arith) ∙ (let z : k + suc i ≡ suc k + i = omega arith in z)

    here : c ≡ k → length (own c (v ∷ X)) ≡ 1
    here e = ap length (own_here c v X (omega (arith, f 0 (omega arith), e))) ∙ ap suc (none_lower c (suc k) X rest (omega (arith, e)))

    later : (c ≡ k → ⊥) → length (own c X) ≡ 1 → length (own c (v ∷ X)) ≡ 1
    later n q = ap length (own_other c v X (λ e. n (omega (arith, f 0 (omega arith), e)))) ∙ q

-- ## Fronts

take_front : {A : Type 0} (xs ys : List A) (n : ℕ) → take (length xs + n) (xs ++ ys) ≡ xs ++ take n ys
take_front [] ys n = ap (λ (k : ℕ). take k ys) (let z : 0 + n ≡ n = omega arith in z)
take_front (x ∷ xs) ys n = ap (λ (k : ℕ). take k (x ∷ (xs ++ ys))) (let z : suc (length xs) + n ≡ suc (length xs + n) = omega arith in z) ∙ ap (λ (l : List _). x ∷ l) (take_front xs ys n)

front_is : {A : Type 0} (xs ys zs : List A) → xs ++ ys ≡ zs → xs ≡ take (length xs) zs
front_is [] ys zs e = refl
front_is (x ∷ xs) ys [] e = let k : ◌≡◌ {A = ℕ} 0 1 = cc in absurd (omega arith)
front_is (x ∷ xs) ys (z ∷ zs) e =
    let p : x ≡ z = cc in
    let q : xs ++ ys ≡ zs = cc in
    ap₂ (λ (a : _) (l : List _). a ∷ l) p (front_is xs ys zs q)

-- the first n of a list that has them
take_at : (n : ℕ) (X : List Passage) (i : ℕ) → i < n → passage_at (take n X) i ≡ passage_at X i
take_at zero X i h = absurd (omega arith)
take_at (suc n) [] i h = refl
take_at (suc n) (v ∷ X) zero h = refl
take_at (suc n) (v ∷ X) (suc i) h = take_at n X i (omega arith)

take_long : {A : Type 0} (n : ℕ) (X : List A) → n ≤ length X → length (take n X) ≡ n
take_long zero X h = refl
take_long (suc n) [] h = absurd (omega arith)
take_long (suc n) (v ∷ X) h = ap suc (take_long n X (omega arith))

-- ## The rows

-- a passage so much later, as far as a row holds it
abbrev pub delayed : ℕ → Passage → Passage
delayed p v = record { component = v.component; edge = v.edge; entry = v.entry; ready = capped (v.ready + p); end = v.end; message = v.message }

delayed_ready : (p : ℕ) (Z : List Passage) (k : ℕ) → k < length Z → ready_of_nth (map (delayed p) Z) k ≡ some (capped ((passage_at Z k).ready + p))
delayed_ready p [] k h = absurd (omega arith)
delayed_ready p (v ∷ Z) zero h = refl
delayed_ready p (v ∷ Z) (suc k) h = delayed_ready p Z k (omega arith)

delayed_none : (p : ℕ) (Z : List Passage) (k : ℕ) → length Z ≤ k → ready_of_nth (map (delayed p) Z) k ≡ none
delayed_none p [] k h = refl
delayed_none p (v ∷ Z) zero h = absurd (omega arith)
delayed_none p (v ∷ Z) (suc k) h = delayed_none p Z k (omega arith)

module _ {l : ℕ} (T : Table) (h : ℕ) {S : List Passage} (s : IsSchedule l T h S) (a P : ℕ) (longer : 0 < P) (r : Recurs T h S a (a + P)) where
  -- so many rows
  abbrev pub rounded : ℕ
  rounded = entered_before S (a + P) + size T

  module _ (c : ℕ) (there : c < size T) where
    -- it enters at the second tick
    second : rows_before S c (a + P) < length (own c S)
    second =
        let e = (r.enters c there).2 in
        let Z = own c S in
        let z = split_at (a + P) (ordered_only (λ (v : Passage). eqb v.component c) s.order) in
        let m : e.passage ∈ only (enters_from (a + P)) Z = (only_is (enters_from (a + P)) Z).1 (e.listed, le-leb (a + P) e.passage.entry.tick (omega (arith, e.tick))) in
        omega (arith, ap length z, length-append (only (enters_before (a + P)) Z) (only (enters_from (a + P)) Z), some_in m)

    joins : RowsJoin S (size T) (entered_before S (a + P)) (a + P)
    joins = rows_join l T h S s (a + P) (λ d i. (let k = r.enters d i in (k.0, k.2)))

    own_long : length (own c (take rounded S)) ≡ suc (rows_before S c (a + P))
    own_long =
        let L = only (enters_before (a + P)) S in
        let R = only (enters_from (a + P)) S in
        let z : L ++ R ≡ S = split_at (a + P) s.order in
        let e : take rounded S ≡ L ++ take (size T) R = ap (take rounded) (sym z) ∙ take_front L R (size T) in
        let long : size T ≤ length R = (let q = joins (size T - 1) (omega arith) in omega (arith, q.0, ap length z, length-append L R)) in
        let ranked : (i : ℕ) → i < length (take (size T) R) → (passage_at (take (size T) R) i).component ≡ 0 + i =
        λ i k. (
        let small : i < size T = omega (arith, k, take_long (size T) R long) in
        let at : passage_at S (length L + i) ≡ passage_at R i = sym (ap (λ (vs : List Passage). passage_at vs (length L + i)) z) ∙ at_second L R i in
        ap (λ (v : Passage). v.component) (take_at (size T) R i small ∙ sym at) ∙ (joins i small).1 ∙ (let y : i ≡ 0 + i = omega arith in y)
        ) in
        let one = one_each c 0 (take (size T) R) ranked (omega arith) (omega (arith, take_long (size T) R long)) in
        let before : length (own c L) ≡ rows_before S c (a + P) = ap length (only_swap (λ (v : Passage). eqb v.component c) (enters_before (a + P)) S) in
        ap (λ (vs : List Passage). length (own c vs)) e
        ∙ ap length (only_append (λ (v : Passage). eqb v.component c) L (take (size T) R))
        ∙ length-append (own c L) (own c (take (size T) R))
        ∙ omega (arith, one, before)

    front_own : own c (take rounded S) ≡ take (suc (rows_before S c (a + P))) (own c S)
    front_own =
        front_is (own c (take rounded S)) (own c (drop rounded S)) (own c S) (sym (only_append (λ (v : Passage). eqb v.component c) (take rounded S) (drop rounded S)) ∙ ap (own c) (take-append-drop rounded S))
        ∙ ap (λ (n : ℕ). take n (own c S)) own_long

    -- The law: the readies of these rows, so much later.
    pub rows-ready : (p k : ℕ) → ready_of_nth (own c (map (delayed p) (take rounded S))) k ≡ round_ready (own c S) (rows_before S c (a + P)) p k
    rows-ready p k =
        ap (λ (vs : List Passage). ready_of_nth vs k) (only_map (delayed p) (λ (v : Passage). eqb v.component c) (take rounded S) ∙ ap (map (delayed p)) front_own)
        ∙ go (ltb (rows_before S c (a + P)) k) refl
      where
        w : ℕ
        w = rows_before S c (a + P)

        Z : List Passage
        Z = take (suc (rows_before S c (a + P))) (own c S)

        long : length (take (suc (rows_before S c (a + P))) (own c S)) ≡ suc (rows_before S c (a + P))
        long = take_long (suc (rows_before S c (a + P))) (own c S) (omega (arith, second))

        go : (b : Bool) → ltb (rows_before S c (a + P)) k ≡ b → ready_of_nth (map (delayed p) (take (suc (rows_before S c (a + P))) (own c S))) k ≡ cond b none (some (capped ((passage_at (own c S) k).ready + p)))
        go true e = delayed_none p (take (suc (rows_before S c (a + P))) (own c S)) k (omega (arith, long, ltb-true (rows_before S c (a + P)) k e))
        go false e =
            let small = ltb-false (rows_before S c (a + P)) k e in
            delayed_ready p (take (suc (rows_before S c (a + P))) (own c S)) k (omega (arith, long))
            ∙ ap (λ (v : Passage). some (capped (v.ready + p))) (take_at (suc (rows_before S c (a + P))) (own c S) k (omega arith))
