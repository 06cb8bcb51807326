-- How many of the rows between two are of one component. Assumes nothing.
use mathlib.Core.Path.{◌≡◌, refl, sym, ap, ◌∙◌}
use mathlib.Core.Bool.{Bool, true, false, cond}
use mathlib.Core.List.{List, [], ◌∷◌, map}
use Prim.Native.Nat.{ℕ, zero, suc, ◌+◌, ◌-◌, ◌≤◌, ◌<◌}
use native.Mathlib.Omega.{arith}
use borrow.Author.Count.{below_more}
use borrow.Author.Tests.{eq-eqb, ne_eqb}
use lib.Dec.{eqb}
use lib.ListN.{length, get_or, take, drop, set, length-append, length-map, length-drop}
use lib.Seq.{take-suc, get_or-drop, get_or-set_same, get_or-set_other}
use Rattle.model.specs.Schedule.{Passage, own}
use Rattle.model.specs.Checks.{no_passage, passage_at}
use Rattle.model.proofs.Checks.Independence.{only_map}
use Rattle.model.proofs.Schedule.Own.{own_append}
use Rattle.later_runs.proofs.Front.{delayed}
use Rattle.rows.specs.Rows.{num, row_passage, rows_of}
use Rattle.rows.proofs.Numbered.{rows_length, row_at}
use Rattle.turning.specs.Turned.{is_of, between}

-- ## Row by row

pub is-of : (rows : List ℕ) (i c number : ℕ) → num rows i 0 ≡ c → number + 1 ≡ number + is_of rows i c
is-of rows i c number e = sym (ap (λ (t : Bool). number + cond t 1 0) (eq-eqb (num rows i 0) c e))

pub not_of : (rows : List ℕ) (i c number : ℕ) → (num rows i 0 ≡ c → ⊥) → number ≡ number + is_of rows i c
not_of rows i c number e = sym (ap (λ (t : Bool). number + cond t 1 0) (ne_eqb (num rows i 0) c e) ∙ (let z : number + 0 ≡ number = omega arith in z))

pub most_one : (rows : List ℕ) (i c : ℕ) → is_of rows i c ≤ 1
most_one rows i c = go (eqb (num rows i 0) c)
  where
    go : (t : Bool) → cond t 1 0 ≤ 1
    go true = omega arith
    go false = omega arith

own_one : (c : ℕ) (v : Passage) → length (own c (v ∷ [])) ≡ cond (eqb v.component c) 1 0
own_one c v = go (eqb v.component c)
  where
    go : (t : Bool) → length (cond t (v ∷ []) []) ≡ cond t 1 0
    go true = refl
    go false = refl

pub none_between : (S : List Passage) (first c : ℕ) → between S first first c ≡ 0
none_between S first c = ap (λ (k : ℕ). length (own c (take k (drop first S)))) (let z : first - first ≡ 0 = omega arith in z)

-- one more
pub one_between : (rows : List ℕ) (n first i c : ℕ) → first ≤ i → i < n → between (rows_of rows n) first (i + 1) c ≡ between (rows_of rows n) first i c + is_of rows i c
one_between rows n first i c h b =
    let S = rows_of rows n in
    let long : i - first < length (drop first S) = omega (arith, rows_length rows n, length-drop first S) in
    let more : i + 1 - first ≡ suc (i - first) = omega arith in
    let at : passage_at (drop first S) (i - first) ≡ row_passage rows i =
    get_or-drop first S (i - first) no_passage ∙ ap (passage_at S) (let z : first + (i - first) ≡ i = omega arith in z) ∙ row_at rows n i b in
    ap (λ (k : ℕ). length (own c (take k (drop first S)))) more
    ∙ ap (λ (vs : List Passage). length (own c vs)) (take-suc (drop first S) (i - first) no_passage long)
    ∙ ap length (own_append c (take (i - first) (drop first S)) (passage_at (drop first S) (i - first) ∷ []))
    ∙ length-append (own c (take (i - first) (drop first S))) (own c (passage_at (drop first S) (i - first) ∷ []))
    ∙ ap (λ (m : ℕ). between S first i c + m) (own_one c (passage_at (drop first S) (i - first)) ∙ ap (λ (v : Passage). cond (eqb v.component c) 1 0) at)

-- one component after the other
pub one_counted : (numbers : List ℕ) (f : ℕ → ℕ) (c x : ℕ) → c < length numbers → ((k : ℕ) → k < c → get_or numbers k 0 ≡ f k) → x ≡ f c → (k : ℕ) → k < c + 1 → get_or (set numbers c x) k 0 ≡ f k
one_counted numbers f c x h before e =
    below_more (λ k. get_or (set numbers c x) k 0 ≡ f k) c (λ k b. get_or-set_other numbers c k x 0 (λ p. omega arith) ∙ before k b) (get_or-set_same numbers c x 0 h ∙ e)

-- ## Rows that are later

map_take : {A B : Type 0} (f : A → B) (n : ℕ) (xs : List A) → take n (map f xs) ≡ map f (take n xs)
map_take f zero xs = refl
map_take f (suc n) [] = refl
map_take f (suc n) (x ∷ xs) = ap (λ (l : List _). f x ∷ l) (map_take f n xs)

pub map_drop : {A B : Type 0} (f : A → B) (n : ℕ) (xs : List A) → drop n (map f xs) ≡ map f (drop n xs)
map_drop f zero xs = refl
map_drop f (suc n) [] = refl
map_drop f (suc n) (x ∷ xs) = map_drop f n xs

-- one component's
pub own_delayed : (period c : ℕ) (S : List Passage) → own c (map (delayed period) S) ≡ map (delayed period) (own c S)
own_delayed period c S = only_map (delayed period) (λ (v : Passage). eqb v.component c) S

-- are as many
pub between_delayed : (period first second c : ℕ) (S : List Passage) → between (map (delayed period) S) first second c ≡ between S first second c
between_delayed period first second c S =
    ap (λ (vs : List Passage). length (own c (take (second - first) vs))) (map_drop (delayed period) first S)
    ∙ ap (λ (vs : List Passage). length (own c vs)) (map_take (delayed period) (second - first) (drop first S))
    ∙ ap length (own_delayed period c (take (second - first) (drop first S)))
    ∙ length-map (own c (take (second - first) (drop first S))) (delayed period)
