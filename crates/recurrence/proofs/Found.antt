-- The pair that is computed is the first one, and none is computed where there is none. Assumes nothing.
use mathlib.Core.Path.{◌≡◌, refl, sym, ap, ap₂, subst, ◌∙◌}
use mathlib.Core.Logic.{◌↔◌}
use mathlib.Core.Bool.{Bool, true, false, cond, ◌&&◌, not}
use mathlib.Core.List.{List, [], ◌∷◌}
use mathlib.Core.Option.{Option, none, some}
use Prim.Native.Nat.{ℕ, zero, suc, ◌+◌, ◌≤◌, ◌<◌}
use native.Mathlib.Omega.{arith}
use borrow.Author.Tests.{leb-true, le-leb, eqb-true, eq-eqb, ltb-true, ltb-false, not-true}
use lib.Dec.{leb, eqb, ltb}
use lib.IntN.{ℤ, pos, negsuc}
use lib.Signed.{le_z}
use Rattle.model.specs.Lists.{all, first, from, below, is_none, ◌∈◌, here, there}
use Rattle.model.specs.Table.{Table, size}
use Rattle.model.specs.Window.{Entry}
use Rattle.model.specs.Schedule.{Passage, own}
use Rattle.model.specs.Chains.{IsSchedule}
use Rattle.recurrence.specs.Recurrence.{timeless, EntersAt, Recurs, FirstRecurs, same_numbers, same_values, same_entry, same_passages, entered_at, recurs_at, first_for, Recurrence, recurrence_to, recurrence_at, recurrence}
use Rattle.model.proofs.Basics.Bools.{clash, and_is}
use Rattle.model.proofs.Basics.Members.{not_in, all_is, first_none, first_some}
use Rattle.model.proofs.Schedule.Own.{all_in, own_in}
use Rattle.model.proofs.Schedule.Passages.{entered}
use Rattle.recurrence.proofs.Orbit.{one_state}

-- ## Equal entries

pub numbers_same : (xs ys : List ℕ) → (same_numbers xs ys ≡ true) ↔ (xs ≡ ys)
numbers_same [] [] = (λ e. refl, λ e. refl)
numbers_same [] (y ∷ ys) = (λ e. clash e, λ e. let z : ◌≡◌ {A = ℕ} 0 1 = cc in absurd (omega arith))
numbers_same (x ∷ xs) [] = (λ e. clash e, λ e. let z : ◌≡◌ {A = ℕ} 0 1 = cc in absurd (omega arith))
numbers_same (x ∷ xs) (y ∷ ys) = (
  λ e. let h = (and_is (eqb x y) (same_numbers xs ys)).0 e in let p : x ≡ y = eqb-true x y h.0 in let q = (numbers_same xs ys).0 h.1 in cc,
  λ e. let p : x ≡ y = cc in let q : xs ≡ ys = cc in (and_is (eqb x y) (same_numbers xs ys)).1 (eq-eqb x y p, (numbers_same xs ys).1 q),
)

pub value_same : (x y : ℤ) → (le_z x y && le_z y x ≡ true) ↔ (x ≡ y)
value_same (pos m) (pos n) = (
  λ e. let h = (and_is (leb m n) (leb n m)).0 e in ap pos (let z : m ≡ n = omega (arith, leb-true m n h.0, leb-true n m h.1) in z),
  λ e. let z : m ≡ n = cc in (and_is (leb m n) (leb n m)).1 (le-leb m n (omega arith), le-leb n m (omega arith)),
)
value_same (pos m) (negsuc n) = (λ e. clash e, λ e. let z : ◌≡◌ {A = ℕ} 0 1 = cc in absurd (omega arith))
value_same (negsuc m) (pos n) = (λ e. clash e, λ e. let z : ◌≡◌ {A = ℕ} 0 1 = cc in absurd (omega arith))
value_same (negsuc m) (negsuc n) = (
  λ e. let h = (and_is (leb n m) (leb m n)).0 e in ap negsuc (let z : m ≡ n = omega (arith, leb-true n m h.0, leb-true m n h.1) in z),
  λ e. let z : m ≡ n = cc in (and_is (leb n m) (leb m n)).1 (le-leb n m (omega arith), le-leb m n (omega arith)),
)

pub values_same : (xs ys : List ℤ) → (same_values xs ys ≡ true) ↔ (xs ≡ ys)
values_same [] [] = (λ e. refl, λ e. refl)
values_same [] (y ∷ ys) = (λ e. clash e, λ e. let z : ◌≡◌ {A = ℕ} 0 1 = cc in absurd (omega arith))
values_same (x ∷ xs) [] = (λ e. clash e, λ e. let z : ◌≡◌ {A = ℕ} 0 1 = cc in absurd (omega arith))
values_same (x ∷ xs) (y ∷ ys) = (
  λ e. let h = (and_is (le_z x y && le_z y x) (same_values xs ys)).0 e in let p : x ≡ y = (value_same x y).0 h.0 in let q = (values_same xs ys).0 h.1 in cc,
  λ e. let p : x ≡ y = cc in let q : xs ≡ ys = cc in (and_is (le_z x y && le_z y x) (same_values xs ys)).1 ((value_same x y).1 p, (values_same xs ys).1 q),
)

-- what is compared is all of an entry but its tick
pub entry_same : (p q : Entry) → (same_entry p q ≡ true) ↔ (timeless p ≡ timeless q)
entry_same p q = (
  λ e.
      let h = (and_is (eqb p.location q.location && same_numbers p.clocks q.clocks) (same_values p.values q.values)).0 e in
      let g = (and_is (eqb p.location q.location) (same_numbers p.clocks q.clocks)).0 h.0 in
      let a : p.location ≡ q.location = eqb-true p.location q.location g.0 in
      let b : p.clocks ≡ q.clocks = (numbers_same p.clocks q.clocks).0 g.1 in
      let c : p.values ≡ q.values = (values_same p.values q.values).0 h.1 in
      cc,
  λ e.
      let a = ap (λ (n : Entry). n.location) e in
      let b = ap (λ (n : Entry). n.clocks) e in
      let c = ap (λ (n : Entry). n.values) e in
      (and_is (eqb p.location q.location && same_numbers p.clocks q.clocks) (same_values p.values q.values)).1 (
        (and_is (eqb p.location q.location) (same_numbers p.clocks q.clocks)).1 (eq-eqb p.location q.location a, (numbers_same p.clocks q.clocks).1 b),
        (values_same p.values q.values).1 c,
      ),
)

-- ## The first of numbers in a row

in_row : (i n y : ℕ) → i ≤ y → y < i + n → y ∈ from i n
in_row i zero y l h = absurd (omega arith)
in_row i (suc n) y l h = go (ltb i y) refl (λ k. in_row (suc i) n y k (omega arith))
  where
    go : (t : Bool) → ltb i y ≡ t → (suc i ≤ y → y ∈ from (suc i) n) → y ∈ from i (suc n)
    go true e ih = there (ih (ltb-true i y e))
    go false e ih = let z : y ≡ i = omega (arith, ltb-false i y e) in here z

pub row_in : (i n y : ℕ) → y ∈ from i n → (i ≤ y) × (y < i + n)
row_in i zero y m = absurd (not_in m)
row_in i (suc n) y (here e) = (omega arith, omega arith)
row_in i (suc n) y (there m) = let r = row_in (suc i) n y m in (omega (arith, r.0), omega (arith, r.1))

-- none below what is found
first_low : (p : ℕ → Bool) (i n : ℕ) {x : ℕ} → first p (from i n) ≡ some x → (y : ℕ) → i ≤ y → y < x → p y ≡ true → ⊥
first_low p i zero e y l h q = let z : ◌≡◌ {A = ℕ} 0 1 = cc in omega arith
first_low p i (suc n) {x} e y l h q = go (p i) refl e (λ k a. first_low p (suc i) n k y a h q)
  where
    go : (t : Bool) → p i ≡ t → cond t (some i) (first p (from (suc i) n)) ≡ some x → (first p (from (suc i) n) ≡ some x → suc i ≤ y → ⊥) → ⊥
    go true a k ih = let z : i ≡ x = cc in omega arith
    go false a k ih = other (ltb i y) refl
      where
        other : (t : Bool) → ltb i y ≡ t → ⊥
        other true b = ih k (ltb-true i y b)
        other false b = let z : i ≡ y = omega (arith, ltb-false i y b) in clash (sym a ∙ ap p z ∙ q)

-- found, with what it is
abbrev is_some : {A : Type 0} → Option A → Bool
is_some o = not (is_none o)

some_of : {A : Type 0} (o : Option A) → not (is_none o) ≡ true → (x : A) × (o ≡ some x)
some_of none e = clash e
some_of (some x) e = (x, refl)

some_is : {A : Type 0} (o : Option A) {x : A} → o ≡ some x → not (is_none o) ≡ true
some_is o e = rw e

-- ## The pair

module _ (limit : ℕ) (T : Table) (H : ℕ) (S : List Passage) (sched : IsSchedule limit T H S) where
  -- who is found enters there
  found_enters : (c x : ℕ) (v : Passage) → entered_at S c x ≡ some v → EntersAt S c x (timeless v.entry)
  found_enters c x v e =
      let r = first_some (λ (w : Passage). eqb w.entry.tick x) (own c S) e in
      record { passage = v; listed = r.0; tick = eqb-true v.entry.tick x r.1; state = refl }

  -- who enters is found, or another one with the same state
  enters_found : (c x : ℕ) (st : Entry) → c < size T → EntersAt S c x st → (v : Passage) × (entered_at S c x ≡ some v) × (timeless v.entry ≡ st)
  enters_found c x st h e = go (entered_at S c x) refl
    where
      go : (o : Option Passage) → entered_at S c x ≡ o → (v : Passage) × (entered_at S c x ≡ some v) × (timeless v.entry ≡ st)
      go none q = clash (sym ((first_none (λ (w : Passage). eqb w.entry.tick x) (own c S)).0 q e.passage e.listed) ∙ eq-eqb e.passage.entry.tick x e.tick)
      go (some v) q = (v, q, one_state limit T H S sched c x h (timeless v.entry) st (found_enters c x v q) e)

  -- the test of one component
  abbrev Both : ℕ → ℕ → ℕ → Type 0
  Both a b c = (at : Entry) × EntersAt S c a at × EntersAt S c b at

  both_is : (a b c : ℕ) → c < size T → (same_passages (entered_at S c a) (entered_at S c b) ≡ true) ↔ Both a b c
  both_is a b c h = (λ e. go (entered_at S c a) refl (entered_at S c b) refl e, back)
    where
      go : (o : Option Passage) → entered_at S c a ≡ o → (r : Option Passage) → entered_at S c b ≡ r → same_passages o r ≡ true → Both a b c
      go none p r q e = clash e
      go (some v) p none q e = clash e
      go (some v) p (some w) q e =
          let s = (entry_same v.entry w.entry).0 e in
          (timeless v.entry, found_enters c a v p, subst (EntersAt S c b) (sym s) (found_enters c b w q))

      back : Both a b c → same_passages (entered_at S c a) (entered_at S c b) ≡ true
      back k =
          let u = enters_found c a k.0 h k.1 in
          let w = enters_found c b k.0 h k.2 in
          rw (u.1, w.1) ((entry_same u.0.entry w.0.entry).1 (u.2 ∙ sym w.2))

  -- the test of all components
  pub recurs-at : (a b : ℕ) → (recurs_at T S a b ≡ true) ↔ ((c : ℕ) → c < size T → Both a b c)
  recurs-at a b = (
    λ e c h. (both_is a b c h).0 ((all_is (λ c. same_passages (entered_at S c a) (entered_at S c b)) (below (size T))).0 e c (in_row 0 (size T) c (omega arith) (omega arith))),
    λ k. (all_is (λ c. same_passages (entered_at S c a) (entered_at S c b)) (below (size T))).1 (λ c m. (let h : c < size T = omega (arith, (row_in 0 (size T) c m).1) in (both_is a b c h).1 (k c h))),
  )

  abbrev has_first : ℕ → Bool
  has_first b = not (is_none (first_for T S b))

  -- a pair is seen at its second tick
  has_first_is : (x y : ℕ) → Recurs T H S x y → has_first y ≡ true
  has_first_is x y r = go (first_for T S y) refl
    where
      go : (o : Option ℕ) → first_for T S y ≡ o → not (is_none (first_for T S y)) ≡ true
      go none e = clash (sym ((first_none (λ a. recurs_at T S a y) (below y)).0 e x (in_row 0 y x (omega arith) (omega (arith, r.before)))) ∙ (recurs-at x y).1 r.enters)
      go (some a) e = some_is (first_for T S y) e

  -- ## The laws

  -- none is computed: there is no pair
  pub none_recurs : recurrence T H S ≡ none → (x y : ℕ) → Recurs T H S x y → ⊥
  unfolding recurrence
  none_recurs e x y r = go (first has_first (below H)) refl e
    where
      to : (b : ℕ) (o : Option ℕ) → not (is_none o) ≡ true → recurrence_to b o ≡ none → ⊥
      to b none h k = clash h
      to b (some a) h k = let z : ◌≡◌ {A = ℕ} 0 1 = cc in omega arith

      go : (o : Option ℕ) → first has_first (below H) ≡ o → recurrence_at T S o ≡ none → ⊥
      go none q k = clash (sym ((first_none has_first (below H)).0 q y (in_row 0 H y (omega arith) (omega (arith, r.below)))) ∙ has_first_is x y r)
      go (some b) q k = to b (first_for T S b) (first_some has_first (below H) q).1 k

  -- one is computed: it is the first
  pub found_recurs : (r : Recurrence) → recurrence T H S ≡ some r → FirstRecurs T H S r.from r.to
  unfolding recurrence
  found_recurs r e = go (first has_first (below H)) refl e
    where
      at : (b a : ℕ) → first has_first (below H) ≡ some b → first_for T S b ≡ some a → FirstRecurs T H S a b
      at b a q k =
          let m = (first_some has_first (below H) q).0 in
          let n = first_some (λ x. recurs_at T S x b) (below b) k in
          record {
            recurs = record { before = omega (arith, (row_in 0 b a n.0).1); below = omega (arith, (row_in 0 H b m).1); enters = (recurs-at a b).0 n.1 };
            first_b = λ x y s. lowest (ltb y b) refl s;
            first_a = λ x s. lower (ltb x a) refl s;
          }
        where
          lowest : {x y : ℕ} (t : Bool) → ltb y b ≡ t → Recurs T H S x y → b ≤ y
          lowest {x} {y} true u s = absurd (first_low has_first 0 H q y (omega arith) (ltb-true y b u) (has_first_is x y s))
          lowest {x} {y} false u s = ltb-false y b u

          lower : {x : ℕ} (t : Bool) → ltb x a ≡ t → Recurs T H S x b → a ≤ x
          lower {x} true u s = absurd (first_low (λ x. recurs_at T S x b) 0 b k x (omega arith) (ltb-true x a u) ((recurs-at x b).1 s.enters))
          lower {x} false u s = ltb-false x a u

      to : (b : ℕ) → first has_first (below H) ≡ some b → (o : Option ℕ) → first_for T S b ≡ o → recurrence_to b o ≡ some r → FirstRecurs T H S r.from r.to
      to b q none k h = let z : ◌≡◌ {A = ℕ} 0 1 = cc in absurd (omega arith)
      to b q (some a) k h =
          let z : record { from = a; to = b } ≡ r = cc in
          subst (λ (x : Recurrence). FirstRecurs T H S x.from x.to) z (at b a q k)

      go : (o : Option ℕ) → first has_first (below H) ≡ o → recurrence_at T S o ≡ some r → FirstRecurs T H S r.from r.to
      go none q k = let z : ◌≡◌ {A = ℕ} 0 1 = cc in absurd (omega arith)
      go (some b) q k = to b q (first_for T S b) refl k

  -- and the first is computed
  pub recurs_found : (a b : ℕ) → FirstRecurs T H S a b → recurrence T H S ≡ some (record { from = a; to = b })
  recurs_found a b f = go (recurrence T H S) refl
    where
      go : (o : Option Recurrence) → recurrence T H S ≡ o → recurrence T H S ≡ some (record { from = a; to = b })
      go none e = absurd (none_recurs e a b f.recurs)
      go (some r) e =
          let g = found_recurs r e in
          let x : r.to ≡ b = omega (arith, g.first_b a b f.recurs, f.first_b r.from r.to g.recurs) in
          let y : r.from ≡ a = omega (arith, g.first_a a (subst (Recurs T H S a) (sym x) f.recurs), f.first_a r.from (subst (Recurs T H S r.from) x g.recurs)) in
          e ∙ ap₂ (λ (u v : ℕ). some (record { from = u; to = v })) y x
