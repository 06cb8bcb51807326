-- The entry of a component's next passage, carried along the schedule; and the rows at which all components enter. Assumes nothing.
use mathlib.Core.Path.{◌≡◌, refl, sym, ap, subst, subst₂, ◌∙◌}
use mathlib.Core.Bool.{Bool, true, false, cond}
use mathlib.Core.List.{List, [], ◌∷◌, ◌++◌}
use mathlib.Core.Logic.{◌⊎◌, inl, inr}
use Prim.Native.Nat.{ℕ, zero, suc, ◌+◌, ◌-◌, ◌≤◌, ◌<◌}
use native.Mathlib.Omega.{arith}
use borrow.Author.Tests.{ltb-true, ltb-false, lt-ltb, le-ltb, leb-true, le-leb, eqb-true, eq-eqb}
use lib.Dec.{leb, ltb, eqb}
use lib.ListN.{length, drop, get_or, length-append}
use lib.Seq.{drop-cons}
use Rattle.model.specs.Lists.{◌∈◌, here, there, only, All, empty, more}
use Rattle.model.specs.Table.{Component, Table, size, component_of, arc_of}
use Rattle.model.specs.Window.{Entry, leaves}
use Rattle.model.specs.Schedule.{Passage, own, start_entry}
use Rattle.model.specs.Checks.{no_passage, passage_at}
use Rattle.model.specs.Chains.{Chain, last, link, Before, Ordered, IsSchedule}
use Rattle.model.specs.Chains.{none as no-passage, more as first-passage}
use Rattle.model.proofs.Basics.Members.{not_in, in_at, only_is}
use Rattle.model.proofs.Schedule.Own.{own_here, own_other, own_in, all_in, all_then}
use Rattle.model.proofs.Schedule.Replayed.{Ahead, ahead_start, ahead_other, ahead_here, ahead_next}
use Rattle.recurrence.specs.Recurrence.{timeless, EntersAt}
use Rattle.recurrence.proofs.Seam.{enters_before, enters_from, split_at}

-- if component c has passages from number i on, the first of them is entered so
abbrev pub Upcoming : ℕ → ℕ → Component → List Passage → ℕ → Entry → Type 0
Upcoming H c C S i at = (own c (drop i S) ≡ [] → ⊥) → Ahead H c C S i at

-- at the first one: as it starts
pub upcoming_start : (limit : ℕ) (T : Table) (H : ℕ) (S : List Passage) → IsSchedule limit T H S → (c : ℕ) → c < size T → Upcoming H c (component_of T c) S 0 (start_entry (component_of T c))
upcoming_start limit T H S s c h some = ahead_start s c h

-- a passage with another after it ends before the horizon
ends_before : {H c : ℕ} {C : Component} {v : Passage} {ws : List Passage} → Chain H c C v ws → (ws ≡ [] → ⊥) → v.end < H
ends_before (last k) n = absurd (n refl)
ends_before (link k o m) n = k

module _ (H c : ℕ) (C : Component) (S : List Passage) (i : ℕ) (at : Entry) (there' : i < length S) (u : Upcoming H c C S i at) where
  row : drop i S ≡ passage_at S i ∷ drop (suc i) S
  row = drop-cons S i no_passage there'

  -- a passage of another component
  pub upcoming_other : ((passage_at S i).component ≡ c → ⊥) → Upcoming H c C S (suc i) at
  upcoming_other n some =
      let e = ap (own c) row ∙ own_other c (passage_at S i) (drop (suc i) S) n in
      ahead_other H c C S i at there' (u (λ z. some (sym e ∙ z))) n

  module _ (mine : (passage_at S i).component ≡ c) where
    own_row : own c (drop i S) ≡ passage_at S i ∷ own c (drop (suc i) S)
    own_row = ap (own c) row ∙ own_here c (passage_at S i) (drop (suc i) S) mine

    its : Ahead H c C S i at
    its = u (λ z. (let y : passage_at S i ∷ own c (drop (suc i) S) ≡ [] = sym own_row ∙ z in let k : ◌≡◌ {A = ℕ} 0 1 = cc in omega arith))

    -- its own
    pub upcoming_here : (passage_at S i).entry ≡ at
    upcoming_here = ahead_here H c C S i at there' its mine

    chained : Chain H c C (passage_at S i) (own c (drop (suc i) S))
    chained =
        let b : passage_at S i ∷ own c (drop (suc i) S) ≡ its.head ∷ its.tail = sym own_row ∙ its.is in
        let p : its.head ≡ passage_at S i = cc in
        let q : its.tail ≡ own c (drop (suc i) S) = cc in
        subst₂ (Chain H c C) p q its.chain

    -- the next one is entered where it leads to
    pub upcoming_next : Upcoming H c C S (suc i) (leaves (arc_of C (passage_at S i).edge) (passage_at S i).message (passage_at S i).end at)
    upcoming_next some = ahead_next H c C S i at there' its mine (ends_before chained some)

-- ## Rows at which all enter

-- from row i on stand the passages of components 0 upward, entered at x
abbrev pub RowsJoin : List Passage → ℕ → ℕ → ℕ → Type 0
RowsJoin S count i x = (c : ℕ) → c < count → (i + c < length S) × ((passage_at S (i + c)).component ≡ c) × ((passage_at S (i + c)).entry.tick ≡ x)

-- all enter there
pub enters_row : (S : List Passage) (count i x : ℕ) → RowsJoin S count i x → (c : ℕ) → c < count → EntersAt S c x (timeless (passage_at S (i + c)).entry)
enters_row S count i x j c h =
    let r = j c h in
    record {
      passage = passage_at S (i + c);
      listed = (only_is (λ (v : Passage). eqb v.component c) S).1 (in_at no_passage S (i + c) r.0, eq-eqb (passage_at S (i + c)).component c r.1);
      tick = r.2;
      state = refl;
    }

-- what is known of a component's next passage is known of the one that it has there
pub upcoming_row : (H : ℕ) (S : List Passage) (count i x : ℕ) → RowsJoin S count i x → (c : ℕ) (C : Component) (at : Entry) → Upcoming H c C S i at → c < count
    → (passage_at S (i + c)).entry ≡ at
upcoming_row H S count i x j c C at u h = let r = j c h in upcoming_here H c C S (i + c) at r.0 (walked c (omega arith)) r.1
  where
    walked : (k : ℕ) → k ≤ c → Upcoming H c C S (i + k) at
    walked zero l = subst (λ (n : ℕ). Upcoming H c C S n at) (let z : i ≡ i + 0 = omega arith in z) u
    walked (suc k) l =
        let r = j k (omega arith) in
        subst (λ (n : ℕ). Upcoming H c C S n at) (let z : suc (i + k) ≡ i + suc k = omega arith in z)
        (upcoming_other H c C S (i + k) at r.0 (walked k (omega arith)) (λ e. omega (arith, r.1)))

-- ## Where all enter the rows join

-- an ordered list from tick x on, with each of the components from k on entered at x, has them at its front
fronts : (x count : ℕ) (R : List Passage) → Ordered R → All (λ v. x ≤ v.entry.tick) R → (k : ℕ) → ((c : ℕ) → k ≤ c → c < count → (v : Passage) × (v ∈ R) × (v.component ≡ c) × (v.entry.tick ≡ x))
    → All (λ v. (v.entry.tick ≡ x → k ≤ v.component) × (v.component < count)) R
    → (c : ℕ) → k + c < count → (c < length R) × ((passage_at R c).component ≡ k + c) × ((passage_at R c).entry.tick ≡ x)
fronts x count [] o a k m b c h = let r = m k (omega arith) (omega arith) in absurd (not_in r.1)
fronts x count (v ∷ R) (first-passage f o) (more l a) k m (more g b) c h = go c h (head (m k (omega arith) (omega arith))) (λ q n d e i. fronts x count R o a q n d e i)
  where
    -- the first is component k's
    head : (w : Passage) × (w ∈ (v ∷ R)) × (w.component ≡ k) × (w.entry.tick ≡ x) → (v.component ≡ k) × (v.entry.tick ≡ x)
    head (w, here e, p, q) = (sym (ap (λ (z : Passage). z.component) e) ∙ p, sym (ap (λ (z : Passage). z.entry.tick) e) ∙ q)
    head (w, there n, p, q) = later (all_in f n)
      where
        later : Before v w → (v.component ≡ k) × (v.entry.tick ≡ x)
        later (inl y) = absurd (omega arith)
        later (inr y) = absurd (let u = g.0 (omega (arith, y.0)) in omega (arith, y.1))

    go : (c : ℕ) → k + c < count → (v.component ≡ k) × (v.entry.tick ≡ x)
        → ((q : ℕ) → ((d : ℕ) → q ≤ d → d < count → (w : Passage) × (w ∈ R) × (w.component ≡ d) × (w.entry.tick ≡ x))
        → All (λ w. (w.entry.tick ≡ x → q ≤ w.component) × (w.component < count)) R
        → (d : ℕ) → q + d < count → (d < length R) × ((passage_at R d).component ≡ q + d) × ((passage_at R d).entry.tick ≡ x))
        → (c < length (v ∷ R)) × ((passage_at (v ∷ R) c).component ≡ k + c) × ((passage_at (v ∷ R) c).entry.tick ≡ x)
    go zero h p ih = (omega arith, p.0 ∙ (let z : k ≡ k + 0 = omega arith in z), p.1)
    go (suc c) h p ih =
        let r = ih (suc k) rest after c (omega arith) in
        (omega (arith, r.0), r.1 ∙ (let z : suc k + c ≡ k + suc c = omega arith in z), r.2)
      where
        rest : (d : ℕ) → suc k ≤ d → d < count → (w : Passage) × (w ∈ R) × (w.component ≡ d) × (w.entry.tick ≡ x)
        rest d i j = tail (m d (omega arith) j)
          where
            tail : (w : Passage) × (w ∈ (v ∷ R)) × (w.component ≡ d) × (w.entry.tick ≡ x) → (w : Passage) × (w ∈ R) × (w.component ≡ d) × (w.entry.tick ≡ x)
            tail (w, here e, q, t) = absurd (omega (arith, p.0, ap (λ (z : Passage). z.component) e))
            tail (w, there n, q, t) = (w, n, q, t)

        after : All (λ w. (w.entry.tick ≡ x → suc k ≤ w.component) × (w.component < count)) R
        after = both b f
          where
            both : {ws : List Passage} → All (λ w. (w.entry.tick ≡ x → k ≤ w.component) × (w.component < count)) ws → All (Before v) ws → All (λ w. (w.entry.tick ≡ x → suc k ≤ w.component) × (w.component < count)) ws
            both empty empty = empty
            both (more {x = w} y ys) (more z zs) = more {x = w} ((λ e. above w z e), y.1) (both ys zs)
              where
                above : (w : Passage) → Before v w → w.entry.tick ≡ x → suc k ≤ w.component
                above w (inl z) e = absurd (omega (arith, p.1))
                above w (inr z) e = omega (arith, p.0, z.1)

-- the number of passages entered before x is the row from which on they join
pub rows_join : (limit : ℕ) (T : Table) (H : ℕ) (S : List Passage) → IsSchedule limit T H S → (x : ℕ) → ((c : ℕ) → c < size T → (at : Entry) × EntersAt S c x at)
    → RowsJoin S (size T) (length (only (enters_before x) S)) x
rows_join limit T H S s x j c h =
    let R = only (enters_from x) S in
    let L = only (enters_before x) S in
    let r = fronts x (size T) R (ordered_from S s.order) (from_all S) 0 members bounds c (omega arith) in
    let e : L ++ R ≡ S = split_at x s.order in
    let p : passage_at S (length L + c) ≡ passage_at R c = sym (ap (λ (l : List Passage). passage_at l (length L + c)) e) ∙ at_append L R c in (
      omega (arith, r.0, ap length e, length-append L R),
      ap (λ (v : Passage). v.component) p ∙ r.1 ∙ (let z : 0 + c ≡ c = omega arith in z),
      ap (λ (v : Passage). v.entry.tick) p ∙ r.2,
    )
  where
    at_append : (L R : List Passage) (c : ℕ) → passage_at (L ++ R) (length L + c) ≡ passage_at R c
    at_append [] R c = ap (passage_at R) (let z : 0 + c ≡ c = omega arith in z)
    at_append (v ∷ L) R c = ap (passage_at (v ∷ (L ++ R))) (let z : suc (length L) + c ≡ suc (length L + c) = omega arith in z) ∙ at_append L R c

    ordered_from : (U : List Passage) → Ordered U → Ordered (only (enters_from x) U)
    ordered_from U o = Rattle.recurrence.proofs.Grow.ordered_only (enters_from x) o

    from_all : (U : List Passage) → All (λ v. x ≤ v.entry.tick) (only (enters_from x) U)
    from_all U = Rattle.model.proofs.Schedule.Own.in_all (only (enters_from x) U) (λ v m. leb-true x v.entry.tick ((only_is (enters_from x) U).0 m).1)

    members : (d : ℕ) → 0 ≤ d → d < size T → (v : Passage) × (v ∈ only (enters_from x) S) × (v.component ≡ d) × (v.entry.tick ≡ x)
    members d l k =
        let e = (j d k).1 in
        let i = own_in d S e.listed in
        (e.passage, (only_is (enters_from x) S).1 (i.0, le-leb x e.passage.entry.tick (omega (arith, e.tick))), i.1, e.tick)

    bounds : All (λ v. (v.entry.tick ≡ x → 0 ≤ v.component) × (v.component < size T)) (only (enters_from x) S)
    bounds = Rattle.model.proofs.Schedule.Own.in_all (only (enters_from x) S) (λ v m. ((λ e. omega arith), all_in s.present ((only_is (enters_from x) S).0 m).0))
