-- One walk: the last passage of a component among those entered by a tick is the one named there, and those entered are the first of the
-- schedule. Assumes nothing.
use mathlib.Core.Path.{◌≡◌, refl, sym, ap, subst, ◌∙◌}
use mathlib.Core.Bool.{Bool, true, false, cond}
use mathlib.Core.List.{List, [], ◌∷◌}
use mathlib.Core.Logic.{◌↔◌, by_cases}
use Prim.Native.Nat.{ℕ, zero, suc, ◌*◌, ◌≤◌, ◌<◌}
use native.Mathlib.Omega.{arith}
use native.Mathlib.Decide.{ℕ_discrete}
use borrow.Author.Tests.{ltb-true, ltb-false, lt-leb, leb-true, le-leb, leb-false}
use lib.Dec.{leb, ltb}
use lib.ListN.{length, get_or, length-append}
use Rattle.model.specs.Lists.{only, each, ◌∈◌}
use Rattle.model.specs.Table.{Table, size}
use Rattle.model.specs.Schedule.{Passage}
use Rattle.model.specs.Checks.{passage_at, InWindow}
use Rattle.model.specs.Chains.{IsSchedule}
use Rattle.model.specs.Reasons.{passage_number}
use Rattle.model.specs.Positions.{Asked, entered_by, position_bytes, passages_read, pair_at}
use Rattle.model.proofs.Basics.Walk.{each_length}
use Rattle.model.proofs.Schedule.Passages.{never_falls}
use Rattle.model.proofs.Schedule.Reasoned.{Named, apart, named}
use Rattle.model.proofs.Schedule.Answered.{only_few}

-- ## Passages read

-- where the first k are entered by the tick and no further one is, k are
entered_count : (t : ℕ) (S : List Passage) (k : ℕ) → k ≤ length S → ((i : ℕ) → i < k → (passage_at S i).entry.tick ≤ t)
    → ((i : ℕ) → k ≤ i → i < length S → t < (passage_at S i).entry.tick) → length (entered_by t S) ≡ k
entered_count t [] k h f g = omega arith
entered_count t (v ∷ S) zero h f g =
    rw (lt-leb v.entry.tick t (g 0 (omega arith) (omega arith))) (entered_count t S 0 (omega arith) (λ i l. absurd (omega arith)) (λ i l m. g (suc i) (omega arith) (omega arith)))
entered_count t (v ∷ S) (suc k) h f g =
    rw (le-leb v.entry.tick t (f 0 (omega arith))) (ap suc (entered_count t S k (omega arith) (λ i l. f (suc i) (omega arith)) (λ i l m. g (suc i) (omega arith) (omega arith))))

-- those entered by the tick are the first
entered_first : (t : ℕ) (S : List Passage) → ((i j : ℕ) → i ≤ j → j < length S → (passage_at S i).entry.tick ≤ (passage_at S j).entry.tick) → (i : ℕ) → i < length S
    → (i < length (entered_by t S)) ↔ ((passage_at S i).entry.tick ≤ t)
entered_first t [] rises i h = absurd (omega arith)
entered_first t (v ∷ S) rises i h = go (λ j l. entered_first t S (λ a b m n. rises (suc a) (suc b) (omega arith) (omega arith)) j l) (leb v.entry.tick t) refl i h
  where
    go : ((j : ℕ) → j < length S → (j < length (entered_by t S)) ↔ ((passage_at S j).entry.tick ≤ t)) → (b : Bool) → leb v.entry.tick t ≡ b → (i : ℕ) → i < suc (length S)
        → (i < length (cond b (v ∷ entered_by t S) (entered_by t S))) ↔ ((passage_at (v ∷ S) i).entry.tick ≤ t)
    go later true e zero h = (λ _. leb-true v.entry.tick t e, λ _. omega arith)
    go later true e (suc i) h = let r = later i (omega arith) in (λ l. r.0 (omega arith), λ l. omega (arith, r.1 l))
    go later false e i h =
        let past = leb-false v.entry.tick t e in
        let none : length (entered_by t S) ≡ 0 = entered_count t S 0 (omega arith) (λ j l. absurd (omega arith)) (λ j l m. omega (arith, rises 0 (suc j) (omega arith) (omega arith))) in
        (λ l. absurd (omega arith), λ l. absurd (omega (arith, rises 0 i (omega arith) h)))

-- the last pair decides how many are read
pub last_read : (S : List Passage) (qs : List Asked) (k : ℕ) → suc k ≡ length qs → passages_read S qs ≡ length (entered_by (pair_at qs k).tick S)
last_read S [] k e = absurd (omega arith)
last_read S (q ∷ []) zero e = refl
last_read S (q ∷ []) (suc k) e = absurd (omega arith)
last_read S (q ∷ r ∷ qs) zero e = absurd (omega arith)
last_read S (q ∷ r ∷ qs) (suc k) e = last_read S (r ∷ qs) k (omega arith)

pub read_few : (S : List Passage) (qs : List Asked) → passages_read S qs ≤ length S
read_few S [] = omega arith
read_few S (q ∷ []) = only_few (λ v. leb v.entry.tick q.tick) S
read_few S (q ∷ r ∷ qs) = read_few S (r ∷ qs)

module _ {limit : ℕ} {T : Table} {H : ℕ} {S : List Passage} (s : IsSchedule limit T H S) where
  -- those entered by a tick are the first of the schedule
  pub entered_are : (t i : ℕ) → i < length S → (i < length (entered_by t S)) ↔ ((passage_at S i).entry.tick ≤ t)
  entered_are t i h = entered_first t S (never_falls s) i h

  -- a walk that has read k passages, and stands at the end or before one entered after the tick, has read those entered by it
  pub read_is : (t k : ℕ) → k ≤ length S → ((i : ℕ) → i < k → (passage_at S i).entry.tick ≤ t) → (k < length S → t < (passage_at S k).entry.tick)
      → length (entered_by t S) ≡ k
  read_is t k h f g = entered_count t S k h f (λ i l m. omega (arith, g (omega arith), never_falls s k i l m))

  -- of the k passages read, the last of the component is the one named
  pub last_named : (c t i k : ℕ) → c < size T → t < H → i < k → k ≤ length S → (passage_at S i).component ≡ c → (passage_at S i).entry.tick ≤ t
      → ((j : ℕ) → i < j → j < k → (passage_at S j).component ≡ c → ⊥) → (k < length S → t < (passage_at S k).entry.tick)
      → i ≡ passage_number S c t
  last_named c t i k hc ht l h e b none_after g =
      let n = named s c t hc ht in
      let m = passage_number S c t in
      by_cases (ℕ_discrete i m) (λ x. x) (λ x. absurd (go n (ltb i m) refl x))
    where
      go : Named S c t (passage_number S c t) → (y : Bool) → ltb i (passage_number S c t) ≡ y → (i ≡ passage_number S c t → ⊥) → ⊥
      go n true y x = inside n (ltb (passage_number S c t) k) refl
        where
          inside : Named S c t (passage_number S c t) → (z : Bool) → ltb (passage_number S c t) k ≡ z → ⊥
          inside n true z = none_after (passage_number S c t) (ltb-true _ _ y) (ltb-true _ _ z) n.component
          inside n false z = omega (arith, g (omega (arith, ltb-false (passage_number S c t) k z, n.there)), never_falls s k (passage_number S c t) (ltb-false (passage_number S c t) k z) n.there, n.entered)
      go n false y x =
          let below : passage_number S c t < i = by_cases (ℕ_discrete i (passage_number S c t)) (λ q. absurd (x q)) (λ q. omega (arith, ltb-false i (passage_number S c t) y)) in
          omega (arith, n.before, apart s c t hc ht (passage_number S c t) i below (omega arith) n.component e)

  -- the third byte is 1 exactly if the tick lies in the window
  pub in_window : (c t : ℕ) → c < size T → t < H → (ltb t (passage_at S (passage_number S c t)).ready ≡ false) ↔ InWindow t (passage_at S (passage_number S c t))
  in_window c t hc ht =
      let n = named s c t hc ht in
      (λ e. record { from = ltb-false _ _ e; to = omega (arith, n.before) }, λ w. borrow.Author.Tests.le-ltb _ _ w.from)

  -- two bytes tell a passage
  pub small_number : (c t : ℕ) → c < size T → t < H → passage_number S c t < limit
  small_number c t hc ht = omega (arith, (named s c t hc ht).there, s.few)

-- three bytes a pair
pub position-bytes : (S : List Passage) (qs : List Asked) → length (each (position_bytes S) qs) ≡ length qs * 3
position-bytes S qs = each_length (position_bytes S) 3 (λ q. refl) qs
