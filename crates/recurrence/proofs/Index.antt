-- The passages of one component, by their numbers: from b on each is an earlier one, moved by a period. Assumes nothing.
use mathlib.Core.Path.{◌≡◌, refl, sym, ap, ap₂, subst, ◌∙◌}
use mathlib.Core.Bool.{Bool, true, false, cond}
use mathlib.Core.List.{List, [], ◌∷◌, ◌++◌, map}
use mathlib.Core.Option.{Option, none, some}
use Prim.Native.Nat.{ℕ, zero, suc, ◌+◌, ◌-◌, ◌*◌, ◌≤◌, ◌<◌}
use native.Mathlib.Omega.{arith}
use borrow.Author.Tests.{ltb-true, lt-ltb}
use lib.Dec.{ltb, eqb}
use lib.ListN.{length, length-append, length-map}
use Rattle.model.specs.Lists.{◌∈◌, only, All}
use Rattle.model.specs.Table.{Table, size}
use Rattle.model.specs.Schedule.{Passage, own, message_in}
use Rattle.model.specs.Checks.{passage_at}
use Rattle.model.specs.Chains.{Ordered, IsSchedule}
use Rattle.model.specs.Run.{ready_of_nth}
use Rattle.model.proofs.Basics.Members.{only_is, only_append}
use Rattle.model.proofs.Schedule.Own.{own_put, in_all}
use Rattle.model.proofs.Schedule.Messages.{put}
use Rattle.recurrence.specs.Recurrence.{Recurs}
use Rattle.recurrence.proofs.Move.{later}
use Rattle.recurrence.proofs.Seam.{enters_before, enters_from, split_at}
use Rattle.recurrence.proofs.Grow.{Again, only_swap, ordered_only, ordered_later, own_grown}
use Rattle.recurrence.proofs.Every.{again_of, all_left}
use Rattle.recurrence.proofs.Count.{turned}

-- ## Numbers in lists

pub at_first : (L R : List Passage) (k : ℕ) → k < length L → passage_at (L ++ R) k ≡ passage_at L k
at_first [] R k h = absurd (omega arith)
at_first (v ∷ L) R zero h = refl
at_first (v ∷ L) R (suc k) h = at_first L R k (omega arith)

pub at_second : (L R : List Passage) (k : ℕ) → passage_at (L ++ R) (length L + k) ≡ passage_at R k
at_second [] R k = ap (passage_at R) (let z : 0 + k ≡ k = omega arith in z)
at_second (v ∷ L) R k = ap (passage_at (v ∷ (L ++ R))) (let z : suc (length L) + k ≡ suc (length L + k) = omega arith in z) ∙ at_second L R k

pub at_map : (f : Passage → Passage) (L : List Passage) (k : ℕ) → k < length L → passage_at (map f L) k ≡ f (passage_at L k)
at_map f [] k h = absurd (omega arith)
at_map f (v ∷ L) zero h = refl
at_map f (v ∷ L) (suc k) h = at_map f L k (omega arith)

-- all are left
only_all : {A : Type 0} (p : A → Bool) (L : List A) → ((x : A) → x ∈ L → p x ≡ true) → only p L ≡ L
only_all p [] h = refl
only_all p (x ∷ L) h =
    ap (λ (t : Bool). cond t (x ∷ only p L) (only p L)) (h x (Rattle.model.specs.Lists.here refl)) ∙ ap (λ (l : List _). x ∷ l) (only_all p L (λ y m. h y (Rattle.model.specs.Lists.there m)))

-- the ready of passage k, if it is there
pub ready_at : (L : List Passage) (k : ℕ) → k < length L → ready_of_nth L k ≡ some (passage_at L k).ready
ready_at [] k h = absurd (omega arith)
ready_at (v ∷ L) zero h = refl
ready_at (v ∷ L) (suc k) h = ready_at L k (omega arith)

pub no_ready : (L : List Passage) (k : ℕ) → length L ≤ k → ready_of_nth L k ≡ none
no_ready [] k h = refl
no_ready (v ∷ L) zero h = absurd (omega arith)
no_ready (v ∷ L) (suc k) h = no_ready L k (omega arith)

-- ## One component's

module _ {m : ℕ} (T : Table) (H : ℕ) (S : List Passage) (s : IsSchedule m T H S) (a P : ℕ) (longer : 0 < P) (r : Recurs T H S a (a + P)) (c : ℕ) where
  abbrev pub mine : List Passage
  mine = own c S

  -- how many of its passages are entered before a, and before b
  abbrev pub first_rows : ℕ
  first_rows = length (only (enters_before a) (own c S))

  abbrev pub round_rows : ℕ
  round_rows = length (only (enters_before (a + P)) (own c S))

  abbrev G : List Passage
  G = only (enters_before (a + P)) S ++ map (later P) (only (enters_from a) S)

  abbrev pub W : List Passage
  W = only (enters_before H) G

  abbrev pub First : List Passage
  First = only (enters_before (a + P)) mine

  abbrev pub Rest : List Passage
  Rest = only (enters_from a) mine

  abbrev pub Moved : List Passage
  Moved = only (enters_before H) (map (later P) Rest)

  -- its passages: those before b, then those from a on moved, as far as the horizon
  pub mine_is : map (put (message_in T H W)) (First ++ Moved) ≡ mine
  mine_is =
      let A = again_of T H S a P r in
      let g = message_in T H W in
      ap (map (put g))
      (sym (only_append (enters_before H) First (map (later P) Rest)
      ∙ ap (λ (l : List Passage). l ++ Moved) (only_all (enters_before H) First (λ v i. (let h = ltb-true v.entry.tick (a + P) ((only_is (enters_before (a + P)) mine).0 i).1 in lt-ltb v.entry.tick H (omega (arith, r.below))))))
      ∙ sym (ap (only (enters_before H)) (own_grown m T H S s a P r.below longer A c))
      ∙ only_swap (enters_before H) (λ (v : Passage). eqb v.component c) G)
      ∙ sym (own_put g c W)
      ∙ ap (own c) (turned m T H S s a P r.below longer A)

  mine_ordered : Ordered mine
  mine_ordered = ordered_only (λ (v : Passage). eqb v.component c) s.order

  -- from b on: the one as far from a, moved
  pub comes_again : (j : ℕ) → round_rows + j < length mine → (first_rows + j < length mine) × ((passage_at mine (round_rows + j)).ready ≡ (passage_at mine (first_rows + j)).ready + P)
  comes_again j h =
      let g = message_in T H W in
      let total : length First + length Moved ≡ length mine = sym (length-append First Moved) ∙ sym (length-map (First ++ Moved) (put g)) ∙ ap length mine_is in
      let inside : j < length Moved = omega (arith, total) in
      let split = split_at H (ordered_later P (ordered_only (enters_from a) mine_ordered)) in
      let long : j < length (map (later P) Rest) = omega (arith, ap length split, length-append Moved (only (enters_from H) (map (later P) Rest))) in
      let there : j < length Rest = omega (arith, length-map Rest (later P)) in
      let halves = split_at a mine_ordered in
      let one : passage_at mine (round_rows + j) ≡ put g (passage_at Moved j) =
      sym (ap (λ (l : List Passage). passage_at l (round_rows + j)) mine_is)
      ∙ at_map (put g) (First ++ Moved) (round_rows + j) (omega (arith, length-append First Moved))
      ∙ ap (put g) (at_second First Moved j) in
      let two : passage_at Moved j ≡ later P (passage_at Rest j) =
      sym (at_first Moved (only (enters_from H) (map (later P) Rest)) j inside)
      ∙ ap (λ (l : List Passage). passage_at l j) split
      ∙ at_map (later P) Rest j there in
      let three : passage_at mine (first_rows + j) ≡ passage_at Rest j =
      sym (ap (λ (l : List Passage). passage_at l (first_rows + j)) halves) ∙ at_second (only (enters_before a) mine) Rest j in (
        omega (arith, ap length halves, length-append (only (enters_before a) mine) Rest),
        ap (λ (v : Passage). v.ready) one ∙ ap (λ (v : Passage). v.ready) two ∙ sym (ap (λ (v : Passage). v.ready + P) three),
      )
