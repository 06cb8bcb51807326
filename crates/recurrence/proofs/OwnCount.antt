-- The passages of one component, counted: a period later there are as many more as a period has; and each is ready before the second tick of the pair,
-- as many periods later. Assumes nothing.
use mathlib.Core.Path.{◌≡◌, refl, sym, ap, ap₂, subst, ◌∙◌}
use mathlib.Core.Bool.{Bool, true, false, cond}
use mathlib.Core.Logic.{inl, inr}
use mathlib.Core.List.{List, [], ◌∷◌, ◌++◌, map}
use Prim.Native.Nat.{ℕ, zero, suc, ◌+◌, ◌-◌, ◌*◌, ◌≤◌, ◌<◌}
use native.Mathlib.Omega.{arith}
use borrow.Author.Tests.{ltb-true, lt-ltb}
use lib.Dec.{ltb, eqb}
use lib.ListN.{length, length-append, length-map}
use Rattle.model.specs.Lists.{◌∈◌, only, All}
use Rattle.model.specs.Table.{Table, size}
use Rattle.model.specs.Schedule.{Passage, own, message_in}
use Rattle.model.specs.Checks.{no_passage, passage_at}
use Rattle.model.specs.Chains.{IsSchedule}
use Rattle.model.proofs.Basics.Members.{in_at, only_is, only_append}
use Rattle.model.proofs.Checks.Independence.{only_map}
use Rattle.model.proofs.Schedule.Own.{own_in, at_all}
use Rattle.model.proofs.Schedule.Messages.{put}
use Rattle.recurrence.specs.Recurrence.{Recurs}
use Rattle.recurrence.specs.Rows.{rows_before, place_row, place_turns}
use Rattle.recurrence.proofs.Move.{later, ltb_later}
use Rattle.recurrence.proofs.Seam.{enters_before, enters_from, split_at, is_wide, left_ends}
use Rattle.recurrence.proofs.Apart.{only_same}
use Rattle.recurrence.proofs.Grow.{only_swap, ordered_only, joint_b}
use Rattle.recurrence.proofs.Every.{again_of}
use Rattle.recurrence.proofs.Count.{only_under}
use Rattle.recurrence.proofs.Counted.{recurs_up, all_before}
use Rattle.recurrence.proofs.Index.{at_first, mine, first_rows, round_rows, First, Rest, Moved, W, mine_is}
use Rattle.recurrence.proofs.Place.{same_rows, same_start, by_place}
use Rattle.recurrence.proofs.Beyond.{own_period}
use Rattle.recurrence.proofs.ByRows.{place_low, place_high, place_is}

module _ {m : ℕ} (T : Table) (H : ℕ) (S : List Passage) (s : IsSchedule m T H S) (a P : ℕ) (longer : 0 < P) (r : Recurs T H S a (a + P)) (c : ℕ) where
  -- from a on: those before x are those before a and the others before x
  split_own : (x : ℕ) → a ≤ x → rows_before S c x ≡ rows_before S c a + length (only (enters_before x) (only (enters_from a) (own c S)))
  split_own x l =
      let Z = own c S in
      ap (λ (k : List Passage). length (only (enters_before x) k)) (sym (split_at a (ordered_only (λ (v : Passage). eqb v.component c) s.order)))
      ∙ ap length (only_append (enters_before x) (only (enters_before a) Z) (only (enters_from a) Z))
      ∙ length-append (only (enters_before x) (only (enters_before a) Z)) (only (enters_before x) (only (enters_from a) Z))
      ∙ ap (λ (k : List Passage). length k + length (only (enters_before x) (only (enters_from a) Z))) (only_swap (enters_before x) (enters_before a) Z ∙ only_under (enters_before a) (enters_before x) (λ v e. lt-ltb v.entry.tick x (omega (arith, ltb-true v.entry.tick a e))) Z)

  -- a period later
  own_step : (x : ℕ) → a ≤ x → x + P ≤ H → rows_before S c (x + P) + rows_before S c a ≡ rows_before S c x + rows_before S c (a + P)
  own_step x l h =
      let Z = own c S in
      let F = only (enters_before (a + P)) Z in
      let R = only (enters_from a) Z in
      let M = only (enters_before H) (map (later P) R) in
      let g = message_in T H (W T H S s a P longer r c) in
      let one : rows_before S c (x + P) ≡ length (only (enters_before (x + P)) (F ++ M)) =
      ap (λ (k : List Passage). length (only (enters_before (x + P)) k)) (sym (mine_is T H S s a P longer r c))
      ∙ ap length (only_map (put g) (enters_before (x + P)) (F ++ M))
      ∙ length-map (only (enters_before (x + P)) (F ++ M)) (put g) in
      let left : length (only (enters_before (x + P)) F) ≡ rows_before S c (a + P) =
      ap length (only_swap (enters_before (x + P)) (enters_before (a + P)) Z
      ∙ only_under (enters_before (a + P)) (enters_before (x + P)) (λ v e. lt-ltb v.entry.tick (x + P) (omega (arith, ltb-true v.entry.tick (a + P) e))) Z) in
      let right : length (only (enters_before (x + P)) M) ≡ length (only (enters_before x) R) =
      ap length (only_under (enters_before (x + P)) (enters_before H) (λ v e. lt-ltb v.entry.tick H (omega (arith, ltb-true v.entry.tick (x + P) e))) (map (later P) R))
      ∙ ap length (only_map (later P) (enters_before (x + P)) R)
      ∙ length-map (only (λ v. enters_before (x + P) (later P v)) R) (later P)
      ∙ ap length (only_same (λ v. enters_before (x + P) (later P v)) (enters_before x) R (λ v. ltb_later P v.entry.tick x)) in
      omega (
        arith,
        one,
        ap length (only_append (enters_before (x + P)) F M),
        length-append (only (enters_before (x + P)) F) (only (enters_before (x + P)) M),
        left,
        right,
        split_own x l,
      )

  -- so many periods later
  pub own-periods : (j : ℕ) → a + P + j * P ≤ H → rows_before S c (a + P + j * P) + j * rows_before S c a ≡ rows_before S c (a + P) + j * rows_before S c (a + P)
  own-periods zero h = omega (arith, ap (rows_before S c) (let z : a + P + 0 * P ≡ a + P = omega arith in z))
  own-periods (suc j) h =
      let e : a + P + suc j * P ≡ a + P + j * P + P = omega arith in
      omega (arith, ap (rows_before S c) e, own_step (a + P + j * P) (omega arith) (omega (arith, e)), own-periods j (omega (arith, e)))

-- ## Ready before the second tick

module _ {l : ℕ} (T : Table) (h : ℕ) {S : List Passage} (short : IsSchedule l T h S) (a P : ℕ) (longer : 0 < P) (r : Recurs T h S a (a + P)) (c : ℕ) (there : c < size T) where
  -- a passage that is entered before it
  pub ready-before : (i : ℕ) → i < rows_before S c (a + P) → (passage_at (own c S) i).ready < a + P
  ready-before i k =
      let Z = own c S in
      let F = only (enters_before (a + P)) Z in
      let z = split_at (a + P) (ordered_only (λ (v : Passage). eqb v.component c) short.order) in
      let at : passage_at Z i ≡ passage_at F i = sym (ap (λ (vs : List Passage). passage_at vs i) z) ∙ at_first F (only (enters_from (a + P)) Z) i k in
      let m = (only_is (enters_before (a + P)) Z).0 (in_at no_passage F i k) in
      let q = (own_in c S m.0).0 in
      let e = left_ends l T h S short (a + P) (joint_b l T h S short a P r.below longer (again_of T h S a P r)) (passage_at F i) q (ltb-true (passage_at F i).entry.tick (a + P) m.1) in
      omega (arith, e, is_wide l T h S short (passage_at F i) q, ap (λ (v : Passage). v.ready) at)

  fewer : rows_before S c a < rows_before S c (a + P)
  fewer = own_period T h S short a P longer (again_of T h S a P r) c there

  -- more turns are more
  turn_bound : (u w q j row : ℕ) → u < w → (0 < q → u ≤ row) → row + q * (w - u) < w + j * (w - u) → q ≤ j
  turn_bound u w zero j row f g k = omega arith
  turn_bound u w (suc q) zero row f g k = absurd (omega (arith, g (omega arith)))
  turn_bound u w (suc q) (suc j) row f g k = let i = turn_bound u w q j row f (λ x. g (omega arith)) (omega arith) in omega arith

  more_periods : (q j p : ℕ) → q ≤ j → q * p ≤ j * p
  more_periods zero j p i = omega arith
  more_periods (suc q) zero p i = absurd (omega arith)
  more_periods (suc q) (suc j) p i = omega (arith, more_periods q j p (omega arith))

  -- The schedule to that tick so many periods later, where it is at least the table's own: its passages of the component, and that all are ready before.
  module _ {m : ℕ} (j : ℕ) {L : List Passage} (long : IsSchedule m T (a + P + j * P) L) (less : h ≤ a + P + j * P) where
    number : length (own c L) + j * rows_before S c a ≡ rows_before S c (a + P) + j * rows_before S c (a + P)
    number =
        let least : 0 < h = omega (arith, r.below) in
        let r' = recurs_up T h (a + P + j * P) short long less least a (a + P) r in
        let x = same_rows T h (a + P + j * P) short long less least c a (omega (arith, r.below)) in
        let y = same_rows T h (a + P + j * P) short long less least c (a + P) (omega (arith, r.below)) in
        let all : rows_before L c (a + P + j * P) ≡ length (own c L) = Rattle.recurrence.proofs.Every.all_left (enters_before (a + P + j * P)) (own_all L long) in
        omega (arith, all, own-periods T (a + P + j * P) L long a P longer r' c j (omega arith), x, y, ap (λ (n : ℕ). j * n) x, ap (λ (n : ℕ). j * n) y)
      where
        own_all : (L : List Passage) → IsSchedule m T (a + P + j * P) L → All (λ v. ltb v.entry.tick (a + P + j * P) ≡ true) (own c L)
        own_all L s =
            Rattle.model.proofs.Schedule.Own.in_all (own c L)
            (λ v i. lt-ltb v.entry.tick (a + P + j * P) (elim (Rattle.model.proofs.Schedule.Own.all_in (Rattle.model.proofs.Schedule.Passages.entered s) (own_in c L i).0).tick [ inl z ↦ omega arith | inr z ↦ z ]))

    pub later_own : length (own c L) ≡ rows_before S c (a + P) + j * (rows_before S c (a + P) - rows_before S c a)
    later_own = let f = fewer in omega (arith, number, times (rows_before S c (a + P)) (rows_before S c a) j (omega arith))
      where
        times : (w u j : ℕ) → u ≤ w → j * (w - u) + j * u ≡ j * w
        times w u zero k = omega arith
        times w u (suc j) k = omega (arith, times w u j k)

    pub later_ready : All (λ v. v.ready < a + P + j * P) (own c L)
    later_ready = at_all no_passage (own c L) one
      where
        one : (i : ℕ) → i < length (own c L) → (passage_at (own c L) i).ready < a + P + j * P
        one i k =
            let least : 0 < h = omega (arith, r.below) in
            let u = rows_before S c a in
            let w = rows_before S c (a + P) in
            let row = place_row u w i in
            let q = place_turns u w i in
            let is = place_is u w i fewer in
            let low = place_low u w i fewer in
            let high = place_high u w i fewer in
            let e = by_place T h (a + P + j * P) short long less least c a P longer r q row low high (omega (arith, is)) in
            let b = turn_bound u w q j row fewer high (omega (arith, is, later_own)) in
            omega (arith, e, ap (λ (n : ℕ). (passage_at (own c L) n).ready) is, ready-before row low, more_periods q j P b)

  -- the same for that tick itself
  module _ {m : ℕ} {L : List Passage} (first : IsSchedule m T (a + P) L) where
    pub first_own : length (own c L) ≡ rows_before S c (a + P)
    first_own =
        let x = same_rows T (a + P) h first short (omega (arith, r.below)) (omega arith) c (a + P) (omega arith) in
        omega (arith, x, Rattle.recurrence.proofs.Every.all_left (enters_before (a + P)) (own_all L first))
      where
        own_all : (L : List Passage) → IsSchedule m T (a + P) L → All (λ v. ltb v.entry.tick (a + P) ≡ true) (own c L)
        own_all L s =
            Rattle.model.proofs.Schedule.Own.in_all (own c L)
            (λ v i. lt-ltb v.entry.tick (a + P) (elim (Rattle.model.proofs.Schedule.Own.all_in (Rattle.model.proofs.Schedule.Passages.entered s) (own_in c L i).0).tick [ inl z ↦ omega arith | inr z ↦ z ]))

    pub first-ready : All (λ v. v.ready < a + P) (own c L)
    first-ready =
        at_all no_passage (own c L)
        (λ i k. omega (arith, (same_start T (a + P) h first short (omega (arith, r.below)) (omega arith) c i k).1, ready-before i (omega (arith, first_own))))
