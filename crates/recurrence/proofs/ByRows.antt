-- A run to a horizon needs the rows of the table's own schedule alone. Assumes nothing.
use mathlib.Core.Path.{◌≡◌, refl, sym, ap, ap₂, subst, ◌∙◌}
use mathlib.Core.Bool.{Bool, true, false, cond}
use mathlib.Core.List.{List, []}
use mathlib.Core.Option.{Option, none, some}
use Prim.Native.Nat.{ℕ, zero, suc, ◌+◌, ◌-◌, ◌*◌, ◌/◌, ◌%◌, ◌≤◌, ◌<◌}
use native.Mathlib.Omega.{arith}
use native.Mathlib.Nat.{mod-lt, div-add-mod'}
use borrow.Author.Tests.{ltb-true, ltb-false, lt-ltb, le-ltb, ne_eqb}
use lib.Dec.{ltb, eqb}
use lib.ListN.{length}
use Rattle.model.specs.Lists.{◌∈◌, only}
use Rattle.model.specs.Table.{Table, Read, size}
use Rattle.model.specs.Schedule.{Passage, own}
use Rattle.model.specs.Checks.{passage_at}
use Rattle.model.specs.Chains.{IsSchedule}
use Rattle.model.specs.Run.{Setting, ready_of_nth, setting_to, overdue, run}
use Rattle.model.proofs.Basics.Members.{only_is, only_none}
use Rattle.model.proofs.Schedule.Own.{all_in}
use Rattle.recurrence.specs.Recurrence.{Recurs}
use Rattle.recurrence.specs.Rows.{rows_before, place_row, place_turns, rows_ready}
use Rattle.recurrence.proofs.Seam.{enters_before}
use Rattle.recurrence.proofs.Every.{again_of}
use Rattle.recurrence.proofs.Index.{ready_at, no_ready}
use Rattle.recurrence.proofs.Place.{by_place}
use Rattle.recurrence.proofs.Beyond.{beyond, own_period}
use Rattle.recurrence.proofs.Agree.{with_ready, run_same}

-- ## The place of a number

module _ (u w k : ℕ) (less : u < w) where
  pub place_low : place_row u w k < w
  place_low = go (ltb k w) refl
    where
      go : (t : Bool) → ltb k w ≡ t → cond t k (u + (k - u) % (w - u)) < w
      go true e = ltb-true k w e
      go false e = let m = mod-lt (k - u) {m = w - u} (omega arith) in omega arith

  pub place_high : 0 < place_turns u w k → u ≤ place_row u w k
  place_high = go (ltb k w)
    where
      go : (t : Bool) → 0 < cond t 0 ((k - u) / (w - u)) → u ≤ cond t k (u + (k - u) % (w - u))
      go true h = absurd (omega arith)
      go false h = omega arith

  pub place_is : place_row u w k + place_turns u w k * (w - u) ≡ k
  place_is = go (ltb k w) refl
    where
      go : (t : Bool) → ltb k w ≡ t → cond t k (u + (k - u) % (w - u)) + cond t 0 ((k - u) / (w - u)) * (w - u) ≡ k
      go true e = omega arith
      go false e =
          let m = div-add-mod' (k - u) (w - u) in
          let h = ltb-false k w e in
          omega arith

-- ## The readies

-- of a list of passages of one component
abbrev ready_in : ℕ → ℕ → ℕ → List Passage → Option ℕ
ready_in a b k Z =
    let u = length (only (enters_before a) Z) in
    let w = length (only (enters_before b) Z) in
    cond (ltb u w) (some ((passage_at Z (place_row u w k)).ready + place_turns u w k * (b - a))) none

none_in : (a b k : ℕ) → ready_in a b k [] ≡ none
none_in a b k = ap (λ (t : Bool). cond t (some ((passage_at [] (place_row 0 0 k)).ready + place_turns 0 0 k * (b - a))) none) (le-ltb 0 0 (omega arith))

module _ {l m : ℕ} (T : Table) (h H : ℕ) {S L : List Passage} (short : IsSchedule l T h S) (long : IsSchedule m T H L) (less : h ≤ H) where
  -- a component that is not there has no passage
  pub absent : {n x : ℕ} {K : List Passage} → IsSchedule n T x K → (c : ℕ) → size T ≤ c → own c K ≡ []
  absent {K = K} s c k = (only_none (λ (v : Passage). eqb v.component c) K).1 (λ v i. ne_eqb v.component c (λ e. omega (arith, all_in s.present i)))

  pub none_ready : (a b c k : ℕ) → size T ≤ c → rows_ready S a b c k ≡ none
  none_ready a b c k x = ap (ready_in a b k) (absent short c x) ∙ none_in a b k

  module _ (a P : ℕ) (longer : 0 < P) (r : Recurs T h S a (a + P)) (g : Setting) where
    there_agrees : (c k now : ℕ) → c < size T → now ≤ H → overdue g (rows_ready S a (a + P) c k) now ≡ overdue g (ready_of_nth (own c L) k) now
    there_agrees c k now i small = go (ltb k (length (own c L))) refl
      where
        least : 0 < h
        least = omega (arith, r.below)

        fewer : rows_before S c a < rows_before S c (a + P)
        fewer = own_period T h S short a P longer (again_of T h S a P r) c i

        R : ℕ
        R = (passage_at (own c S) (place_row (rows_before S c a) (rows_before S c (a + P)) k)).ready + place_turns (rows_before S c a) (rows_before S c (a + P)) k * P

        some_is : rows_ready S a (a + P) c k ≡ some R
        some_is =
            ap (λ (t : Bool). cond t (some ((passage_at (own c S) (place_row (rows_before S c a) (rows_before S c (a + P)) k)).ready + place_turns (rows_before S c a) (rows_before S c (a + P)) k * (a + P - a))) none) (lt-ltb (rows_before S c a) (rows_before S c (a + P)) fewer)
            ∙ ap (λ (p : ℕ). some ((passage_at (own c S) (place_row (rows_before S c a) (rows_before S c (a + P)) k)).ready + place_turns (rows_before S c a) (rows_before S c (a + P)) k * p)) (let z : a + P - a ≡ P = omega arith in z)

        number : place_row (rows_before S c a) (rows_before S c (a + P)) k + place_turns (rows_before S c a) (rows_before S c (a + P)) k * (rows_before S c (a + P) - rows_before S c a) ≡ k
        number = place_is (rows_before S c a) (rows_before S c (a + P)) k fewer

        go : (t : Bool) → ltb k (length (own c L)) ≡ t → overdue g (rows_ready S a (a + P) c k) now ≡ overdue g (ready_of_nth (own c L) k) now
        go true e =
            let x = ltb-true k (length (own c L)) e in
            let y = by_place T h H short long less least c a P longer r (place_turns (rows_before S c a) (rows_before S c (a + P)) k) (place_row (rows_before S c a) (rows_before S c (a + P)) k)
            (place_low (rows_before S c a) (rows_before S c (a + P)) k fewer) (place_high (rows_before S c a) (rows_before S c (a + P)) k fewer) (omega (arith, number)) in
            let z : R ≡ (passage_at (own c L) k).ready = sym y ∙ ap (λ (n : ℕ). (passage_at (own c L) n).ready) number in
            ap (λ (o : Option ℕ). overdue g o now) (some_is ∙ ap (λ (n : ℕ). some n) z ∙ sym (ready_at (own c L) k x))
        go false e =
            let x = ltb-false k (length (own c L)) e in
            let y = beyond T h H short long less least c i a P longer r (place_turns (rows_before S c a) (rows_before S c (a + P)) k) (place_row (rows_before S c a) (rows_before S c (a + P)) k)
            (place_low (rows_before S c a) (rows_before S c (a + P)) k fewer) (place_high (rows_before S c a) (rows_before S c (a + P)) k fewer) (omega (arith, number)) in
            ap (λ (o : Option ℕ). overdue g o now) some_is ∙ le-ltb R now (omega (arith, y)) ∙ sym (ap (λ (o : Option ℕ). overdue g o now) (no_ready (own c L) k x))

    pub agrees : (c k now : ℕ) → now ≤ H → overdue g (rows_ready S a (a + P) c k) now ≡ overdue g (ready_of_nth (own c L) k) now
    agrees c k now small = go (ltb c (size T)) refl
      where
        go : (t : Bool) → ltb c (size T) ≡ t → overdue g (rows_ready S a (a + P) c k) now ≡ overdue g (ready_of_nth (own c L) k) now
        go true e = there_agrees c k now (ltb-true c (size T) e) small
        go false e =
            let x = ltb-false c (size T) e in
            ap (λ (o : Option ℕ). overdue g o now) (ap (ready_in a (a + P) k) (absent short c x) ∙ none_in a (a + P) k ∙ sym (ap (λ (Z : List Passage). ready_of_nth Z k) (absent long c x)))

-- A run to the horizon H of a table with a pair below its own horizon h: with the readies that its rows say, moved, it is the run of the schedule to H.
pub by_rows : {l m : ℕ} (t : Read) (h H : ℕ) {S L : List Passage} → IsSchedule l t.table h S → IsSchedule m t.table H L → h ≤ H → (a b : ℕ) → Recurs t.table h S a b
    → (cs : List ℕ) → run (with_ready (setting_to t H L) (rows_ready S a b)) cs ≡ run (setting_to t H L) cs
by_rows t h H {S} {L} short long less a b r cs =
    let P = b - a in
    let e : b ≡ a + P = omega (arith, r.before) in
    let r' : Recurs t.table h S a (a + P) = subst (Recurs t.table h S a) e r in
    ap (λ (x : ℕ). run (with_ready (setting_to t H L) (rows_ready S a x)) cs) e
    ∙ run_same (setting_to t H L) (rows_ready S a (a + P)) (agrees t.table h H short long less a P (omega (arith, r.before)) r' (setting_to t H L)) (omega (arith, r.below)) cs
