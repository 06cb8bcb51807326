-- The ready of every passage of a longer schedule, from the rows of the shorter one: the number of a row before b, and how many periods it is
-- moved. Assumes nothing.
use mathlib.Core.Path.{◌≡◌, refl, sym, ap, ◌∙◌}
use mathlib.Core.List.{List, ◌++◌, map}
use Prim.Native.Nat.{ℕ, zero, suc, ◌+◌, ◌-◌, ◌*◌, ◌≤◌, ◌<◌}
use native.Mathlib.Omega.{arith}
use borrow.Author.Tests.{ltb-true, lt-ltb}
use lib.Dec.{ltb, eqb}
use lib.ListN.{length, length-append, length-map}
use Rattle.model.specs.Lists.{only}
use Rattle.model.specs.Table.{Table}
use Rattle.model.specs.Schedule.{Passage, own, message_in}
use Rattle.model.specs.Checks.{passage_at}
use Rattle.model.specs.Chains.{IsSchedule}
use Rattle.model.proofs.Checks.Independence.{only_map}
use Rattle.model.proofs.Schedule.Own.{own_put}
use Rattle.model.proofs.Schedule.Messages.{put}
use Rattle.recurrence.specs.Recurrence.{Recurs}
use Rattle.recurrence.proofs.Seam.{enters_before, enters_from, split_at}
use Rattle.recurrence.proofs.Grow.{only_swap, ordered_only}
use Rattle.recurrence.proofs.Count.{only_under}
use Rattle.recurrence.proofs.Counted.{begins_so, recurs_up}
use Rattle.recurrence.proofs.Index.{at_first, at_map, first_rows, round_rows, comes_again}

module _ {l m : ℕ} (T : Table) (h H : ℕ) {S L : List Passage} (short : IsSchedule l T h S) (long : IsSchedule m T H L) (less : h ≤ H) (least : 0 < h) (c : ℕ) where
  abbrev W : List Passage
  W = only (enters_before h) L

  abbrev Front : List Passage
  Front = only (enters_before h) (own c L)

  own_begins : map (put (message_in T h W)) Front ≡ own c S
  own_begins =
      sym (own_put (message_in T h W) c W ∙ ap (map (put (message_in T h W))) (only_swap (λ (v : Passage). eqb v.component c) (enters_before h) L))
      ∙ ap (own c) (begins_so T h H short long less least)

  pub front_long : length Front ≡ length (own c S)
  front_long = sym (length-map Front (put (message_in T h W))) ∙ ap length own_begins

  -- as far as the shorter one goes they are the same
  pub same_start : (k : ℕ) → k < length (own c S) → (k < length (own c L)) × ((passage_at (own c L) k).ready ≡ (passage_at (own c S) k).ready)
  same_start k i =
      let split = split_at h (ordered_only (λ (v : Passage). eqb v.component c) long.order) in
      let inside : k < length Front = omega (arith, front_long) in (
        omega (arith, ap length split, length-append Front (only (enters_from h) (own c L))),
        sym (ap (λ (vs : List Passage). (passage_at vs k).ready) (sym own_begins) ∙ ap (λ (v : Passage). v.ready) (at_map (put (message_in T h W)) Front k inside)
            ∙ ap (λ (v : Passage). v.ready) (sym (at_first Front (only (enters_from h) (own c L)) k inside) ∙ ap (λ (vs : List Passage). passage_at vs k) split)),
      )

  -- as many of them are entered before a tick
  pub same_rows : (y : ℕ) → y ≤ h → length (only (enters_before y) (own c S)) ≡ length (only (enters_before y) (own c L))
  same_rows y i =
      ap (λ (vs : List Passage). length (only (enters_before y) vs)) (sym own_begins)
      ∙ ap length (only_map (put (message_in T h W)) (enters_before y) Front)
      ∙ length-map (only (enters_before y) Front) (put (message_in T h W))
      ∙ ap length (only_under (enters_before y) (enters_before h) (λ v e. lt-ltb v.entry.tick h (omega (arith, ltb-true v.entry.tick y e))) (own c L))

  module _ (a P : ℕ) (longer : 0 < P) (r : Recurs T h S a (a + P)) where
    -- how many of its passages are entered before a, and before b
    abbrev pub u : ℕ
    u = first_rows T h S short a P longer r c

    abbrev pub w : ℕ
    w = round_rows T h S short a P longer r c

    rows_fit : w ≤ length (own c S)
    rows_fit = Rattle.model.proofs.Run.Count.only_few (enters_before (a + P)) (own c S)

    -- passage i of those before b, q periods later
    pub by_place : (q i : ℕ) → i < w → (0 < q → u ≤ i) → i + q * (w - u) < length (own c L) → (passage_at (own c L) (i + q * (w - u))).ready ≡ (passage_at (own c S) i).ready + q * P
    by_place zero i f g k =
        let e : i + 0 * (w - u) ≡ i = omega arith in
        ap (λ (n : ℕ). (passage_at (own c L) n).ready) e ∙ (same_start i (omega (arith, rows_fit))).1 ∙ (let z : (passage_at (own c S) i).ready ≡ (passage_at (own c S) i).ready + 0 * P = omega arith in z)
    by_place (suc q) i f g k =
        let r' = recurs_up T h H short long less least a (a + P) r in
        let eu : u ≡ first_rows T H L long a P longer r' c = same_rows a (omega (arith, r.below)) in
        let ew : w ≡ round_rows T H L long a P longer r' c = same_rows (a + P) (omega (arith, r.below)) in
        let up = g (omega arith) in
        let j = i - u + q * (w - u) in
        let e : i + suc q * (w - u) ≡ round_rows T H L long a P longer r' c + j = omega (arith, ew) in
        let d : first_rows T H L long a P longer r' c + j ≡ i + q * (w - u) = omega (arith, eu) in
        let again = comes_again T H L long a P longer r' c j (omega (arith, e)) in
        let ih = by_place q i f (λ x. up) (omega (arith, d, again.0)) in
        omega (arith, ap (λ (n : ℕ). (passage_at (own c L) n).ready) e, again.1, ap (λ (n : ℕ). (passage_at (own c L) n).ready) d, ih)
