-- The passages to a horizon, counted along the rows. Assumes nothing.
use mathlib.Core.Path.{◌≡◌, refl, sym, ap, ap₂, subst, ◌∙◌}
use mathlib.Core.Bool.{Bool, cond}
use mathlib.Core.List.{List, [], ◌∷◌}
use mathlib.Core.Option.{Option as Perhaps, none, some}
use Rattle.std.specs.Prelude.{Some}
use Rattle.std.proofs.lemmas.Option.{none-some, same_Some}
use Prim.Native.Nat.{ℕ, zero, suc, ◌+◌, ◌-◌, ◌*◌, ◌/◌, ◌%◌, ◌≤◌, ◌<◌}
use native.Mathlib.Omega.{arith}
use native.Mathlib.Nat.{mod-lt, div-add-mod', div-le_self, mul-le-mul, le_trans}
use borrow.Author.Tests.{ltb-true, lt-ltb, le-ltb}
use lib.ListN.{length}
use Rattle.model.specs.Lists.{only, accepted}
use Rattle.model.specs.Table.{size}
use Rattle.model.specs.Places.{read_of}
use Rattle.model.specs.Schedule.{Passage}
use Rattle.model.specs.Checks.{limit, passage_at}
use Rattle.model.specs.Chains.{IsSchedule}
use Rattle.model.proofs.Run.Tied.{schedule_at}
use Rattle.model.proofs.Run.Count.{only_few}
use Rattle.rows.specs.Rows.{num}
use Rattle.schedule.specs.Filled.{AcceptedRows}
use Rattle.recurrence.specs.declared.Pair.{Pair}
use Rattle.recurrence.specs.Recurrence.{Recurs, Recurrence, recurrence, accepted_schedule_to}
use Rattle.recurrence.proofs.Seam.{enters_before}
use Rattle.recurrence.proofs.Found.{found_recurs}
use Rattle.recurrence.proofs.Count.{only_under, entered_before}
use Rattle.recurrence.proofs.Counted.{entered_same, all_before, counted}
use Rattle.period.specs.Walking.{schedule_in}
use Rattle.period.specs.Searching.{PairIs}
use Rattle.period.proofs.Walks.{law, count_is, row_is}

-- so many turns of so many passages
pub turns_few : (D P d : ℕ) → D ≤ 4294967295 → d ≤ 1024 → D / P * d ≤ 4294967295 * 1024
turns_few D P d h k = mul-le-mul {n₁ = D / P} {m₁ = d} {n₂ = 4294967295} {m₂ = 1024} (le_trans (div-le_self D P) h) k

-- ## Along the rows

-- of a list whose first i are entered before x and the others not, i are
front_count : (x : ℕ) (S : List Passage) (i : ℕ) → i ≤ length S → ((j : ℕ) → j < i → (passage_at S j).entry.tick < x) → ((j : ℕ) → i ≤ j → j < length S → x ≤ (passage_at S j).entry.tick)
    → i ≡ entered_before S x
front_count x [] i h f g = omega arith
front_count x (v ∷ S) zero h f g =
    front_count x S 0 (omega arith) (λ j k. absurd (omega arith)) (λ j k l. g (suc j) (omega arith) (omega arith))
    ∙ ap (λ (b : Bool). length (cond b (v ∷ only (enters_before x) S) (only (enters_before x) S))) (sym (le-ltb v.entry.tick x (g 0 (omega arith) (omega arith))))
front_count x (v ∷ S) (suc i) h f g =
    ap suc (front_count x S i (omega arith) (λ j k. f (suc j) (omega arith)) (λ j k l. g (suc j) (omega arith) (omega arith)))
    ∙ ap (λ (b : Bool). length (cond b (v ∷ only (enters_before x) S) (only (enters_before x) S))) (sym (lt-ltb v.entry.tick x (f 0 (omega arith))))

-- there are more before a later tick
pub more_before : (S : List Passage) (x y : ℕ) → x ≤ y → entered_before S x ≤ entered_before S y
more_before S x y h =
    let fewer = only_under (enters_before x) (enters_before y) (λ v e. lt-ltb v.entry.tick y (omega (arith, ltb-true v.entry.tick x e))) S in
    omega (arith, ap length fewer, only_few (enters_before x) (only (enters_before y) S))

module _ (bs l : List ℕ) (n : ℕ) (laid : AcceptedRows bs l n) where
  tick_is : (i : ℕ) → i < n → num l i 3 ≡ (passage_at (schedule_in bs) i).entry.tick
  tick_is i h = ap (λ (v : Passage). v.entry.tick) (row_is bs l n laid i h)

  -- where row i is the first that is not entered before
  pub first-late : (x i : ℕ) → i < n → ((j : ℕ) → j < i → num l j 3 < x) → x ≤ num l i 3 → i ≡ entered_before (schedule_in bs) x
  first-late x i h f g =
      front_count x (schedule_in bs) i (omega (arith, count_is bs l n laid)) (λ j k. omega (arith, f j k, tick_is j (omega arith)))
      (λ j k q. omega (arith, g, laid.placed.order i j k (omega (arith, count_is bs l n laid)), tick_is j (omega (arith, count_is bs l n laid))))

  -- where all are
  pub none_late : (x : ℕ) → ((j : ℕ) → j < n → num l j 3 < x) → n ≡ entered_before (schedule_in bs) x
  none_late x f =
      front_count x (schedule_in bs) n (omega (arith, count_is bs l n laid)) (λ j k. omega (arith, f j k, tick_is j k)) (λ j k q. absurd (omega (arith, count_is bs l n laid)))

  -- ## The pair

  pub pair_recurs : (pair : Pair) → PairIs (recurrence (read_of bs).table (read_of bs).horizon (schedule_in bs)) (Some pair)
      → Recurs (read_of bs).table (read_of bs).horizon (schedule_in bs) pair.from pair.to
  pair_recurs pair is = go (recurrence (read_of bs).table (read_of bs).horizon (schedule_in bs)) refl is
    where
      go : (o : Perhaps Recurrence) → recurrence (read_of bs).table (read_of bs).horizon (schedule_in bs) ≡ o → PairIs o (Some pair)
          → Recurs (read_of bs).table (read_of bs).horizon (schedule_in bs) pair.from pair.to
      go none q p = absurd (none-some pair (sym p))
      go (some x) q p =
          let e = same_Some pair (record { from = x.from; to = x.to }) p in
          rw (ap (λ (r : Pair). r.from) e, ap (λ (r : Pair). r.to) e) (found_recurs limit (read_of bs).table (read_of bs).horizon (schedule_in bs) (law bs l n laid) x q).recurs

  -- ## To a horizon

  module _ (H : ℕ) (least : 1 ≤ H) (L : List Passage) (plan : accepted_schedule_to (read_of bs).table H ≡ accepted L) where
    long : IsSchedule (size (read_of bs).table * H) (read_of bs).table H L
    unfolding accepted_schedule_to
    long = (schedule_at 0 (read_of bs).table H (size (read_of bs).table * H) L plan).0

    -- up to the table's own
    pub count_below : H ≤ (read_of bs).horizon → (r : ℕ) → r ≡ entered_before (schedule_in bs) H → r ≡ length L
    count_below h r e =
        e ∙ sym (entered_same (read_of bs).table H (read_of bs).horizon long (law bs l n laid) h (omega arith) H (omega arith)) ∙ all_before (read_of bs).table H L (omega arith) long

    -- beyond it, by division
    pub count_beyond : (read_of bs).horizon < H → (pair : Pair) → PairIs (recurrence (read_of bs).table (read_of bs).horizon (schedule_in bs)) (Some pair)
        → (first second once : ℕ) → first ≡ entered_before (schedule_in bs) pair.from → second ≡ entered_before (schedule_in bs) pair.to
        → once ≡ entered_before (schedule_in bs) (pair.from + (H - pair.from) % (pair.to - pair.from))
        → once + (H - pair.from) / (pair.to - pair.from) * (second - first) ≡ length L
    count_beyond h pair is first second once a b c =
        let S = schedule_in bs in
        let P = pair.to - pair.from in
        let r = pair_recurs pair is in
        let z : pair.to ≡ pair.from + P = omega (arith, r.before) in
        let D = H - pair.from in
        let m = mod-lt D {m = P} (omega (arith, r.before)) in
        let d = div-add-mod' D P in
        let k = counted (read_of bs).table (read_of bs).horizon H (law bs l n laid) long (omega arith) pair.from P (omega (arith, r.before)) (subst (Recurs (read_of bs).table (read_of bs).horizon S pair.from) z r) (D / P) (D % P) m (omega (arith, d, r.below, r.before)) in
        let up = more_before S pair.from pair.to (omega (arith, r.before)) in
        let more : entered_before S (pair.from + P) ≡ entered_before S pair.from + (second - first) = omega (arith, ap (entered_before S) z, a, b, up) in
        sym (times (D / P) (length L) (entered_before S pair.from) once (k ∙ ap₂ (λ (u v : ℕ). u + D / P * v) (sym c) more))
      where
        times : (q x y z : ℕ) → x + q * y ≡ z + q * (y + (second - first)) → x ≡ z + q * (second - first)
        times zero x y z e = omega arith
        times (suc q) x y z e = omega (arith, times q x y (z + (second - first)) (omega arith))
