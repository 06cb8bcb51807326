-- The search by numbers of passages: those at which all components enter follow each other as their ticks do. Assumes nothing.
use mathlib.Core.Path.{◌≡◌, refl, sym, ap, ap₂, subst, subst₂, ◌∙◌}
use mathlib.Core.Bool.{Bool, true, false}
use mathlib.Core.Logic.{◌⊎◌, inl, inr}
use mathlib.Core.List.{List}
use mathlib.Core.Option.{none, some}
use Prim.Native.Nat.{ℕ, zero, suc, ◌+◌, ◌-◌, ◌≤◌, ◌<◌}
use native.Mathlib.Omega.{arith}
use borrow.Author.Tests.{ltb-true, ltb-false}
use lib.Dec.{ltb}
use lib.ListN.{length}
use Rattle.model.specs.Lists.{◌∈◌, here, only}
use Rattle.model.specs.Table.{Table, size, component_of}
use Rattle.model.specs.Window.{Entry}
use Rattle.model.specs.Schedule.{Passage}
use Rattle.model.specs.Checks.{no_passage, passage_at}
use Rattle.model.specs.Chains.{Before, IsSchedule}
use Rattle.model.proofs.Basics.Members.{in_at}
use Rattle.model.proofs.Schedule.Own.{all_in, in_all}
use Rattle.model.proofs.Schedule.Replayed.{ahead_start}
use Rattle.model.proofs.Schedule.Passages.{Entered, entered, ordered_at, never_falls}
use Rattle.recurrence.specs.Recurrence.{timeless, EntersAt, recurrence}
use Rattle.recurrence.proofs.Seam.{enters_before, none_left}
use Rattle.recurrence.proofs.Orbit.{one_state}
use Rattle.recurrence.proofs.Search.{Alike, JointTick, none_found, pair_found}
use Rattle.recurrence.proofs.Upcoming.{RowsJoin, enters_row, rows_join}

-- the tick at which passage i is entered
abbrev pub tick_at : List Passage → ℕ → ℕ
tick_at S i = (passage_at S i).entry.tick

-- from number i on stand all of so many components, in their order, entered at one tick
abbrev pub JointRow : List Passage → ℕ → ℕ → Type 0
JointRow S count i = RowsJoin S count i (tick_at S i)

-- the components that stand from i and from j on are in the same states
abbrev pub RowsAlike : List Passage → ℕ → ℕ → ℕ → Type 0
RowsAlike S count i j = (c : ℕ) → c < count → timeless (passage_at S (i + c)).entry ≡ timeless (passage_at S (j + c)).entry

module _ (limit : ℕ) (T : Table) (H : ℕ) (S : List Passage) (s : IsSchedule limit T H S) (most : 1 ≤ size T) where
  -- the first of them
  first_row : (i x : ℕ) → RowsJoin S (size T) i x → (i < length S) × ((passage_at S i).component ≡ 0) × (tick_at S i ≡ x)
  first_row i x j =
      let r = j 0 (omega arith) in
      let z : i + 0 ≡ i = omega arith in
      (omega (arith, r.0), subst (λ (k : ℕ). (passage_at S k).component ≡ 0) z r.1, subst (λ (k : ℕ). tick_at S k ≡ x) z r.2)

  -- a later one stands at a later tick
  pub joint_rise : (i j : ℕ) → i < j → JointRow S (size T) i → JointRow S (size T) j → tick_at S i < tick_at S j
  joint_rise i j h p q =
      let f = first_row i (tick_at S i) p in
      let g = first_row j (tick_at S j) q in
      go (ordered_at s.order i j h g.0) f.1 g.1
    where
      go : Before (passage_at S i) (passage_at S j) → (passage_at S i).component ≡ 0 → (passage_at S j).component ≡ 0 → tick_at S i < tick_at S j
      go (inl l) a b = l
      go (inr l) a b = absurd (omega (arith, l.1))

  -- and at a later tick stands a later one
  pub joint_later : (i j : ℕ) → i < length S → tick_at S i < tick_at S j → i < j
  joint_later i j h l = go (ltb i j) refl
    where
      go : (t : Bool) → ltb i j ≡ t → i < j
      go true e = ltb-true i j e
      go false e = absurd (omega (arith, never_falls s j i (ltb-false i j e) h))

  -- all enter there
  tick-of : (i : ℕ) → JointRow S (size T) i → JointTick limit T H S s (tick_at S i)
  tick-of i j c h = (timeless (passage_at S (i + c)).entry, enters_row S (size T) i (tick_at S i) j c h)

  -- and where all enter they stand
  row_of : (x : ℕ) → JointTick limit T H S s x → (i : ℕ) × JointRow S (size T) i × (tick_at S i ≡ x)
  row_of x j =
      let i = length (only (enters_before x) S) in
      let r = rows_join limit T H S s x j in
      let t = (first_row i x r).2 in
      (i, subst (RowsJoin S (size T) i) (sym t) r, t)

  -- at tick 0 all enter: they stand at the front
  pub joint_start : JointRow S (size T) 0
  joint_start =
      let r = rows_join limit T H S s 0 enter in
      let e : length (only (enters_before 0) S) ≡ 0 = ap (λ (l : List Passage). length l) (none_left 0 (in_all S (λ v m. omega arith))).0 in
      let q : RowsJoin S (size T) 0 0 = subst (λ (k : ℕ). RowsJoin S (size T) k 0) e r in
      subst (RowsJoin S (size T) 0) (sym (first_row 0 0 q).2) q
    where
      enter : (c : ℕ) → c < size T → (at : Entry) × EntersAt S c 0 at
      enter c h =
          let a = ahead_start s c h in (
            timeless a.head.entry,
            record { passage = a.head; listed = subst (λ (l : List Passage). a.head ∈ l) (sym a.is) (here refl); tick = ap (λ (e : Entry). e.tick) a.entry; state = refl },
          )

  -- the same states by numbers, and by ticks
  module _ (i j : ℕ) (p : JointRow S (size T) i) (q : JointRow S (size T) j) where
    by_ticks : RowsAlike S (size T) i j → Alike limit T H S s (tick_at S i) (tick_at S j)
    by_ticks k c h = (
      timeless (passage_at S (i + c)).entry,
      enters_row S (size T) i (tick_at S i) p c h,
      subst (EntersAt S c (tick_at S j)) (sym (k c h)) (enters_row S (size T) j (tick_at S j) q c h),
    )

    by_numbers : Alike limit T H S s (tick_at S i) (tick_at S j) → RowsAlike S (size T) i j
    by_numbers k c h =
        let r = k c h in
        one_state limit T H S s c (tick_at S i) h (timeless (passage_at S (i + c)).entry) r.0 (enters_row S (size T) i (tick_at S i) p c h) r.1
        ∙ sym (one_state limit T H S s c (tick_at S j) h (timeless (passage_at S (j + c)).entry) r.0 (enters_row S (size T) j (tick_at S j) q c h) r.2)

  joint_first : (x y : ℕ) → Alike limit T H S s x y → JointTick limit T H S s x
  joint_first x y k c h = let r = k c h in (r.0, r.1)

  joint_second : (x y : ℕ) → Alike limit T H S s x y → JointTick limit T H S s y
  joint_second x y k c h = let r = k c h in (r.0, r.2)

  below_horizon : 1 ≤ H → (i : ℕ) → JointRow S (size T) i → tick_at S i < H
  below_horizon l i j =
      let m : passage_at S i ∈ S = in_at no_passage S i (first_row i (tick_at S i) j).0 in
      go (all_in (entered s) m).tick
    where
      go : (tick_at S i ≡ 0) ⊎ (tick_at S i < H) → tick_at S i < H
      go (inl e) = omega arith
      go (inr h) = h

  -- ## The search

  -- z is the last number at which all enter
  module _ (long : 1 ≤ H) (z : ℕ) (last : JointRow S (size T) z) (none_later : (j : ℕ) → z < j → JointRow S (size T) j → ⊥) where
    none_after : (x : ℕ) → tick_at S z < x → x < H → JointTick limit T H S s x → ⊥
    none_after x l h j =
        let r = row_of x j in
        none_later r.0 (joint_later z r.0 (first_row z (tick_at S z) last).0 (omega (arith, r.2))) r.1

    -- a tick with the state of z, by its number
    like_row : (y : ℕ) → y < tick_at S z → Alike limit T H S s y (tick_at S z) → (i : ℕ) × JointRow S (size T) i × (tick_at S i ≡ y) × (i < z) × RowsAlike S (size T) i z
    like_row y l k =
        let r = row_of y (joint_first y (tick_at S z) k) in (
          r.0,
          r.1,
          r.2,
          joint_later r.0 z (first_row r.0 (tick_at S r.0) r.1).0 (omega (arith, r.2)),
          by_numbers r.0 z r.1 last (subst (λ (x : ℕ). Alike limit T H S s x (tick_at S z)) (sym r.2) k),
        )

    -- its state was not there before: there is no pair
    pub none_by_rows : ((y : ℕ) → y < z → JointRow S (size T) y → RowsAlike S (size T) y z → ⊥) → recurrence T H S ≡ none
    none_by_rows n =
        none_found limit T H S s (tick_at S z) (below_horizon long z last) (tick-of z last) none_after
        (λ y l k. (let r = like_row y l k in n r.0 r.3 r.1 r.4))

    -- y is the last before with its state, p the first with that of a q as far after it
    pub pair_by_rows : (y p q : ℕ) → y < z → JointRow S (size T) y → RowsAlike S (size T) y z
        → ((j : ℕ) → y < j → j < z → JointRow S (size T) j → RowsAlike S (size T) j z → ⊥)
        → JointRow S (size T) p → JointRow S (size T) q → tick_at S q ≡ tick_at S p + (tick_at S z - tick_at S y) → RowsAlike S (size T) p q
        → ((i j : ℕ) → i < p → JointRow S (size T) i → JointRow S (size T) j → tick_at S j ≡ tick_at S i + (tick_at S z - tick_at S y) → RowsAlike S (size T) i j → ⊥)
        → recurrence T H S ≡ some (record { from = tick_at S p; to = tick_at S p + (tick_at S z - tick_at S y) })
    pair_by_rows y p q l j k n a b d e m =
        let D = tick_at S z - tick_at S y in
        pair_found limit T H S s (tick_at S z) (below_horizon long z last) (tick-of z last) none_after (tick_at S y) (tick_at S p)
        (joint_rise y z l j last)
        (by_ticks y z j last k)
        (λ x u v w. (let r = like_row x v w in n r.0 (joint_later y r.0 (first_row y (tick_at S y) j).0 (omega (arith, r.2))) r.3 r.1 r.4))
        (omega (arith, d, below_horizon long q b))
        (subst (Alike limit T H S s (tick_at S p)) d (by_ticks p q a b e))
        (λ x u v w. (
        let r = row_of x (joint_first x (x + D) w) in
        let o = row_of (x + D) (joint_second x (x + D) w) in
        m r.0 o.0 (joint_later r.0 p (first_row r.0 (tick_at S r.0) r.1).0 (omega (arith, r.2))) r.1 o.1 (omega (arith, o.2, r.2))
        (by_numbers r.0 o.0 r.1 o.1 (subst₂ (Alike limit T H S s) (sym r.2) (sym o.2) w))
        ))
