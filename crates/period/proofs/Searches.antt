-- The three walks, turn by turn; and the pair from what they find. Assumes nothing.
use mathlib.Core.Path.{◌≡◌, refl, sym, ap, ap₂, subst, ◌∙◌}
use mathlib.Core.Bool.{Bool, true, false}
use mathlib.Core.Logic.{by_cases}
use mathlib.Core.List.{List}
use mathlib.Core.Option.{none, some}
use Rattle.std.specs.Prelude.{Option, Some, None}
use Prim.Native.Nat.{ℕ, ◌+◌, ◌-◌, ◌≤◌, ◌<◌}
use native.Mathlib.Omega.{arith}
use native.Mathlib.Decide.{ℕ_discrete}
use borrow.Author.Tests.{ltb-true, ltb-false}
use lib.Dec.{ltb}
use Rattle.model.specs.Table.{size}
use Rattle.model.specs.Places.{read_of}
use Rattle.model.specs.Checks.{limit}
use Rattle.rows.specs.Rows.{num}
use Rattle.schedule.specs.Filled.{AcceptedRows}
use Rattle.recurrence.specs.declared.Pair.{Pair}
use Rattle.recurrence.specs.Recurrence.{recurrence}
use Rattle.recurrence.proofs.Joint.{tick_at, JointRow, RowsAlike, none_by_rows, pair_by_rows}
use Rattle.period.specs.Walking.{schedule_in, Joins, Stops}
use Rattle.period.specs.Searching.{LastBefore, LastJoint, There, Like, LastThere, LastLike, Apart, FirstLike, PairIs}
use Rattle.period.proofs.Walks.{law}
use Rattle.period.proofs.Likeness.{room, by_size, by_count, tick-at, rows_rise, same_places}

-- before, there, or after
three : {A : Type 0} (i j : ℕ) → (i < j → A) → (i ≡ j → A) → (j < i → A) → A
three {A} i j f g h = by_cases (ℕ_discrete i j) g (λ n. go (ltb i j) refl n)
  where
    go : (t : Bool) → ltb i j ≡ t → (i ≡ j → ⊥) → A
    go true e n = f (ltb-true i j e)
    go false e n = h (omega (arith, ltb-false i j e))

-- the next one does not lie beyond one that is there
pub not_beyond : (l : List ℕ) (n k h g z : ℕ) → Stops l n k (h + 1) g → h < z → Joins l n k z → g ≤ z
not_beyond l n k h g z s lt j = three g z (λ x. omega arith) (λ x. omega arith) (λ x. absurd (s.before z (omega arith) x j))

-- ## The last one like z

pub none_before : (P : ℕ → Type 0) (h : ℕ) → h ≡ 0 → LastBefore P h None
none_before P h e = λ j b p. omega (arith, e)

-- a walk from joint row to joint row: on from row h, P being true of joint rows alone
module _ (l : List ℕ) (n k : ℕ) (P : ℕ → Type 0) (joint : (j : ℕ) → P j → Joins l n k j) (h g : ℕ) (s : Stops l n k (h + 1) g) where
  pub last_kept : (P h → ⊥) → (y : Option ℕ) → LastBefore P h y → LastBefore P g y
  last_kept differs None o = λ j b p. three j h (λ x. o j x p) (λ x. differs (subst P x p)) (λ x. s.before j (omega arith) b (joint j p))
  last_kept differs (Some y) o = (
    omega (arith, o.0, s.from),
    o.1,
    λ j a b p. three j h (λ x. o.2 j a x p) (λ x. differs (subst P x p)) (λ x. s.before j (omega arith) b (joint j p)),
  )

  pub last_found : P h → LastBefore P g (Some h)
  last_found p = (omega (arith, s.from), p, λ j a b q. s.before j (omega arith) b (joint j q))

-- the last one at the locations of z
module _ (bs l : List ℕ) (n : ℕ) (laid : AcceptedRows bs l n) (k : ℕ) (all : k ≡ size (read_of bs).table) (least : 1 ≤ k) (z : ℕ) (zj : Joins l n k z) where
  same_there : (j : ℕ) → Like bs l n k z j → There l n k z j
  same_there j p = (p.0, same_places bs l n laid k all least j z p.0 zj p.1)

  -- there is none
  pub none_like : LastThere l n k z None → LastLike bs l n k z None
  none_like near = λ j b p. near j b (same_there j p)

  -- it is in the states of z
  pub near_like : (y : ℕ) → LastThere l n k z (Some y) → RowsAlike (schedule_in bs) k y z → LastLike bs l n k z (Some y)
  near_like y near q = (near.0, (near.1.0, q), λ j a b p. near.2 j a b (same_there j p))

-- ## The first one that is there again

-- no row before e has its states again at the distance, and those before f are nearer to e
pub record Tried (bs l : List ℕ) (n k distance e f : ℕ) : Type 0 where
  pub never : (i j : ℕ) → i < e → Apart bs l n k distance i j → ⊥
  pub near : (j : ℕ) → j < f → Joins l n k j → num l j 3 < num l e 3 + distance

module _ (bs l : List ℕ) (n : ℕ) (laid : AcceptedRows bs l n) (k : ℕ) (all : k ≡ size (read_of bs).table) (least : 1 ≤ k) (distance : ℕ) where
  pub tried_start : (e f : ℕ) → e ≡ 0 → f ≡ 0 → Tried bs l n k distance e f
  tried_start e f x y = record { never = λ i j h a. omega (arith, x); near = λ j h p. absurd (omega (arith, y)) }

  -- the late one goes on
  pub tried_late : (e f g : ℕ) → Stops l n k (f + 1) g → num l f 3 < num l e 3 + distance → Tried bs l n k distance e f → Tried bs l n k distance e g
  tried_late e f g s near t =
      record {
        never = t.never;
        near = λ j h p. three j f (λ x. t.near j x p) (λ x. subst (λ (m : ℕ). num l m 3 < num l e 3 + distance) (sym x) near) (λ x. absurd (s.before j (omega arith) h p));
      }

  -- the early one stands before the late one
  pub is_early : (e f : ℕ) → e ≤ f → 0 < distance → num l e 3 + distance ≤ num l f 3 → e < f
  is_early e f h d far = three e f (λ x. x) (λ x. absurd (omega (arith, ap (λ (m : ℕ). num l m 3) x))) (λ x. absurd (omega arith))

  -- the early one goes on
  pub tried_early : (e f g : ℕ) → Stops l n k (e + 1) g → g ≤ f → f < n → Joins l n k f → num l e 3 + distance ≤ num l f 3
      → ((num l f 3 ≡ num l e 3 + distance) × RowsAlike (schedule_in bs) k e f → ⊥) → Tried bs l n k distance e f → Tried bs l n k distance g f
  tried_early e f g s lt there q far differs t =
      record {
        never = λ i j h a. three i e
            (λ x. t.never i j x a)
            (λ x. here j (subst (λ (m : ℕ). Apart bs l n k distance m j) x a))
            (λ x. s.before i (omega arith) h a.early);
        near = λ j h p. omega (arith, t.near j h p, laid.placed.order e g (omega (arith, s.from)) (omega arith));
      }
    where
      here : (j : ℕ) → Apart bs l n k distance e j → ⊥
      here j a = three j f
          (λ x. omega (arith, t.near j x a.late, a.distant))
          (λ x. differs (sym (ap (λ (m : ℕ). num l m 3) x) ∙ a.distant, subst (λ (m : ℕ). RowsAlike (schedule_in bs) k e m) x a.alike))
          (λ x. omega (arith, rows_rise bs l n laid k all least f j x q a.late, a.distant))

  -- somewhere there is one
  pub tried_all : (e f y z : ℕ) → n ≤ f → Apart bs l n k distance y z → Tried bs l n k distance e f → ⊥
  tried_all e f y z le a t = three y e
      (λ x. t.never y z x a)
      (λ x. reached (omega arith))
      (λ x. reached (omega arith))
    where
      reached : e ≤ y → ⊥
      reached h =
          omega (
            arith,
            t.near z (omega (arith, room bs l n laid k all least z a.late)) a.late,
            a.distant,
            laid.placed.order e y h (omega (arith, room bs l n laid k all least y a.early)),
          )

-- ## The pair

abbrev ticks : ℕ → ℕ → Option Pair
ticks a b = Some (record { from = a; to = b })

module _ (bs l : List ℕ) (n : ℕ) (laid : AcceptedRows bs l n) (k : ℕ) (all : k ≡ size (read_of bs).table) (least : 1 ≤ k) (long : 1 ≤ (read_of bs).horizon) (z : ℕ)
    (last : LastJoint l n k z) where
  same_states : (i j : ℕ) → RowsAlike (schedule_in bs) (size (read_of bs).table) i j → RowsAlike (schedule_in bs) k i j
  same_states i j = subst (λ (m : ℕ). RowsAlike (schedule_in bs) m i j) (sym all)

  all_states : (i j : ℕ) → RowsAlike (schedule_in bs) k i j → RowsAlike (schedule_in bs) (size (read_of bs).table) i j
  all_states i j = subst (λ (m : ℕ). RowsAlike (schedule_in bs) m i j) all

  joint_tick : (i : ℕ) → Joins l n k i → num l i 3 ≡ tick_at (schedule_in bs) i
  joint_tick i p = tick-at bs l n laid k all least i p

  joint_row : (i : ℕ) → Joins l n k i → JointRow (schedule_in bs) (size (read_of bs).table) i
  joint_row i p = by_size bs l n laid k all least i p

  none_later : (j : ℕ) → z < j → JointRow (schedule_in bs) (size (read_of bs).table) j → ⊥
  none_later j h q = last.after j h (by_count bs l n laid k all least j q)

  -- no row before is like the last: there is no pair
  pub no_pair : LastLike bs l n k z None → PairIs (recurrence (read_of bs).table (read_of bs).horizon (schedule_in bs)) None
  no_pair like =
      let o : recurrence (read_of bs).table (read_of bs).horizon (schedule_in bs) ≡ none =
      none_by_rows limit (read_of bs).table (read_of bs).horizon (schedule_in bs) (law bs l n laid) (omega (arith, all)) long z (by_size bs l n laid k all least z last.joins) none_later
      (λ j h p q. like j h (by_count bs l n laid k all least j p, same_states j z q)) in
      subst (λ o. PairIs o None) (sym o) refl

  module _ (y : ℕ) (like : LastLike bs l n k z (Some y)) where
    -- y and z are that far apart
    pub distant : (distance : ℕ) → distance ≡ num l z 3 - num l y 3 → (0 < distance) × Apart bs l n k distance y z
    distant d e =
        let m = like.1 in
        let rise = rows_rise bs l n laid k all least y z like.0 m.0 last.joins in
        (omega (arith, e), record { early = m.0; late = last.joins; distant = omega (arith, e); alike = m.1 })

    -- the first one that is there again at that distance
    pub one-pair : (distance : ℕ) → distance ≡ num l z 3 - num l y 3 → (r : Option Pair) → FirstLike bs l n k distance r → PairIs (recurrence (read_of bs).table (read_of bs).horizon (schedule_in bs)) r
    one-pair d e r f =
        let m = like.1 in
        let D : d ≡ tick_at (schedule_in bs) z - tick_at (schedule_in bs) y = e ∙ ap₂ (λ (u v : ℕ). u - v) (joint_tick z last.joins) (joint_tick y m.0) in
        let a = f.apart in
        let o : recurrence (read_of bs).table (read_of bs).horizon (schedule_in bs) ≡ some (record { from = tick_at (schedule_in bs) f.i; to = tick_at (schedule_in bs) f.i + (tick_at (schedule_in bs) z - tick_at (schedule_in bs) y) }) =
        pair_by_rows limit (read_of bs).table (read_of bs).horizon (schedule_in bs) (law bs l n laid) (omega (arith, all)) long z (joint_row z last.joins) none_later
        y f.i f.j like.0 (joint_row y m.0) (all_states y z m.1)
        (λ j g h p q. like.2 j g h (by_count bs l n laid k all least j p, same_states j z q))
        (joint_row f.i a.early) (joint_row f.j a.late)
        (sym (joint_tick f.j a.late) ∙ a.distant ∙ ap₂ (λ (u v : ℕ). u + v) (joint_tick f.i a.early) D)
        (all_states f.i f.j a.alike)
        (λ i j h p q t u. (
        let pi = by_count bs l n laid k all least i p in
        let qj = by_count bs l n laid k all least j q in
        f.first i j h (record { early = pi; late = qj; distant = joint_tick j qj ∙ t ∙ sym (ap₂ (λ (u v : ℕ). u + v) (joint_tick i pi) D); alike = same_states i j u })
        )) in
        subst (λ o. PairIs o r) (sym o) (f.told ∙ ap₂ ticks (joint_tick f.i a.early) (ap₂ (λ (u v : ℕ). u + v) (joint_tick f.i a.early) D))
