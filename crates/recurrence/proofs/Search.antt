-- The first pair, found from the last tick at which all components enter: the last tick before it with the same state gives the distance, and the
-- first tick with the same state at that distance gives the pair. Assumes nothing.
use mathlib.Core.Path.{◌≡◌, refl, sym, ap, ap₂, subst, ◌∙◌}
use mathlib.Core.Bool.{Bool, true, false}
use mathlib.Core.List.{List}
use mathlib.Core.Option.{Option, none, some}
use Prim.Native.Nat.{ℕ, zero, suc, ◌+◌, ◌-◌, ◌≤◌, ◌<◌}
use native.Mathlib.Omega.{arith}
use borrow.Author.Tests.{ltb-true, ltb-false}
use lib.Dec.{ltb}
use Rattle.model.specs.Table.{Table, size}
use Rattle.model.specs.Window.{Entry}
use Rattle.model.specs.Schedule.{Passage}
use Rattle.model.specs.Chains.{IsSchedule}
use Rattle.recurrence.specs.Recurrence.{EntersAt, Recurs, FirstRecurs, Recurrence, recurrence}
use Rattle.recurrence.proofs.Grow.{Again}
use Rattle.recurrence.proofs.Every.{again_of}
use Rattle.recurrence.proofs.Count.{back}
use Rattle.recurrence.proofs.Found.{none_recurs, found_recurs}
use Rattle.recurrence.proofs.Orbit.{one_state}

module _ (limit : ℕ) (T : Table) (H : ℕ) (S : List Passage) (sched : IsSchedule limit T H S) where
  -- all components enter at both ticks, each with one state
  abbrev pub Alike : ℕ → ℕ → Type 0
  Alike x y = (c : ℕ) → c < size T → (at : Entry) × EntersAt S c x at × EntersAt S c y at

  -- all components enter at the tick
  abbrev pub JointTick : ℕ → Type 0
  JointTick x = (c : ℕ) → c < size T → (at : Entry) × EntersAt S c x at

  turn : (x y : ℕ) → Alike x y → Alike y x
  turn x y h c i = let r = h c i in (r.0, r.2, r.1)

  pair_of : (x y : ℕ) → x < y → y < H → Alike x y → Recurs T H S x y
  pair_of x y l h k = record { before = l; below = h; enters = k }

  -- states of one tick are one
  alike_trans : (x y z : ℕ) → Alike x y → Alike y z → Alike x z
  alike_trans x y z h k c i =
      let r = h c i in
      let q = k c i in
      (r.0, r.1, subst (λ (e : Entry). EntersAt S c z e) (sym (one_state limit T H S sched c y i r.0 q.0 r.2 q.1)) q.2)

  -- with a pair at distance P: from its second tick on every state was there P ticks before
  module _ (a P : ℕ) (longer : 0 < P) (r : Recurs T H S a (a + P)) where
    again : Again T S a P
    again = again_of T H S a P r

    pub before_it : (x : ℕ) → a ≤ x → JointTick (x + P) → Alike x (x + P)
    before_it x l j c i = let e = j c i in (e.0, back limit T H S sched a P r.below longer again x c e.0 l e.1, e.1)

  joint_first : (x y : ℕ) → Alike x y → JointTick x
  joint_first x y h c i = let r = h c i in (r.0, r.1)

  joint_second : (x y : ℕ) → Alike x y → JointTick y
  joint_second x y h c i = let r = h c i in (r.0, r.2)

  -- the first pair
  module _ (a P : ℕ) (longer : 0 < P) (f : FirstRecurs T H S a (a + P)) where
    moved_back : (x : ℕ) → a + P ≤ x → JointTick x → Alike (x - P) x
    moved_back x l j =
        let e : x - P + P ≡ x = omega arith in
        subst (Alike (x - P)) e (before_it a P longer f.recurs (x - P) (omega arith) (subst JointTick (sym e) j))

    -- from a on no state comes again sooner
    none_near : (n p q : ℕ) → q < n → a ≤ p → p < q → q < p + P → q < H → Alike p q → ⊥
    none_near zero p q l h k b d e = omega arith
    none_near (suc n) p q l h k b d e = go (ltb q (a + P)) refl (ltb p (a + P)) refl (λ x y o u v w d g. none_near n x y (omega arith) u v w d g)
      where
        go : (s : Bool) → ltb q (a + P) ≡ s → (t : Bool) → ltb p (a + P) ≡ t
            → ((x y : ℕ) → y < q → a ≤ x → x < y → y < x + P → y < H → Alike x y → ⊥) → ⊥
        go true s t u ih = omega (arith, f.first_b p q (pair_of p q k d e), ltb-true q (a + P) s)
        go false s true u ih =
            let y = ltb-false q (a + P) s in
            let z = ltb-true p (a + P) u in
            let m = alike_trans (q - P) q p (moved_back q y (joint_second p q e)) (turn p q e) in
            omega (arith, f.first_b (q - P) p (pair_of (q - P) p (omega arith) (omega arith) m))
        go false s false u ih =
            let y = ltb-false q (a + P) s in
            let z = ltb-false p (a + P) u in
            let m = alike_trans (p - P) p (q - P) (moved_back p z (joint_first p q e)) (alike_trans p q (q - P) e (turn (q - P) q (moved_back q y (joint_second p q e)))) in
            ih (p - P) (q - P) (omega arith) (omega arith) (omega arith) (omega arith) (omega arith) m

    -- so the last tick with a state like that of z stands P before it
    pub distance_is : (z y : ℕ) → z < H → a + P ≤ z → JointTick z → y < z → Alike y z → ((x : ℕ) → y < x → x < z → Alike x z → ⊥) → y + P ≡ z
    distance_is z y h l j b e n = go (ltb y (z - P)) refl (ltb (z - P) y) refl
      where
        go : (s : Bool) → ltb y (z - P) ≡ s → (t : Bool) → ltb (z - P) y ≡ t → y + P ≡ z
        go true s t u = absurd (n (z - P) (ltb-true y (z - P) s) (omega arith) (moved_back z l j))
        go false s true u = let k = ltb-true (z - P) y u in absurd (none_near (suc z) y z (omega arith) (omega arith) b (omega arith) h e)
        go false s false u = omega (arith, ltb-false y (z - P) s, ltb-false (z - P) y u)

  -- ## The search

  -- z is the last tick at which all enter
  module _ (z : ℕ) (below : z < H) (last : JointTick z) (none_after : (x : ℕ) → z < x → x < H → JointTick x → ⊥) where
    at-most : (x : ℕ) → x < H → JointTick x → x ≤ z
    at-most x h j = go (ltb z x) refl
      where
        go : (t : Bool) → ltb z x ≡ t → x ≤ z
        go true e = absurd (none_after x (ltb-true z x e) h j)
        go false e = ltb-false z x e

    -- its state was not there before: there is no pair
    pub none_found : ((y : ℕ) → y < z → Alike y z → ⊥) → recurrence T H S ≡ none
    none_found n = go (recurrence T H S) refl
      where
        go : (o : Option Recurrence) → recurrence T H S ≡ o → recurrence T H S ≡ none
        go none e = e
        go (some r) e =
            let f = found_recurs limit T H S sched r e in
            let P = r.to - r.from in
            let q : r.to ≡ r.from + P = omega (arith, f.recurs.before) in
            let g : FirstRecurs T H S r.from (r.from + P) = subst (FirstRecurs T H S r.from) q f in
            let u = at-most r.to f.recurs.below (joint_second r.from r.to f.recurs.enters) in
            absurd (n (z - P) (omega (arith, f.recurs.before)) (moved_back r.from P (omega (arith, f.recurs.before)) g z (omega arith) last))

    -- the last tick y before with its state gives the distance, and the first tick p with the state of p + (z − y) the pair
    pub pair_found : (y p : ℕ) → y < z → Alike y z → ((x : ℕ) → y < x → x < z → Alike x z → ⊥) → p + (z - y) < H → Alike p (p + (z - y))
        → ((x : ℕ) → x < p → x + (z - y) < H → Alike x (x + (z - y)) → ⊥) → recurrence T H S ≡ some (record { from = p; to = p + (z - y) })
    pair_found y p b e n h k m = go (recurrence T H S) refl
      where
        go : (o : Option Recurrence) → recurrence T H S ≡ o → recurrence T H S ≡ some (record { from = p; to = p + (z - y) })
        go none q = absurd (none_recurs limit T H S sched q y z (pair_of y z b below e))
        go (some r) q =
            let f = found_recurs limit T H S sched r q in
            let P = r.to - r.from in
            let w : r.to ≡ r.from + P = omega (arith, f.recurs.before) in
            let g : FirstRecurs T H S r.from (r.from + P) = subst (FirstRecurs T H S r.from) w f in
            let u = at-most r.to f.recurs.below (joint_second r.from r.to f.recurs.enters) in
            let d : y + P ≡ z = distance_is r.from P (omega (arith, f.recurs.before)) g z y below (omega arith) last b e n in
            let v : z - y ≡ P = omega arith in
            let s = f.first_b p (p + (z - y)) (pair_of p (p + (z - y)) (omega arith) h k) in
            let x : r.from ≡ p = first-is r (z - y) (omega (arith, w, v)) f.recurs s refl in
            q ∙ ap₂ (λ (i j : ℕ). some (record { from = i; to = j })) x (omega (arith, x, w, v))
          where
            first-is : (r : Recurrence) (D : ℕ) → r.to ≡ r.from + D → Recurs T H S r.from r.to → r.to ≤ p + (z - y) → D ≡ z - y → r.from ≡ p
            first-is r D w f s t = other (ltb r.from p) refl
              where
                other : (b : Bool) → ltb r.from p ≡ b → r.from ≡ p
                other true c =
                    let l : r.from + (z - y) ≡ r.to = omega (arith, w, t) in
                    absurd (m r.from (ltb-true r.from p c) (omega (arith, l, f.below)) (subst (Alike r.from) (sym l) f.enters))
                other false c = omega (arith, ltb-false r.from p c, s, w, t)
