-- Where no node can be chosen a tick can: nobody is due, and nobody is late by it. Assumes nothing.
use mathlib.Core.Path.{◌≡◌, refl, subst}
use mathlib.Core.Logic.{◌⊎◌, inl, inr}
use mathlib.Core.Bool.{Bool, true, false, cond}
use mathlib.Core.List.{List, [], ◌∷◌}
use Prim.Native.Nat.{ℕ, zero, suc, pred, ◌-◌, ◌<◌}
use native.Mathlib.Omega.{arith}
use borrow.Author.Tests.{le-ltb, ltb-false, leb-true, leb-false}
use lib.Dec.{leb, eqb}
use Rattle.model.specs.Table.{Read, size}
use Rattle.model.specs.Schedule.{Passage, own}
use Rattle.model.specs.Machine.{Node}
use Rattle.model.specs.Run.{setting_at, offset_of, Run, node_of, Stand, sleeping, sending, listening, finishing, adding, working, taking, elsewhere, nowhere, stand_of, forbidden, on, over, ticked, some_due, late_nodes, after_tick, choose1}
use Rattle.model.specs.Demand3.{end_before, late_in, end_is, DueIn, NotDueIn}
use Rattle.model.proofs.Run.Tied.{Given, clock_at}
use Rattle.model.proofs.Run.Node.{never_ready}
use Rattle.model.proofs.Run.Tick.{Live, late_by}
use Rattle.model.proofs.Run.Due.{WhyNot, no_node, asleep, not_due, tick_due, why_not}
use Rattle.model.proofs.Run.Path.{nobody_late}

-- ## One node

-- due and not due exclude each other
due_clash : (vs : List Passage) (now : ℕ) (r : Node) (x : Stand) → DueIn vs now r x → NotDueIn vs now r x → ⊥
due_clash vs now r sleeping d n = n d
due_clash vs now r (sending k) d n = d
due_clash vs now r (listening qs) d n = n d
due_clash vs now r finishing d n = d
due_clash vs now r (adding v z) d n = d
due_clash vs now r working d n = d
due_clash vs now r taking d n = d
due_clash vs now r elsewhere d n = d
due_clash vs now r nowhere d n = d

-- a passage that ends neither before now nor now does not end before the next tick
end_later : (vs : List Passage) (k now : ℕ) → end_before vs k now ≡ false → (end_is vs k now → ⊥) → end_before vs k (suc now) ≡ false
end_later [] k now e n = refl
end_later (v ∷ vs) zero now e n = le-ltb v.end (suc now) (omega (arith, ltb-false v.end now e, n))
end_later (v ∷ vs) (suc k) now e n = end_later vs k now e n

-- a node that is not late and not due, where nothing but waiting is left to it, is not late by a tick
late_never : (vs : List Passage) (now : ℕ) (r : Node) (x : Stand) → NotDueIn vs now r x → late_in vs now r x ≡ false → late_in vs (suc now) r x ≡ false
late_never vs now r sleeping n l = refl
late_never vs now r (sending k) n l = absurd n
late_never vs now r (listening qs) n l = end_later vs (pred r.sleeps) now l n
late_never vs now r finishing n l = absurd n
late_never vs now r (adding v z) n l = absurd n
late_never vs now r working n l = absurd n
late_never vs now r taking n l = never_ready vs r.sleeps (suc now) n
late_never vs now r elsewhere n l = absurd n
late_never vs now r nowhere n l = absurd n

-- ## All nodes

module _ {t : Read} {H : ℕ} {S : List Passage} {offs : List ℕ} (G : Given t H S offs) {s : Run} (k : Live G s) (still : (c : ℕ) → c < size t.table → choose1 (setting_at t H S offs) s c ≡ forbidden) where
  -- no node is due: it is asleep, or it is at nothing that is due
  not-due : (c : ℕ) → c < size t.table
      → (s.tick < offset_of (setting_at t H S offs) c) ⊎ NotDueIn (own c S) (clock_at G s.tick c) (node_of s c) (stand_of (node_of s c))
  not-due c h = go (why_not G k c (still c h))
    where
      go : WhyNot G k c → (s.tick < offset_of (setting_at t H S offs) c) ⊎ NotDueIn (own c S) (clock_at G s.tick c) (node_of s c) (stand_of (node_of s c))
      go (no_node i n) = absurd (omega arith)
      go (asleep i n) = inl n
      go (not_due i n) = inr n
      go (tick_due i d j w n) = absurd (omega (arith, G.limits.most_components))

  -- no node is late by a tick
  pub none_late : (c : ℕ) → c < size t.table → late_by G (ticked s) c ≡ false
  none_late c h = go (not-due c h) (leb (offset_of (setting_at t H S offs) c) s.tick) refl
    where
      Late : ℕ → Type 0
      Late τ = late_in (own c S) τ (node_of s c) (stand_of (node_of s c)) ≡ false

      go : (s.tick < offset_of (setting_at t H S offs) c) ⊎ NotDueIn (own c S) (clock_at G s.tick c) (node_of s c) (stand_of (node_of s c))
          → (x : Bool) → leb (offset_of (setting_at t H S offs) c) s.tick ≡ x → Late (clock_at G (suc s.tick) c)
      go (inl n) x q = subst Late (let z : clock_at G s.tick c ≡ clock_at G (suc s.tick) c = omega arith in z) (nobody_late G k.tied c h)
      go (inr n) true q =
          let l = leb-true (offset_of (setting_at t H S offs) c) s.tick q in
          subst Late (let z : suc (clock_at G s.tick c) ≡ clock_at G (suc s.tick) c = omega arith in z)
          (late_never (own c S) (clock_at G s.tick c) (node_of s c) (stand_of (node_of s c)) n (nobody_late G k.tied c h))
      go (inr n) false q =
          let l = leb-false (offset_of (setting_at t H S offs) c) s.tick q in
          subst Late (let z : clock_at G s.tick c ≡ clock_at G (suc s.tick) c = omega arith in z) (nobody_late G k.tied c h)

  -- so a tick is allowed
  pub tick_allowed : choose1 (setting_at t H S offs) s 255 ≡ forbidden → ⊥
  tick_allowed e = go (why_not G k 255 e)
    where
      go : WhyNot G k 255 → ⊥
      go (no_node i n) = n refl
      go (asleep i n) = omega (arith, G.limits.most_components)
      go (not_due i n) = omega (arith, G.limits.most_components)
      go (tick_due i d j w n) = by (not-due d j)
        where
          by : (s.tick < offset_of (setting_at t H S offs) d) ⊎ NotDueIn (own d S) (clock_at G s.tick d) (node_of s d) (stand_of (node_of s d)) → ⊥
          by (inl m) = omega arith
          by (inr m) = due_clash (own d S) (clock_at G s.tick d) (node_of s d) (stand_of (node_of s d)) n m

-- a tick changes no node
pub tick_is : (t : Read) (H : ℕ) (S : List Passage) (offs : List ℕ) (s u : Run) → choose1 (setting_at t H S offs) s 255 ≡ on u → u ≡ ticked s
unfolding choose1
tick_is t H S offs s u e = go (some_due (setting_at t H S offs) s.tick 0 s.nodes) (late_nodes (setting_at t H S offs) (suc s.tick) 0 s.nodes) e
  where
    last : (x : Bool) → cond x (over (ticked s) 0 255) (on (ticked s)) ≡ on u → u ≡ ticked s
    last true f = let z : ◌≡◌ {A = ℕ} 0 1 = cc in absurd (omega arith)
    last false f = cc

    go : (x : Bool) (l : List ℕ) → cond x forbidden (after_tick (setting_at t H S offs) (ticked s) l) ≡ on u → u ≡ ticked s
    go true l f = let z : ◌≡◌ {A = ℕ} 0 1 = cc in absurd (omega arith)
    go false (d ∷ ds) f = let z : ◌≡◌ {A = ℕ} 0 1 = cc in absurd (omega arith)
    go false [] f = last (eqb (suc s.tick) H) f
