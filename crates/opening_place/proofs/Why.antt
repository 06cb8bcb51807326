-- The reasons told are all there are: 8 where every edge that leaves the location fails by its data bounds or has no window, 9 where an update of the
-- edge taken leaves the range. Assumes nothing.
use mathlib.Core.Path.{◌≡◌, refl}
use mathlib.Core.Bool.{Bool, true, false, cond, ◌&&◌}
use mathlib.Core.List.{List, [], ◌∷◌}
use mathlib.Core.Option.{Option, none, some}
use Prim.Native.Nat.{ℕ, suc, ◌+◌, ◌≤◌, ◌<◌}
use native.Mathlib.Omega.{arith}
use lib.Dec.{eqb}
use lib.IntN.{ℤ}
use lib.ListN.{length, set, get_or}
use Rattle.model.specs.declared.Update.{Update}
use Rattle.model.specs.Lists.{only, refused}
use Rattle.model.specs.Table.{Arc, Component, no_arc, location_of, arc_of}
use Rattle.model.specs.declared.Location.{Location}
use Rattle.model.specs.Window.{Entry, Pick, data_holds, long_enough, blocked, windowless, eligible, choice, in_range, new_value, updated, channel_of}
use Rattle.model.specs.Schedule.{Passage, passage_of, ranged, picked, opening}
use Rattle.model.proofs.Window.Choice.{choice_none}
use Rattle.opening_place.specs.Opening.{leaving, reasons, first_out, overflow}

-- ## 8

-- an edge that leaves and is no candidate has one of the two reasons
module _ (l : Location) (at : Entry) where
  both : (as' : List Arc) → ((e : ℕ) → e < length as' → eligible l at.location at.clocks at.values (get_or as' e no_arc) ≡ false)
      → length (only (λ a. eqb a.edge.source at.location) as')
      ≡ length (only (blocked at) (only (λ a. eqb a.edge.source at.location) as')) + length (only (windowless l at) (only (λ a. eqb a.edge.source at.location) as'))
  both [] f = omega arith
  both (a ∷ as') f =
      go (eqb a.edge.source at.location) (data_holds a.data_guards at.values) (long_enough l a at.clocks) refl refl refl (f 0 (omega arith)) (both as' (λ e h. f (suc e) (omega arith)))
    where
      left : List Arc
      left = only (λ a. eqb a.edge.source at.location) as'

      go : (s d w : Bool) → eqb a.edge.source at.location ≡ s → data_holds a.data_guards at.values ≡ d
          → long_enough l a at.clocks ≡ w → s && (d && w) ≡ false
          → length left ≡ length (only (blocked at) left) + length (only (windowless l at) left)
          → length (cond s (a ∷ left) left) ≡ length (only (blocked at) (cond s (a ∷ left) left)) + length (only (windowless l at) (cond s (a ∷ left) left))
      go false d w p q r t e = e
      go true false w p q r t e = rw q (omega arith)
      go true true false p q r t e = rw (q, r) (omega arith)
      go true true true p q r t e = let z : ◌≡◌ {A = ℕ} 0 1 = cc in absurd (omega arith)

-- ## 9

-- updates that are not all in range have a first that is not
out_there : (i : ℕ) (us : List Update) (vs : List ℤ) → updated us vs ≡ none → (k : ℕ) × (first_out i us vs ≡ some k) × (i ≤ k) × (k < i + length us)
unfolding updated first_out
out_there i [] vs e = let z : ◌≡◌ {A = ℕ} 0 1 = cc in absurd (omega arith)
out_there i (u ∷ us) vs e = go (in_range (new_value u vs)) e (out_there (suc i) us (set vs u.variable (new_value u vs)))
  where
    go : (b : Bool) → cond b (updated us (set vs u.variable (new_value u vs))) none ≡ none
        → (updated us (set vs u.variable (new_value u vs)) ≡ none
        → (k : ℕ) × (first_out (suc i) us (set vs u.variable (new_value u vs)) ≡ some k) × (suc i ≤ k) × (k < suc i + length us))
        → (k : ℕ) × (cond b (first_out (suc i) us (set vs u.variable (new_value u vs))) (some i) ≡ some k) × (i ≤ k) × (k < i + suc (length us))
    go true q later = let t = later q in (t.0, t.1, omega (arith, t.2), omega (arith, t.3))
    go false q later = (i, refl, omega arith, omega arith)

module _ (c : ℕ) (C : Component) (at : Entry) where
  -- an opening refused with 8
  pub eight : opening c C at ≡ refused 8 c → (reasons C at).leaving ≡ (reasons C at).blocked + (reasons C at).windowless
  unfolding opening
  eight e = go (choice C at) refl e
    where
      last : (o : Option (List ℤ)) (v : Passage) → ranged c o v ≡ refused 8 c → ⊥
      last none v q = let z : ◌≡◌ {A = ℕ} 9 8 = cc in omega arith
      last (some vs) v q = let z : ◌≡◌ {A = ℕ} 0 1 = cc in omega arith

      go : (o : Option Pick) → choice C at ≡ o → picked c C at o ≡ refused 8 c → (reasons C at).leaving ≡ (reasons C at).blocked + (reasons C at).windowless
      go none q r = both (location_of C at.location) at C.arcs ((choice_none C at).0 q)
      go (some p) q r = absurd (last (updated (arc_of C p.edge).updates at.values) (passage_of c at p (channel_of (arc_of C p.edge))) r)

  -- and with 9: an edge is taken, and an update of it is told
  pub nine : opening c C at ≡ refused 9 c → (p : Pick) × (k : ℕ) × (choice C at ≡ some p) × (overflow C at ≡ some (record { edge = p.edge; update = k })) × (k < length (arc_of C p.edge).updates)
  unfolding opening
  nine e = go (choice C at) refl e
    where
      last : (o : Option (List ℤ)) (v : Passage) → ranged c o v ≡ refused 9 c → o ≡ none
      last none v q = refl
      last (some vs) v q = let z : ◌≡◌ {A = ℕ} 0 1 = cc in absurd (omega arith)

      go : (o : Option Pick) → choice C at ≡ o → picked c C at o ≡ refused 9 c
          → (p : Pick) × (k : ℕ) × (choice C at ≡ some p) × (overflow C at ≡ some (record { edge = p.edge; update = k })) × (k < length (arc_of C p.edge).updates)
      go none q r = let z : ◌≡◌ {A = ℕ} 8 9 = cc in absurd (omega arith)
      go (some p) q r =
          let t = out_there 0 (arc_of C p.edge).updates at.values (last (updated (arc_of C p.edge).updates at.values) (passage_of c at p (channel_of (arc_of C p.edge))) r) in
          (p, t.0, q, rw (q, t.1), omega (arith, t.3))
