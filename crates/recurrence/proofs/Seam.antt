-- A tick at which all components enter: no passage lies across it, and no send touches it. Assumes nothing.
use mathlib.Core.Path.{◌≡◌, refl, sym, ap, subst, ◌∙◌}
use mathlib.Core.Bool.{Bool, true, false, cond}
use mathlib.Core.List.{List, [], ◌∷◌, ◌++◌}
use mathlib.Core.Logic.{◌⊎◌, inl, inr}
use Prim.Native.Nat.{ℕ, suc, ◌+◌, ◌≤◌, ◌<◌}
use native.Mathlib.Omega.{arith}
use borrow.Author.Tests.{ltb-true, ltb-false, lt-ltb, le-ltb, leb-true, leb-false, le-leb, lt-leb}
use lib.Dec.{leb, ltb}
use Rattle.model.specs.Lists.{◌∈◌, here, there, only, All, empty, more, accepted}
use Rattle.model.specs.Table.{Component, Table, size, component_of}
use Rattle.model.specs.Schedule.{Passage, own}
use Rattle.model.specs.Checks.{is_send, checked}
use Rattle.model.specs.Chains.{Before, Ordered, IsSchedule}
use Rattle.model.specs.Chains.{none as no-passage, more as first-passage}
use Rattle.model.proofs.Basics.Members.{not_in}
use Rattle.model.proofs.Schedule.Own.{all_in, in_own, all_then}
use Rattle.model.proofs.Checks.Heard.{Listener, heard_law}
use Rattle.model.proofs.Schedule.Passages.{entered, before_tick}
use Rattle.model.proofs.Network.Passage.{Fits, from_entry}
use Rattle.model.proofs.Network.Links.{Links, final, leads, first_fits, Linked, schedule_linked}
use Rattle.model.proofs.Meaning.Pass.{later-entry}

-- of two passages of one component, the one entered first ends before the other is entered
pub links_apart : {H : ℕ} {C : Component} {v : Passage} {vs : List Passage} → Links H C v vs → (u w : Passage) → u ∈ (v ∷ vs) → w ∈ (v ∷ vs)
    → u.entry.tick < w.entry.tick → u.end ≤ w.entry.tick
links_apart {H = H} {C = C} k u w m n h = go k m n
  where
    go : {v : Passage} {vs : List Passage} → Links H C v vs → u ∈ (v ∷ vs) → w ∈ (v ∷ vs) → u.end ≤ w.entry.tick
    go k (here e) (here f) = absurd (omega (arith, h, ap (λ (z : Passage). z.entry.tick) e, ap (λ (z : Passage). z.entry.tick) f))
    go k (here e) (there m) = omega (arith, later-entry k w m, ap (λ (z : Passage). z.end) e)
    go k (there m) (here f) =
        let g = first_fits k in
        absurd (omega (arith, h, later-entry k u m, from_entry g, g.window, ap (λ (z : Passage). z.entry.tick) f))
    go (final a b) (there m) (there n) = absurd (not_in m)
    go (leads a b c k) (there m) (there n) = go k m n

module _ (limit : ℕ) (T : Table) (H : ℕ) (S : List Passage) (sched : IsSchedule limit T H S) where
  -- all components enter at x
  abbrev pub Joint : ℕ → Type 0
  Joint x = (c : ℕ) → c < size T → (v : Passage) × (v ∈ own c S) × (v.entry.tick ≡ x)

  pub starts_early : (w : Passage) → w ∈ S → w.entry.tick ≤ w.ready
  starts_early w m = (all_in (entered sched) m).early

  pub is_wide : (w : Passage) → w ∈ S → w.ready < w.end
  is_wide w m = (all_in (entered sched) m).wide

  module _ (x : ℕ) (joint : Joint x) where
    -- what is entered before the seam ends there or before
    pub left_ends : (w : Passage) → w ∈ S → w.entry.tick < x → w.end ≤ x
    left_ends w m h =
        let hc : w.component < size T = all_in sched.present m in
        let j = joint w.component hc in
        let L : Linked T H S w.component = schedule_linked limit T H S sched w.component hc in
        let mine = subst (λ (l : List Passage). w ∈ l) L.is (in_own m) in
        let yours = subst (λ (l : List Passage). j.0 ∈ l) L.is j.1 in
        omega (arith, links_apart L.linked w j.0 mine yours (omega (arith, j.2)), j.2)

    module _ (ok : checked 0 T H S ≡ accepted S) (s : Passage) (m : s ∈ S) (e : is_send T H s ≡ true) where
      -- the listener of a send
      pub ear : Listener 0 T S s
      ear = heard_law 0 T H S ok s m e

      -- a send entered before the seam ends before it, and so is its listener entered before it
      pub send_left : s.entry.tick < x → (s.end < x) × (ear.passage.entry.tick < x)
      send_left h = go (ltb ear.passage.entry.tick x) refl
        where
          go : (t : Bool) → ltb ear.passage.entry.tick x ≡ t → (s.end < x) × (ear.passage.entry.tick < x)
          go true t =
              let b = ltb-true ear.passage.entry.tick x t in
              (omega (arith, ear.later, left_ends ear.passage ear.listed b), b)
          go false t =
              absurd (omega (arith, ltb-false ear.passage.entry.tick x t, starts_early ear.passage ear.listed, ear.earlier, is_wide s m, left_ends s m h))

      -- a send entered at the seam or after it starts after it, and its listener is entered there or after it
      pub send_right : x ≤ s.entry.tick → (x < s.ready) × (x ≤ ear.passage.entry.tick)
      send_right h = go (ltb ear.passage.entry.tick x) refl
        where
          go : (t : Bool) → ltb ear.passage.entry.tick x ≡ t → (x < s.ready) × (x ≤ ear.passage.entry.tick)
          go true t =
              absurd (omega (arith, left_ends ear.passage ear.listed (ltb-true ear.passage.entry.tick x t), ear.later, is_wide s m, starts_early s m))
          go false t =
              let b = ltb-false ear.passage.entry.tick x t in
              (omega (arith, starts_early ear.passage ear.listed, ear.earlier), b)

-- ## The list in two parts

abbrev pub enters_before : ℕ → Passage → Bool
enters_before x v = ltb v.entry.tick x

abbrev pub enters_from : ℕ → Passage → Bool
enters_from x v = leb x v.entry.tick

-- none is entered before x
pub none_left : (x : ℕ) {S : List Passage} → All (λ w. x ≤ w.entry.tick) S → (only (enters_before x) S ≡ []) × (only (enters_from x) S ≡ S)
none_left x empty = (refl, refl)
none_left x (more {x = w} {xs = ws} h a) =
    let r = none_left x a in (
      ap (λ t. cond t (w ∷ only (enters_before x) ws) (only (enters_before x) ws)) (le-ltb w.entry.tick x h) ∙ r.0,
      ap (λ t. cond t (w ∷ only (enters_from x) ws) (only (enters_from x) ws)) (le-leb x w.entry.tick h) ∙ ap (λ l. w ∷ l) r.1,
    )

-- an ordered list is what is entered before x, then what is entered from x on
pub split_at : (x : ℕ) {S : List Passage} → Ordered S → only (enters_before x) S ++ only (enters_from x) S ≡ S
split_at x no-passage = refl
split_at x (first-passage {v = v} {vs = vs} b o) = go (split_at x o) (ltb v.entry.tick x) refl
  where
    go : only (enters_before x) vs ++ only (enters_from x) vs ≡ vs → (t : Bool) → ltb v.entry.tick x ≡ t → only (enters_before x) (v ∷ vs) ++ only (enters_from x) (v ∷ vs) ≡ v ∷ vs
    go ih true t =
        ap (λ l. l ++ only (enters_from x) (v ∷ vs)) (ap (λ q. cond q (v ∷ only (enters_before x) vs) (only (enters_before x) vs)) t)
        ∙ ap (λ l. v ∷ (only (enters_before x) vs ++ l)) (ap (λ q. cond q (v ∷ only (enters_from x) vs) (only (enters_from x) vs)) (lt-leb x v.entry.tick (ltb-true v.entry.tick x t)))
        ∙ ap (λ l. v ∷ l) ih
    go ih false t =
        let h = ltb-false v.entry.tick x t in
        let r = none_left x {S = v ∷ vs} (more {x = v} h (all_then (λ w k. omega (arith, before_tick v w k)) b)) in
        ap (λ l. l ++ only (enters_from x) (v ∷ vs)) r.0 ∙ r.1
