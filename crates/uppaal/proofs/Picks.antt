-- The transitions of a process are the steps in and out of its edges and outcomes. Assumes nothing.
use mathlib.Core.Path.{◌≡◌, refl, sym, ap, subst, ◌∙◌}
use mathlib.Core.Logic.{◌↔◌, ◌⊎◌, inl, inr}
use mathlib.Core.List.{List, [], ◌∷◌, ◌++◌, map}
use mathlib.Core.Option.{Option, none, some}
use Prim.Native.Nat.{ℕ, zero, suc, ◌+◌, ◌≤◌, ◌<◌}
use native.Mathlib.Omega.{arith}
use lib.ListN.{length, get_or}
use Rattle.model.specs.Lists.{◌∈◌, here, there}
use Rattle.model.specs.Table.{Arc, Component, no_arc, arc_of}
use Rattle.model.proofs.Basics.Members.{not_in, in_append}
use Rattle.uppaal.specs.Xta.{Atom, Transition}
use Rattle.uppaal.specs.Export.{uppers, ends, entries, outcomes, step_in_with, step_out_with, transitions_with, transitions_from, process_for}
use Rattle.uppaal.proofs.Ends.{in_map, from_map}

-- a step in on edge e with outcome m, or a step out
pub data Picked (C : Component) (t : Transition) (e : ℕ) (a : Arc) (m : Option ℕ) : Type 0 where
  is_in : (g : List Atom) → g ∈ entries (uppers C a) a.edge.action m → t ≡ step_in_with e a m g → Picked C t e a m
  is_out : (g : List Atom) → g ∈ ends (uppers C a) → t ≡ step_out_with C.clocks e a m g → Picked C t e a m

-- ## From the transition to its edge and outcome

with_picked : (C : Component) (e : ℕ) (a : Arc) (t : Transition) (ms : List (Option ℕ)) → t ∈ transitions_with C e a ms → (m : Option ℕ) × (m ∈ ms) × Picked C t e a m
unfolding transitions_with
with_picked C e a t [] k = absurd (not_in k)
with_picked C e a t (m ∷ ms) k =
    elim ((in_append ins (outs ++ transitions_with C e a ms)).0 k) [
      | inl j ↦ (let r = from_map (step_in_with e a m) (entries (uppers C a) a.edge.action m) j in (m, here refl, is_in r.0 r.1 r.2))
      | inr j ↦ go ((in_append outs (transitions_with C e a ms)).0 j) (λ i. with_picked C e a t ms i)
    ]
  where
    ins : List Transition
    ins = map (step_in_with e a m) (entries (uppers C a) a.edge.action m)

    outs : List Transition
    outs = map (step_out_with C.clocks e a m) (ends (uppers C a))

    go : (t ∈ outs) ⊎ (t ∈ transitions_with C e a ms) → (t ∈ transitions_with C e a ms → (n : Option ℕ) × (n ∈ ms) × Picked C t e a n)
        → (n : Option ℕ) × (n ∈ (m ∷ ms)) × Picked C t e a n
    go (inl j) ih = let r = from_map (step_out_with C.clocks e a m) (ends (uppers C a)) j in (m, here refl, is_out r.0 r.1 r.2)
    go (inr j) ih = let r = ih j in (r.0, there r.1, r.2)

abbrev PickedFrom : Component → Transition → ℕ → List Arc → Type 0
PickedFrom C t i bs =
    (j : ℕ) × (j < length bs) × ((m : Option ℕ) × (m ∈ outcomes (get_or bs j no_arc) (get_or bs j no_arc).edge.action) × Picked C t (i + j) (get_or bs j no_arc) m)

from_picked : (C : Component) (i : ℕ) (t : Transition) (bs : List Arc) → t ∈ transitions_from C i bs → PickedFrom C t i bs
unfolding transitions_from
from_picked C i t [] k = absurd (not_in k)
from_picked C i t (b ∷ bs) k =
    go ((in_append (transitions_with C i b (outcomes b b.edge.action)) (transitions_from C (suc i) bs)).0 k) (λ h. from_picked C (suc i) t bs h)
  where
    go : (t ∈ transitions_with C i b (outcomes b b.edge.action)) ⊎ (t ∈ transitions_from C (suc i) bs) → (t ∈ transitions_from C (suc i) bs → PickedFrom C t (suc i) bs)
        → PickedFrom C t i (b ∷ bs)
    go (inl h) ih =
        let r = with_picked C i b t (outcomes b b.edge.action) h in
        let q : i ≡ i + 0 = omega arith in
        (0, omega arith, (r.0, r.1, subst (λ n. Picked C t n b r.0) q r.2))
    go (inr h) ih =
        let r = ih h in
        let q : suc i + r.0 ≡ i + suc r.0 = omega arith in
        (suc r.0, omega (arith, r.1), (r.2.0, r.2.1, subst (λ n. Picked C t n (get_or bs r.0 no_arc) r.2.0) q r.2.2))

pub picked : (C : Component) (t : Transition) → t ∈ (process_for C).transitions
    → (e : ℕ) × (e < length C.arcs) × ((m : Option ℕ) × (m ∈ outcomes (arc_of C e) (arc_of C e).edge.action) × Picked C t e (arc_of C e) m)
unfolding process_for
picked C t k =
    let r = from_picked C 0 t C.arcs k in
    let q : 0 + r.0 ≡ r.0 = omega arith in
    (r.0, r.1, (r.2.0, r.2.1, subst (λ n. Picked C t n (arc_of C r.0) r.2.0) q r.2.2))

-- ## And back

with_in : (C : Component) (e : ℕ) (a : Arc) (t : Transition) {m : Option ℕ} {ms : List (Option ℕ)} → m ∈ ms → Picked C t e a m → t ∈ transitions_with C e a ms
unfolding transitions_with
with_in C e a t {m = m} (here {y = n} {xs = ms} q) p = at (subst (Picked C t e a) q p)
  where
    ins : List Transition
    ins = map (step_in_with e a n) (entries (uppers C a) a.edge.action n)

    outs : List Transition
    outs = map (step_out_with C.clocks e a n) (ends (uppers C a))

    at : Picked C t e a n → t ∈ (ins ++ (outs ++ transitions_with C e a ms))
    at (is_in g k r) = (in_append ins (outs ++ transitions_with C e a ms)).1 (inl (subst (λ u. u ∈ ins) (sym r) (in_map (step_in_with e a n) k)))
    at (is_out g k r) =
        (in_append ins (outs ++ transitions_with C e a ms)).1
        (inr ((in_append outs (transitions_with C e a ms)).1 (inl (subst (λ u. u ∈ outs) (sym r) (in_map (step_out_with C.clocks e a n) k)))))
with_in C e a t {m = m} (there {y = n} {xs = ms} k) p =
    let ins = map (step_in_with e a n) (entries (uppers C a) a.edge.action n) in
    let outs = map (step_out_with C.clocks e a n) (ends (uppers C a)) in
    (in_append ins (outs ++ transitions_with C e a ms)).1 (inr ((in_append outs (transitions_with C e a ms)).1 (inr (with_in C e a t k p))))

from_in : (C : Component) (i j e : ℕ) (t : Transition) (bs : List Arc) {m : Option ℕ} → e ≡ i + j → j < length bs → m ∈ outcomes (get_or bs j no_arc) (get_or bs j no_arc).edge.action
    → Picked C t e (get_or bs j no_arc) m → t ∈ transitions_from C i bs
unfolding transitions_from
from_in C i j e t [] q h k p = absurd (omega arith)
from_in C i zero e t (b ∷ bs) {m} q h k p =
    let f : e ≡ i = omega (arith, q) in
    (in_append (transitions_with C i b (outcomes b b.edge.action)) (transitions_from C (suc i) bs)).1 (inl (with_in C i b t k (subst (λ n. Picked C t n b m) f p)))
from_in C i (suc j) e t (b ∷ bs) q h k p =
    (in_append (transitions_with C i b (outcomes b b.edge.action)) (transitions_from C (suc i) bs)).1
    (inr (from_in C (suc i) j e t bs (omega (arith, q)) (omega arith) k p))

pub in_transitions : (C : Component) (t : Transition) (e : ℕ) {m : Option ℕ} → e < length C.arcs → m ∈ outcomes (arc_of C e) (arc_of C e).edge.action
    → Picked C t e (arc_of C e) m → t ∈ (process_for C).transitions
unfolding process_for
in_transitions C t e h k p = from_in C 0 e e t C.arcs (omega arith) h k p
