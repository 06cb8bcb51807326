-- How many edges the choice looks at (document 02, wish 5): up to the lowest that is a candidate with no delay, else all; and those that it does
-- not look at change nothing. Assumes nothing.
use mathlib.Core.Path.{◌≡◌, refl, sym, subst, ◌∙◌}
use mathlib.Core.Logic.{◌↔◌, by_cases}
use mathlib.Core.Bool.{Bool, true, false, cond, ◌&&◌}
use mathlib.Core.List.{List, [], ◌∷◌}
use mathlib.Core.Option.{Option, none, some}
use Prim.Native.Nat.{ℕ, zero, suc, ◌+◌, ◌-◌, ◌≤◌, ◌<◌}
use native.Mathlib.Omega.{arith}
use native.Mathlib.Decide.{ℕ_discrete}
use borrow.Author.Tests.{ltb-true, ltb-false, le-ltb, eqb-true, eq-eqb, ne_eqb}
use lib.Dec.{ltb, eqb}
use lib.IntN.{ℤ}
use lib.ListN.{length, get_or, take}
use Rattle.model.specs.declared.Location.{Location}
use Rattle.model.specs.Table.{Arc, Component, no_arc, location_of, arc_of}
use Rattle.model.specs.Window.{Entry, Pick, ready_of, window_of, better, candidate, eligible, considered, chosen, choice, may_take, at_once, looked_from, looked, may_take_at_once, LookedAt, up_to_edge, all_edges}
use Rattle.model.proofs.Basics.Bools.{clash}
use Rattle.model.proofs.Window.Choice.{choice_none}

-- the best so far is ready with no delay
abbrev pub ready_now : Option Pick → Bool
ready_now none = false
ready_now (some p) = eqb p.ready 0

module _ (l : Location) (here : ℕ) (xs : List ℕ) (vs : List ℤ) where
  -- ## One edge

  -- where the best so far is not ready at once, the new best is exactly if this edge is
  pub considered_now : (e : ℕ) (a : Arc) (k : Option Pick) → ready_now k ≡ false → ready_now (considered l here xs vs e a k) ≡ at_once l here xs vs a
  considered_now e a k h = go (eligible l here xs vs a) k h
    where
      pick : (q : Pick) → eqb q.ready 0 ≡ false → (t : Bool) → ltb (ready_of a.clock_guards xs) q.ready ≡ t
          → ready_now (cond t (some (window_of l e a xs)) (some q)) ≡ eqb (ready_of a.clock_guards xs) 0
      pick q f true u = refl
      pick q f false u = f ∙ sym (ne_eqb (ready_of a.clock_guards xs) 0 (λ z. clash (sym f ∙ eq-eqb q.ready 0 (omega (arith, z, ltb-false (ready_of a.clock_guards xs) q.ready u)))))

      go : (t : Bool) (k : Option Pick) → ready_now k ≡ false → ready_now (cond t (better k (window_of l e a xs)) k) ≡ t && eqb (ready_of a.clock_guards xs) 0
      go false k f = f
      go true none f = refl
      go true (some q) f = pick q f (ltb (ready_of a.clock_guards xs) q.ready) refl

  -- a best that is ready at once is not replaced: "no later number can beat it"
  kept : (e : ℕ) (a : Arc) (k : Option Pick) → ready_now k ≡ true → considered l here xs vs e a k ≡ k
  kept e a none h = clash h
  kept e a (some q) h = go (eligible l here xs vs a)
    where
      go : (t : Bool) → cond t (better (some q) (window_of l e a xs)) (some q) ≡ some q
      go false = refl
      go true = rw (le-ltb (ready_of a.clock_guards xs) q.ready (omega (arith, eqb-true q.ready 0 h)))

  -- so the search may stop there
  pub stops : (e : ℕ) (as' : List Arc) (k : Option Pick) → ready_now k ≡ true → chosen l here xs vs e as' k ≡ k
  unfolding chosen
  stops e [] k h = refl
  stops e (a ∷ as') k h = rw (kept e a k h) (stops (suc e) as' k h)

  -- ## The edges from number e on

  least : (e : ℕ) (as' : List Arc) → e ≤ looked_from l here xs vs e as'
  unfolding looked_from
  least e [] = omega arith
  least e (a ∷ as') = pick (least (suc e) as') (at_once l here xs vs a)
    where
      pick : suc e ≤ looked_from l here xs vs (suc e) as' → (t : Bool) → e ≤ cond t (suc e) (looked_from l here xs vs (suc e) as')
      pick ih true = omega arith
      pick ih false = omega arith

  -- the edges that are not looked at change nothing
  enough : (e : ℕ) (as' : List Arc) (k : Option Pick) → ready_now k ≡ false
      → chosen l here xs vs e as' k ≡ chosen l here xs vs e (take (looked_from l here xs vs e as' - e) as') k
  unfolding chosen looked_from
  enough e [] k h = let z : e - e ≡ 0 = omega arith in rw z
  enough e (a ∷ as') k h = go (enough (suc e) as' (considered l here xs vs e a k)) (at_once l here xs vs a) refl
    where
      go : (ready_now (considered l here xs vs e a k) ≡ false → chosen l here xs vs (suc e) as' (considered l here xs vs e a k) ≡ chosen l here xs vs (suc e) (take (looked_from l here xs vs (suc e) as' - suc e) as') (considered l here xs vs e a k))
          → (t : Bool) → at_once l here xs vs a ≡ t
          → chosen l here xs vs (suc e) as' (considered l here xs vs e a k) ≡ chosen l here xs vs e (take (cond t (suc e) (looked_from l here xs vs (suc e) as') - e) (a ∷ as')) k
      go ih true q =
          let z : suc e - e ≡ 1 = omega arith in
          rw z (stops (suc e) as' (considered l here xs vs e a k) (considered_now e a k h ∙ q))
      go ih false q =
          let m : suc e ≤ looked_from l here xs vs (suc e) as' = least (suc e) as' in
          let z : looked_from l here xs vs (suc e) as' - e ≡ suc (looked_from l here xs vs (suc e) as' - suc e) = omega arith in
          rw z (ih (considered_now e a k h ∙ q))

  -- the number, where edge k of these is the lowest that is ready at once, and where none is
  looked_up : (e k : ℕ) (as' : List Arc) → k < length as' → at_once l here xs vs (get_or as' k no_arc) ≡ true
      → ((j : ℕ) → j < k → at_once l here xs vs (get_or as' j no_arc) ≡ false) → looked_from l here xs vs e as' ≡ suc (e + k)
  unfolding looked_from
  looked_up e k [] h y f = absurd (omega arith)
  looked_up e zero (a ∷ as') h y f = rw y (omega arith)
  looked_up e (suc k) (a ∷ as') h y f = rw (f 0 (omega arith)) (looked_up (suc e) k as' (omega arith) y (λ j i. f (suc j) (omega arith)) ∙ omega arith)

  looked_through : (e : ℕ) (as' : List Arc) → ((j : ℕ) → j < length as' → at_once l here xs vs (get_or as' j no_arc) ≡ false)
      → looked_from l here xs vs e as' ≡ e + length as'
  unfolding looked_from
  looked_through e [] f = omega arith
  looked_through e (a ∷ as') f = rw (f 0 (omega arith)) (looked_through (suc e) as' (λ j i. f (suc j) (omega arith)) ∙ omega arith)

-- ## Of a component

module _ (C : Component) (at : Entry) where
  -- what is chosen among the edges looked at is the choice
  pub looked_enough : choice C at ≡ chosen (location_of C at.location) at.location at.clocks at.values 0 (take (looked C at) C.arcs) none
  unfolding choice looked
  looked_enough =
      let n = looked_from (location_of C at.location) at.location at.clocks at.values 0 C.arcs in
      let z : n - 0 ≡ n = omega arith in
      rw (← z) (enough (location_of C at.location) at.location at.clocks at.values 0 C.arcs none refl)

  -- the number that the sentence says is the number
  pub looked_same : {n : ℕ} → LookedAt C at n → n ≡ looked C at
  unfolding looked
  looked_same (up_to_edge k h y f q) = q ∙ sym (looked_up (location_of C at.location) at.location at.clocks at.values 0 k C.arcs h y f ∙ omega arith)
  looked_same (all_edges f q) = q ∙ sym (looked_through (location_of C at.location) at.location at.clocks at.values 0 C.arcs f ∙ omega arith)

  -- the edges from number n on, d of them, where none before is ready at once
  found : (d n : ℕ) → n + d ≡ length C.arcs → ((j : ℕ) → j < n → may_take_at_once C at j ≡ false) → LookedAt C at (looked C at)
  found zero n q f =
      let none_there : (j : ℕ) → j < length C.arcs → may_take_at_once C at j ≡ false = λ j h. f j (omega (arith, h, q)) in
      all_edges none_there (sym (looked_same (all_edges none_there refl)))
  found (suc d) n q f = go (may_take_at_once C at n) refl (found d (suc n) (omega arith))
    where
      go : (t : Bool) → may_take_at_once C at n ≡ t → (((j : ℕ) → j < suc n → may_take_at_once C at j ≡ false) → LookedAt C at (looked C at)) → LookedAt C at (looked C at)
      go true y further = let h : n < length C.arcs = omega arith in up_to_edge n h y f (sym (looked_same (up_to_edge n h y f refl)))
      go false y further = further (λ j h. by_cases (ℕ_discrete j n) (λ i. rw i y) (λ i. f j (omega arith)))

  -- and there is one: `looked` is the number that the sentence says, no other is
  pub looked_is : {n : ℕ} → (n ≡ looked C at) ↔ LookedAt C at n
  looked_is = (λ q. subst (LookedAt C at) (sym q) (found (length C.arcs) 0 (omega arith) (λ j h. absurd (omega arith))), looked_same)

  -- at most all edges
  pub looked_most : looked C at ≤ length C.arcs
  looked_most = go (looked_is.0 refl)
    where
      go : {n : ℕ} → LookedAt C at n → n ≤ length C.arcs
      go (up_to_edge k h y f q) = omega (arith, h, q)
      go (all_edges f q) = omega (arith, q)

  -- where no edge leaves the location, nothing is taken and all edges are looked at
  module _ (elsewhere : (e : ℕ) → e < length C.arcs → (arc_of C e).edge.source ≡ at.location → ⊥) where
    not_there : (e : ℕ) → e < length C.arcs → eqb (arc_of C e).edge.source at.location ≡ false
    not_there e h = ne_eqb (arc_of C e).edge.source at.location (elsewhere e h)

    pub none_from_there : choice C at ≡ none
    none_from_there = (choice_none C at).1 (λ e h. rw (not_there e h))

    pub all_from_there : looked C at ≡ length C.arcs
    all_from_there = sym (looked_same (all_edges (λ e h. rw (not_there e h)) refl))
