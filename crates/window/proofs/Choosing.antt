-- The edge taken, from edge to edge. Assumes nothing.
use Rattle.std.specs.Prelude.{Option as Found}
use Rattle.std.specs.Prelude.{Some, None, is_some}
use Rattle.window.specs.Views.{option_of}
use mathlib.Core.Path.{◌≡◌, refl, sym, subst, ◌∙◌}
use mathlib.Core.Bool.{Bool, true, false, cond}
use mathlib.Core.List.{List, [], ◌∷◌}
use mathlib.Core.Option.{Option, none, some}
use Prim.Native.Nat.{ℕ, zero, suc, ◌+◌, ◌-◌, ◌≤◌, ◌<◌}
use native.Mathlib.Nat.{add-zero}
use borrow.Author.Tests.{ltb-true, ltb-false}
use native.Mathlib.Numerals.{add-one}
use native.Mathlib.Omega.{arith}
use lib.Dec.{ltb}
use lib.IntN.{ℤ}
use lib.ListN.{length, drop, get_or, drop_of_length-le}
use lib.Seq.{drop-cons}
use Rattle.model.specs.declared.Location.{Location}
use Rattle.model.specs.Lists.{accepted, refused}
use Rattle.model.specs.Table.{Arc, Component, no_arc, location_of, arc_of}
use Rattle.model.specs.Window.{Entry, Pick, window_of, better, eligible, considered, chosen, choice, channel_of, updated}
use Rattle.model.specs.Places.{arc_place, component_in}
use Rattle.model.specs.Schedule.{passage_of, opening}
use Rattle.window.specs.declared.Choice.{Choice}
use Rattle.window.specs.Views.{pick_of, Kept}
use Rattle.window.proofs.Considering.{passed_over, pick_from, pick_some}

module _ (l : Location) (here : ℕ) (xs : List ℕ) (vs : List ℤ) where
  -- one edge more is considered
  pub chosen_turn : (as' : List Arc) (e : ℕ) (k k' x : Option Pick) → e < length as' → k' ≡ considered l here xs vs e (get_or as' e no_arc) k
      → chosen l here xs vs e (drop e as') k ≡ x → chosen l here xs vs (e + 1) (drop (e + 1) as') k' ≡ x
  unfolding chosen
  chosen_turn as' e k k' x h q i = rw (q, add-one e) (rw (drop-cons as' e no_arc h) at i)

  -- none is left
  pub chosen_done : (as' : List Arc) (e : ℕ) (k x : Option Pick) → length as' ≤ e → chosen l here xs vs e (drop e as') k ≡ x → k ≡ x
  unfolding chosen
  chosen_done as' e k x h i = rw (drop_of_length-le as' h) at i

  chosen_none : (as' : List Arc) (e : ℕ) (k x : Option Pick) → length as' ≤ e → k ≡ x → chosen l here xs vs e (drop e as') k ≡ x
  unfolding chosen
  chosen_none as' e k x h i = rw (drop_of_length-le as' h) i

  -- edges that start elsewhere are passed over
  chosen_over : (as' : List Arc) (d e : ℕ) (k x : Option Pick)
      → ((i : ℕ) → e ≤ i → i < e + d → i < length as' → (get_or as' i no_arc).edge.source ≡ here → ⊥)
      → chosen l here xs vs e (drop e as') k ≡ x → chosen l here xs vs (e + d) (drop (e + d) as') k ≡ x
  chosen_over as' zero e k x n i = rw add-zero i
  chosen_over as' (suc d) e k x n i = go (λ j. chosen_over as' d (e + 1) k x (λ j a b. n j (omega arith) (omega arith)) j) (ltb e (length as')) refl
    where
      shift : (e + 1) + d ≡ e + suc d
      shift = omega arith

      go : (chosen l here xs vs (e + 1) (drop (e + 1) as') k ≡ x → chosen l here xs vs ((e + 1) + d) (drop ((e + 1) + d) as') k ≡ x) → (t : Bool) → ltb e (length as') ≡ t
          → chosen l here xs vs (e + suc d) (drop (e + suc d) as') k ≡ x
      go rest true q =
          let h = ltb-true e (length as') q in
          let same = passed_over l here xs vs e (get_or as' e no_arc) k (n e (omega arith) (omega arith) h) in
          subst (λ f. chosen l here xs vs f (drop f as') k ≡ x) shift (rest (chosen_turn as' e k k x h same i))
      go rest false q =
          let h = ltb-false e (length as') q in
          chosen_none as' (e + suc d) k x (omega arith) (chosen_done as' e k x h i)

  pub chosen_skip : (as' : List Arc) (e f : ℕ) (k x : Option Pick) → e ≤ f
      → ((i : ℕ) → e ≤ i → i < f → i < length as' → (get_or as' i no_arc).edge.source ≡ here → ⊥)
      → chosen l here xs vs e (drop e as') k ≡ x → chosen l here xs vs f (drop f as') k ≡ x
  chosen_skip as' e f k x h n i =
      let q : e + (f - e) ≡ f = omega arith in
      subst (λ g. chosen l here xs vs g (drop g as') k ≡ x) q (chosen_over as' (f - e) e k x (λ j a b. n j a (omega arith)) i)

  -- ## The edge taken is an edge

  abbrev Below : ℕ → Option Pick → Type 0
  Below n none = Unit {0}
  Below n (some p) = p.edge < n

  considered_below : (n e : ℕ) (a : Arc) (k : Option Pick) → e < n → Below n k → Below n (considered l here xs vs e a k)
  considered_below n e a k h b = go (eligible l here xs vs a) k b
    where
      pick : (t : Bool) (q : Pick) → q.edge < n → Below n (cond t (some (window_of l e a xs)) (some q))
      pick true q j = h
      pick false q j = j

      go : (t : Bool) (k : Option Pick) → Below n k → Below n (cond t (better k (window_of l e a xs)) k)
      go true none j = h
      go true (some q) j = pick (ltb (window_of l e a xs).ready q.ready) q j
      go false none j = j
      go false (some q) j = j

  chosen_below : (n : ℕ) (as' : List Arc) (e : ℕ) (k : Option Pick) → e + length as' ≤ n → Below n k → Below n (chosen l here xs vs e as' k)
  unfolding chosen
  chosen_below n [] e k h b = b
  chosen_below n (a ∷ as') e k h b = chosen_below n as' (suc e) (considered l here xs vs e a k) (omega arith) (considered_below n e a k (omega arith) b)

-- the edge taken has a number
pub choice_edge : (C : Component) (at : Entry) (p : Pick) → choice C at ≡ some p → p.edge < length C.arcs
unfolding choice
choice_edge C at p e =
    let l = location_of C at.location in
    subst (Below l at.location at.clocks at.values (length C.arcs)) e
    (chosen_below l at.location at.clocks at.values (length C.arcs) C.arcs 0 none (omega arith) tt)

-- the search from the first edge on
pub choice_from : (C : Component) (at : Entry) (l : Location) → l ≡ location_of C at.location
    → chosen l at.location at.clocks at.values 0 C.arcs none ≡ choice C at
unfolding choice
choice_from C at l e = rw e

-- ## The edge that the code has kept

pub record Took (bs : List ℕ) (c start : ℕ) (at : Entry) (t : Choice) : Type 0 where
  pub pick : some (pick_from t) ≡ choice (component_in bs c) at
  pub inside : t.edge < length (component_in bs c).arcs
  pub byte : t.edge < 256
  pub place : t.place ≡ arc_place bs start t.edge
  pub end : t.end ≤ 65535

pub took : (bs : List ℕ) (c start : ℕ) (at : Entry) (t : Choice) → t.ready < 65536 → pick_of t ≡ choice (component_in bs c) at
    → Kept (arc_place bs start) t → Took bs c start at t
took bs c start at t h p k =
    let q : some (pick_from t) ≡ choice (component_in bs c) at = sym (pick_some t h) ∙ p in
    let m = k h in
    record { pick = q; inside = choice_edge (component_in bs c) at (pick_from t) (sym q); byte = m.1; place = m.0; end = m.2 }

-- ## The opening

module _ (c : ℕ) (C : Component) (at : Entry) where
  pub open_none : none ≡ choice C at → refused 8 c ≡ opening c C at
  unfolding opening
  open_none e = rw (← e)

  module _ (p : Pick) (e : some p ≡ choice C at) where
    pub open_out : (found : Found (List ℤ)) → is_some found ≡ false → option_of found ≡ updated (arc_of C p.edge).updates at.values → refused 9 c ≡ opening c C at
    unfolding opening
    open_out None s u = rw (← e, ← u)
    open_out (Some vs) s u = let n : ◌≡◌ {A = ℕ} 0 1 = cc in absurd (omega arith)

    pub open_ranged : (found : Found (List ℤ)) → is_some found ≡ true → option_of found ≡ updated (arc_of C p.edge).updates at.values
        → accepted (passage_of c at p (channel_of (arc_of C p.edge))) ≡ opening c C at
    unfolding opening
    open_ranged None s u = let n : ◌≡◌ {A = ℕ} 0 1 = cc in absurd (omega arith)
    open_ranged (Some vs) s u = rw (← e, ← u)
