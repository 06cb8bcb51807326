-- Where the search for the edge stands, from one edge that leaves the location to the next: what it has found, and that it may not stop yet.
-- Assumes nothing.
use mathlib.Core.Path.{◌≡◌, refl, sym, ap, ◌∙◌}
use mathlib.Core.Bool.{Bool, true, false}
use mathlib.Core.Logic.{by_cases}
use mathlib.Core.Option.{Option, none}
use Prim.Native.Nat.{ℕ, suc, ◌+◌, ◌≤◌, ◌<◌}
use native.Mathlib.Decide.{ℕ_discrete}
use native.Mathlib.Omega.{arith}
use borrow.Author.Tests.{ltb-true, ltb-false, ne_eqb}
use lib.Dec.{eqb, ltb}
use lib.ListN.{length, drop}
use Rattle.model.specs.declared.Location.{Location}
use Rattle.model.specs.Table.{Component, location_of, arc_of}
use Rattle.model.specs.Window.{Entry, Pick, considered, chosen, choice, looked, may_take_at_once, up_to_edge, all_edges}
use Rattle.model.proofs.Window.Looked.{ready_now, considered_now, stops, looked_same}
use Rattle.window.specs.declared.Choice.{Choice}
use Rattle.window.specs.Indexed.{source_of, NextFrom}
use Rattle.window.specs.Views.{pick_of}
use Rattle.window.proofs.Considering.{pick_some, pick_none}
use Rattle.window.proofs.Choosing.{chosen_turn, chosen_done, chosen_skip, choice_from}

-- whether the best so far is ready with no delay, in the code's numbers
pub ready-now : (t : Choice) → ready_now (pick_of t) ≡ eqb t.ready 0
ready-now t = go (ltb t.ready 65536) refl
  where
    go : (s : Bool) → ltb t.ready 65536 ≡ s → ready_now (pick_of t) ≡ eqb t.ready 0
    go true e = ap ready_now (pick_some t (ltb-true t.ready 65536 e))
    go false e =
        let b = ltb-false t.ready 65536 e in
        ap ready_now (pick_none t b) ∙ sym (ne_eqb t.ready 0 (λ z. omega arith))

module _ (C : Component) (at : Entry) (l : Location) where
  -- Before edge e, with k the best so far: the edges from e on decide, k is not ready at once, and no edge before e may be taken at once.
  pub record Searching (e : ℕ) (k : Option Pick) : Type 0 where
    pub rest : chosen l at.location at.clocks at.values e (drop e C.arcs) k ≡ choice C at
    pub later : ready_now k ≡ false
    pub before : (j : ℕ) → j < e → j < length C.arcs → may_take_at_once C at j ≡ false

  -- an edge that leaves another location is not taken at once
  passed : (j : ℕ) → (source_of C j ≡ at.location → ⊥) → may_take_at_once C at j ≡ false
  passed j n = rw (ne_eqb (source_of C j) at.location n)

  module _ (is : l ≡ location_of C at.location) where
    -- the first edge that leaves the location
    pub searching_first : {f : ℕ} → NextFrom C at.location 0 f → Searching f none
    searching_first {f} n =
        record {
          rest = chosen_skip l at.location at.clocks at.values C.arcs 0 f none _ (omega arith) n.none (choice_from C at l is);
          later = refl;
          before = λ j h i. passed j (n.none j (omega arith) h i);
        }

    -- edge e, which leaves the location, is considered
    module _ (e : ℕ) (k k' : Option Pick) (s : Searching e k) (h : e < length C.arcs) (source : source_of C e ≡ at.location)
        (q : k' ≡ considered l at.location at.clocks at.values e (arc_of C e) k) where
      turned : chosen l at.location at.clocks at.values (e + 1) (drop (e + 1) C.arcs) k' ≡ choice C at
      turned = chosen_turn l at.location at.clocks at.values C.arcs e k k' _ h q s.rest

      now : ready_now k' ≡ may_take_at_once C at e
      now = ap ready_now q ∙ considered_now l at.location at.clocks at.values e (arc_of C e) k s.later ∙ rw is

      -- it may not be taken at once: on to the next one that leaves the location
      pub searching_next : {f : ℕ} → ready_now k' ≡ false → NextFrom C (source_of C e) (suc e) f → Searching f k'
      searching_next {f} wait n =
          let none_between : (j : ℕ) → e + 1 ≤ j → j < f → j < length C.arcs → source_of C j ≡ at.location → ⊥ = λ j a b c z. n.none j (omega arith) b c (z ∙ sym source) in
          record {
            rest = chosen_skip l at.location at.clocks at.values C.arcs (e + 1) f k' _ (omega (arith, n.from)) none_between turned;
            later = wait;
            before = λ j b i. by_cases (ℕ_discrete j e) (λ z. rw z (sym now ∙ wait)) (λ z. go j b i z (ltb j e) refl);
          }
        where
          go : (j : ℕ) → j < f → j < length C.arcs → (j ≡ e → ⊥) → (t : Bool) → ltb j e ≡ t → may_take_at_once C at j ≡ false
          go j b i z true u = s.before j (ltb-true j e u) i
          go j b i z false u =
              let a = ltb-false j e u in
              let m : suc e ≤ j = omega (arith, a, z) in
              passed j (λ w. n.none j m b i (w ∙ sym source))

      -- it may: the choice, and the number of edges looked at
      pub searching_stop : ready_now k' ≡ true → (k' ≡ choice C at) × (e + 1 ≡ looked C at)
      searching_stop at_once = (
        sym (stops l at.location at.clocks at.values (e + 1) (drop (e + 1) C.arcs) k' at_once) ∙ turned,
        looked_same C at (up_to_edge e h (sym now ∙ at_once) (λ j b. s.before j b (omega arith)) (omega arith)),
      )

  -- no edge is left
  pub searching_end : (e : ℕ) (k : Option Pick) → Searching e k → length C.arcs ≤ e → (k ≡ choice C at) × (length C.arcs ≡ looked C at)
  searching_end e k s h = (
    chosen_done l at.location at.clocks at.values C.arcs e k _ h s.rest,
    looked_same C at (all_edges (λ j i. s.before j (omega arith) i) refl),
  )
