-- The edge taken: a candidate from there, with the least ready and then the lowest number, in its window; none is taken exactly if there
-- is none. Assumes nothing.
use mathlib.Core.Path.{◌≡◌, refl, sym, ap, subst, ◌∙◌}
use mathlib.Core.Bool.{Bool, true, false, cond}
use mathlib.Core.List.{List, [], ◌∷◌, ◌++◌, append-nil}
use mathlib.Core.Option.{Option, none, some}
use mathlib.Core.Logic.{◌↔◌, by_cases}
use Prim.Native.Nat.{ℕ, suc, pred, ◌≤◌, ◌<◌}
use native.Mathlib.Omega.{arith}
use native.Mathlib.Decide.{ℕ_discrete}
use borrow.Author.Tests.{ltb-true, ltb-false, eqb-true}
use lib.Dec.{ltb, eqb}
use lib.ListN.{length, get_or, length-append}
use lib.Seq.{append_snoc, get_or_at}
use Rattle.model.specs.Lists.{snoc}
use Rattle.model.specs.Table.{Arc, Component, no_arc, location_of, arc_of}
use Rattle.model.specs.Window.{Entry, Pick, ready_of, past_of, data_holds, meets_budget, long_enough, candidate, considered, chosen, choice}
pub use Rattle.model.specs.Window.{may_take, window_at, TakenEdge}
use Rattle.model.proofs.Basics.Bools.{clash, and_is}

-- what is chosen at the entry: the edge is there, it leaves from the location, its data bounds hold, and the window is the one of its bounds
pub record Picked (C : Component) (at : Entry) (p : Pick) : Type 0 where
  pub present : p.edge < length C.arcs
  pub source : (arc_of C p.edge).edge.source ≡ at.location
  pub holds : data_holds (arc_of C p.edge).data_guards at.values ≡ true
  pub ready : p.ready ≡ ready_of (arc_of C p.edge).clock_guards at.clocks
  pub past : past_of (location_of C at.location) (arc_of C p.edge).clock_guards at.clocks ≡ suc p.end
  pub window : p.ready < p.end

module _ (C : Component) (at : Entry) where
  -- what is known of the best of the first n
  Best : ℕ → Option Pick → Type 0
  Best n none = (e : ℕ) → e < n → may_take C at e ≡ false
  Best n (some p) = TakenEdge n C at p

  -- the edge is the first candidate
  first : (n : ℕ) → Best n none → may_take C at n ≡ true → TakenEdge (suc n) C at (window_at C at n)
  unfolding Best
  first n b t =
      record {
        there = omega arith;
        candidate = t;
        window = refl;
        least = λ e h c. by_cases (ℕ_discrete e n) (λ q. rw q (omega arith)) (λ q. clash (sym (b e (omega arith)) ∙ c));
        lowest = λ e h c r. by_cases (ℕ_discrete e n) (λ q. omega arith) (λ q. clash (sym (b e (omega arith)) ∙ c));
      }

  module _ (n : ℕ) (p : Pick) (b : TakenEdge n C at p) where
    -- the edge is no candidate
    passed : may_take C at n ≡ false → TakenEdge (suc n) C at p
    passed t =
        record {
          there = omega (arith, b.there);
          candidate = b.candidate;
          window = b.window;
          least = λ e h c. by_cases (ℕ_discrete e n) (λ q. clash (sym t ∙ subst (λ k. may_take C at k ≡ true) q c)) (λ q. b.least e (omega arith) c);
          lowest = λ e h c r. by_cases (ℕ_discrete e n) (λ q. omega (arith, b.there)) (λ q. b.lowest e (omega arith) c r);
        }

    -- the edge is a candidate, and not sooner ready
    kept : p.ready ≤ (window_at C at n).ready → TakenEdge (suc n) C at p
    kept t =
        record {
          there = omega (arith, b.there);
          candidate = b.candidate;
          window = b.window;
          least = λ e h c. by_cases (ℕ_discrete e n) (λ q. rw q t) (λ q. b.least e (omega arith) c);
          lowest = λ e h c r. by_cases (ℕ_discrete e n) (λ q. omega (arith, b.there)) (λ q. b.lowest e (omega arith) c r);
        }

    -- the edge is a candidate, and sooner ready
    replaced : may_take C at n ≡ true → (window_at C at n).ready < p.ready → TakenEdge (suc n) C at (window_at C at n)
    replaced t s =
        record {
          there = omega arith;
          candidate = t;
          window = refl;
          least = λ e h c. by_cases (ℕ_discrete e n) (λ q. rw q (omega arith)) (λ q. omega (arith, b.least e (omega arith) c));
          lowest = λ e h c r. by_cases (ℕ_discrete e n) (λ q. omega arith) (λ q. absurd (omega (arith, b.least e (omega arith) c)));
        }

  -- one more edge is considered
  step : (n : ℕ) (k : Option Pick) → Best n k
      → Best (suc n) (considered (location_of C at.location) at.location at.clocks at.values n (arc_of C n) k)
  unfolding Best
  step n none b = go (may_take C at n) refl
    where
      go : (t : Bool) → may_take C at n ≡ t → Best (suc n) (cond t (some (window_at C at n)) none)
      go true t = first n b t
      go false t = λ e h. by_cases (ℕ_discrete e n) (λ q. rw q t) (λ q. b e (omega arith))
  step n (some p) b = go (may_take C at n) refl (ltb (window_at C at n).ready p.ready) refl
    where
      go : (t : Bool) → may_take C at n ≡ t → (u : Bool) → ltb (window_at C at n).ready p.ready ≡ u
          → Best (suc n) (cond t (cond u (some (window_at C at n)) (some p)) (some p))
      go true t true u = replaced n p b t (ltb-true (window_at C at n).ready p.ready u)
      go true t false u = kept n p b (ltb-false (window_at C at n).ready p.ready u)
      go false t u e = passed n p b t

  -- all further edges are considered
  steps : (n : ℕ) (P as' : List Arc) (k : Option Pick) → C.arcs ≡ P ++ as' → length P ≡ n → Best n k
      → Best (length C.arcs) (chosen (location_of C at.location) at.location at.clocks at.values n as' k)
  unfolding chosen
  steps n P [] k sp lp b = subst (λ m. Best m k) (sym (ap length (sp ∙ append-nil P) ∙ lp)) b
  steps n P (a ∷ as') k sp lp b =
      let is : arc_of C n ≡ a = ap (λ xs. get_or xs n no_arc) sp ∙ get_or_at P a as' no_arc n lp in
      let now = subst (λ x. Best (suc n) (considered (location_of C at.location) at.location at.clocks at.values n x k)) is (step n k b) in
      steps (suc n) (snoc P a) as' (considered (location_of C at.location) at.location at.clocks at.values n a k)
      (sp ∙ sym (append_snoc P a as')) (omega (arith, length-append P (a ∷ []))) now

  -- what is known of the choice
  best : Best (length C.arcs) (choice C at)
  unfolding Best choice
  best = steps 0 [] C.arcs none refl refl (λ e h. absurd (omega arith))

  -- the pick is the window of the edge taken
  pub choice_taken : {p : Pick} → choice C at ≡ some p → TakenEdge (length C.arcs) C at p
  unfolding Best
  choice_taken e = subst (Best (length C.arcs)) e best

  -- no edge is taken exactly if none is a candidate
  pub choice_none : (choice C at ≡ none) ↔ ((e : ℕ) → e < length C.arcs → may_take C at e ≡ false)
  unfolding Best
  choice_none = (λ e. subst (Best (length C.arcs)) e best, go (choice C at) refl best)
    where
      go : (k : Option Pick) → choice C at ≡ k → Best (length C.arcs) k → ((e : ℕ) → e < length C.arcs → may_take C at e ≡ false) → choice C at ≡ none
      go none q b f = q
      go (some p) q b f = clash (sym (f p.edge b.there) ∙ b.candidate)

  -- two windows of the edge taken are one
  taken_same : {p q : Pick} → TakenEdge (length C.arcs) C at p → TakenEdge (length C.arcs) C at q → p ≡ q
  taken_same {p} {q} s t =
      let a : p.ready ≤ q.ready = rw t.window (s.least q.edge t.there t.candidate) in
      let b : q.ready ≤ p.ready = rw s.window (t.least p.edge s.there s.candidate) in
      let c : p.edge ≤ q.edge = s.lowest q.edge t.there t.candidate (sym (ap (λ (x : Pick). x.ready) t.window) ∙ omega arith) in
      let d : q.edge ≤ p.edge = t.lowest p.edge s.there s.candidate (sym (ap (λ (x : Pick). x.ready) s.window) ∙ omega arith) in
      let i : p.edge ≡ q.edge = omega arith in
      s.window ∙ ap (window_at C at) i ∙ sym t.window

  -- a pick is the choice exactly if it is the window of the edge taken
  pub choice_is : {p : Pick} → (choice C at ≡ some p) ↔ TakenEdge (length C.arcs) C at p
  choice_is {p} = (choice_taken, go (choice C at) refl)
    where
      go : (k : Option Pick) → choice C at ≡ k → TakenEdge (length C.arcs) C at p → choice C at ≡ some p
      go none q t = clash (sym (choice_none.0 q p.edge t.there) ∙ t.candidate)
      go (some r) q t = q ∙ ap some (taken_same (choice_taken q) t)

  -- the choice, taken apart
  pub choice_picked : {p : Pick} → choice C at ≡ some p → Picked C at p
  choice_picked {p} h =
      record { present = t.there; source = eqb-true a.edge.source at.location from.0; holds = wins.0; ready = first; past = omega (arith, last, less); window = omega (arith, first, last, less) }
    where
      t : TakenEdge (length C.arcs) C at p
      t = choice_taken h

      a : Arc
      a = arc_of C p.edge

      from : (eqb a.edge.source at.location ≡ true) × (candidate (location_of C at.location) a at.clocks at.values ≡ true)
      from = (and_is (eqb a.edge.source at.location) (candidate (location_of C at.location) a at.clocks at.values)).0 t.candidate

      wins : (data_holds a.data_guards at.values ≡ true) × (long_enough (location_of C at.location) a at.clocks ≡ true)
      wins = (and_is (data_holds a.data_guards at.values) (long_enough (location_of C at.location) a at.clocks)).0 from.1

      less : suc (ready_of a.clock_guards at.clocks) < past_of (location_of C at.location) a.clock_guards at.clocks
      less = ltb-true _ _ ((and_is (ltb (suc (ready_of a.clock_guards at.clocks)) (past_of (location_of C at.location) a.clock_guards at.clocks)) (meets_budget a.budget (ready_of a.clock_guards at.clocks) (past_of (location_of C at.location) a.clock_guards at.clocks))).0 wins.1).0

      first : p.ready ≡ ready_of a.clock_guards at.clocks
      first = ap (λ (x : Pick). x.ready) t.window

      last : p.end ≡ pred (past_of (location_of C at.location) a.clock_guards at.clocks)
      last = ap (λ (x : Pick). x.end) t.window
