-- One edge is considered: when it replaces the best so far, and when not. Assumes nothing.
use mathlib.Core.Path.{◌≡◌, refl, sym, ap, subst, ◌∙◌}
use mathlib.Core.Bool.{Bool, true, false, cond, ◌&&◌}
use mathlib.Core.List.{List}
use mathlib.Core.Option.{Option, none, some}
use Prim.Native.Nat.{ℕ, suc, pred, ◌+◌, ◌-◌, max, ◌≤◌, ◌<◌}
use native.Mathlib.Omega.{arith}
use borrow.Author.Tests.{lt-ltb, le-ltb, ltb-true, ltb-false, eq-eqb, ne_eqb}
use lib.Dec.{eqb, ltb}
use lib.IntN.{ℤ}
use lib.ListN.{length}
use Rattle.model.specs.declared.Location.{Location}
use Rattle.model.specs.Lists.{or_else}
use Rattle.model.specs.Table.{Arc}
use Rattle.model.specs.Window.{Entry, Pick, ready_of, past_of, data_holds, first_failing, meets_budget, long_enough, window_of, better, considered}
use Rattle.model.proofs.Basics.Bools.{and_is}
use Rattle.model.proofs.Window.Interval.{fails_there, fails_none}
use Rattle.window.specs.declared.Choice.{Choice}
use Rattle.window.specs.declared.Standing.{Standing}
use Rattle.window.specs.declared.Standing.TheVariants.{Elsewhere, Blocked, Windowless, Candidate}
use Rattle.window.specs.Views.{pick_of, better_of, standing_of, SmallDelays, Kept}

-- ## A window's length

-- no budget is a budget of 0, which a window of at least one tick's length has
budget_of : (o : Option ℕ) (r p : ℕ) → ltb (suc r) p && ltb (r + or_else o 0) p ≡ ltb (suc r) p && meets_budget o r p
budget_of none r p = go (ltb (suc r) p) refl
  where
    go : (t : Bool) → ltb (suc r) p ≡ t → t && ltb (r + 0) p ≡ t && true
    go true e = lt-ltb (r + 0) p (omega (arith, ltb-true (suc r) p e))
    go false e = refl
budget_of (some b) r p = refl

-- the code makes the two tests at once
pub by_least : (r p k : ℕ) → ltb (r + max 1 k) p ≡ ltb (suc r) p && ltb (r + k) p
by_least r p k = go (ltb (suc r) p) (ltb (r + k) p) refl refl
  where
    go : (s t : Bool) → ltb (suc r) p ≡ s → ltb (r + k) p ≡ t → ltb (r + max 1 k) p ≡ s && t
    go true true e f = lt-ltb (r + max 1 k) p (omega (arith, ltb-true (suc r) p e, ltb-true (r + k) p f))
    go true false e f = le-ltb (r + max 1 k) p (omega (arith, ltb-false (r + k) p f))
    go false t e f = le-ltb (r + max 1 k) p (omega (arith, ltb-false (suc r) p e))

-- the two tests
pub long_by : (l : Location) (a : Arc) (xs : List ℕ) (r p k : ℕ) → r ≡ ready_of a.clock_guards xs → p ≡ past_of l a.clock_guards xs → k ≡ or_else a.budget 0
    → ltb (suc r) p && ltb (r + k) p ≡ long_enough l a xs
long_by l a xs r p k q t u = rw (q, t, u) (budget_of a.budget (ready_of a.clock_guards xs) (past_of l a.clock_guards xs))

-- of a window that is long enough the first says so
pub long_first : (r p k : ℕ) → ltb (suc r) p && ltb (r + k) p ≡ true → r + 1 < p
long_first r p k e = omega (arith, ltb-true (suc r) p ((and_is (ltb (suc r) p) (ltb (r + k) p)).0 e).0)

-- ## What an edge is

module _ (l : Location) (at : Entry) (a : Arc) where
  -- it starts elsewhere
  pub elsewhere : (a.edge.source ≡ at.location → ⊥) → Elsewhere ≡ standing_of l at a
  elsewhere h = rw (ne_eqb a.edge.source at.location h)

  module _ (here : a.edge.source ≡ at.location) where
    -- a data bound fails
    pub unheld : (j : ℕ) → j ≡ first_failing a.data_guards at.values → j < length a.data_guards → Blocked j ≡ standing_of l at a
    unheld j e h = go (data_holds a.data_guards at.values) refl
      where
        go : (d : Bool) → data_holds a.data_guards at.values ≡ d → Blocked j ≡ standing_of l at a
        go true q = absurd (omega (arith, fails_none a.data_guards at.values q))
        go false q = rw (eq-eqb a.edge.source at.location here, q, e)

    -- all hold
    pub held : (j : ℕ) → j ≡ first_failing a.data_guards at.values → length a.data_guards ≤ j → data_holds a.data_guards at.values ≡ true
    held j e h = go (data_holds a.data_guards at.values) refl
      where
        go : (d : Bool) → data_holds a.data_guards at.values ≡ d → data_holds a.data_guards at.values ≡ true
        go true q = q
        go false q = absurd (omega (arith, fails_there a.data_guards at.values q))

    module _ (holds : data_holds a.data_guards at.values ≡ true) where
      -- it has no window, or one that is too short
      pub shut : long_enough l a at.clocks ≡ false → Windowless ≡ standing_of l at a
      shut h = rw (eq-eqb a.edge.source at.location here, holds, h)

      -- it is a candidate
      pub candidate_is : (r p : ℕ) → r ≡ ready_of a.clock_guards at.clocks → p ≡ past_of l a.clock_guards at.clocks → long_enough l a at.clocks ≡ true
          → Candidate r p ≡ standing_of l at a
      candidate_is r p q t h = rw (eq-eqb a.edge.source at.location here, holds, h, q, t)

-- an edge from elsewhere does not replace the best so far
pub passed_over : (l : Location) (here : ℕ) (xs : List ℕ) (vs : List ℤ) (e : ℕ) (a : Arc) (k : Option Pick) → (a.edge.source ≡ here → ⊥)
    → k ≡ considered l here xs vs e a k
passed_over l here xs vs e a k n = rw (ne_eqb a.edge.source here n)

-- a candidate may replace it
abbrev pub by_standing : ℕ → Option Pick → Standing → Option Pick
by_standing e k Elsewhere = k
by_standing e k (Blocked j) = k
by_standing e k Windowless = k
by_standing e k (Candidate ready past) = better k (record { edge = e; ready = ready; end = pred past })

pub considered_by : (l : Location) (at : Entry) (e : ℕ) (a : Arc) (k : Option Pick)
    → by_standing e k (standing_of l at a) ≡ considered l at.location at.clocks at.values e a k
considered_by l at e a k = go (eqb a.edge.source at.location) (data_holds a.data_guards at.values) (long_enough l a at.clocks)
  where
    ready : ℕ
    ready = ready_of a.clock_guards at.clocks

    past : ℕ
    past = past_of l a.clock_guards at.clocks

    go : (s d w : Bool) → by_standing e k (cond s (cond d (cond w (Candidate ready past) Windowless) (Blocked (first_failing a.data_guards at.values))) Elsewhere)
        ≡ cond (s && (d && w)) (better k (window_of l e a at.clocks)) k
    go false d w = refl
    go true false w = refl
    go true true false = refl
    go true true true = refl

-- ## The views

abbrev pub pick_from : Choice → Pick
pick_from t = record { edge = t.edge; ready = t.ready; end = t.end }

-- a choice that has an edge, and one that has none
pub pick_some : (t : Choice) → t.ready < 65536 → pick_of t ≡ some (pick_from t)
pick_some t h = rw (lt-ltb t.ready 65536 h)

pub pick_none : (t : Choice) → 65536 ≤ t.ready → pick_of t ≡ none
pick_none t h = rw (le-ltb t.ready 65536 h)

better_pick : (best t : Choice) → t.ready < 65536 → pick_of (better_of best t) ≡ better (pick_of best) (pick_from t)
better_pick best t h = go (ltb best.ready 65536) refl
  where
    both : (s : Bool) → best.ready < 65536 → pick_of (cond s t best) ≡ cond s (some (pick_from t)) (some (pick_from best))
    both true b = pick_some t h
    both false b = pick_some best b

    go : (s : Bool) → ltb best.ready 65536 ≡ s → pick_of (better_of best t) ≡ better (pick_of best) (pick_from t)
    go true e =
        let b = ltb-true best.ready 65536 e in
        both (ltb t.ready best.ready) b ∙ ap (λ (k : Option Pick). better k (pick_from t)) (sym (pick_some best b))
    go false e =
        let b = ltb-false best.ready 65536 e in
        let q : better_of best t ≡ t = rw (lt-ltb t.ready best.ready (omega arith)) in
        ap pick_of q ∙ pick_some t h ∙ ap (λ (k : Option Pick). better k (pick_from t)) (sym (pick_none best b))

-- an edge that is ready no sooner than the best so far doesn't replace it
pub later_passed : (l : Location) (at : Entry) (e : ℕ) (a : Arc) (best : Choice) → best.ready ≤ 65535 → best.ready ≤ ready_of a.clock_guards at.clocks
    → pick_of best ≡ considered l at.location at.clocks at.values e a (pick_of best)
later_passed l at e a best s h =
    let q = pick_some best (omega (arith, s)) in
    q ∙ go (eqb a.edge.source at.location && (data_holds a.data_guards at.values && long_enough l a at.clocks)) ∙ ap (considered l at.location at.clocks at.values e a) (sym q)
  where
    go : (t : Bool) → some (pick_from best) ≡ cond t (better (some (pick_from best)) (window_of l e a at.clocks)) (some (pick_from best))
    go true = rw (le-ltb (ready_of a.clock_guards at.clocks) best.ready h)
    go false = refl

-- the place goes with the edge
pub better_kept : (f : ℕ → ℕ) (best t : Choice) → Kept f t → Kept f best → Kept f (better_of best t)
better_kept f best t k b = go (ltb t.ready best.ready)
  where
    go : (s : Bool) → Kept f (cond s t best)
    go true = k
    go false = b

-- a candidate as a choice: the better of it and the best so far, and its place
module _ (t : Choice) (e r p : ℕ) (s : Standing) (is : s ≡ Candidate r p) (small : SmallDelays s) (n : t.edge ≡ e) (d : t.end ≡ p - 1) where
  delays : SmallDelays (Candidate r p)
  delays = subst SmallDelays is small

  pub better_candidate : (best : Choice) → t.ready ≡ r → pick_of (better_of best t) ≡ by_standing e (pick_of best) s
  better_candidate best q =
      let z : t.end ≡ pred p = omega arith in
      better_pick best t (omega (arith, delays.0)) ∙ rw (is, n, q, z)

  pub kept_candidate : (f : ℕ → ℕ) → f e ≡ t.place → t.edge < 256 → Kept f t
  kept_candidate f q h = λ z. (sym q ∙ ap f (sym n), h, omega (arith, delays.1))
