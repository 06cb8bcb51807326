-- The delays at which invariant and clock bounds hold are those from ready_of up to, and without, past_of. Assumes nothing.
use mathlib.Core.Path.{◌≡◌, refl, sym, ap, subst}
use mathlib.Core.Option.{Option, none, some}
use mathlib.Core.Bool.{Bool, true, false, cond, ◌&&◌, ◌||◌, not}
use mathlib.Core.List.{List, [], ◌∷◌}
use mathlib.Core.Logic.{◌↔◌}
use Prim.Native.Nat.{ℕ, suc, pred, ◌+◌, ◌-◌, ◌≤◌, ◌<◌, min}
use native.Mathlib.Omega.{arith}
use borrow.Author.Tests.{leb-true, le-leb, ltb-true, lt-ltb}
use lib.Dec.{leb, ltb, eqb}
use lib.IntN.{ℤ}
use lib.ListN.{length}
use Rattle.model.specs.declared.Location.{Location}
use Rattle.model.specs.declared.ClockGuard.{ClockGuard}
use Rattle.model.specs.declared.DataGuard.{DataGuard}
use Rattle.model.specs.Lists.{all}
use Rattle.model.specs.Table.{Arc}
use Rattle.model.specs.Window.{clock_at, within, holds_after, IsWindow, ready_of, past_of, data_within, data_holds, first_failing, meets_budget, Spans, long_enough, candidate}
use Rattle.model.proofs.Basics.Bools.{clash, and_is}

module _ (l : Location) (xs : List ℕ) (d : ℕ) where
  -- the clock bounds hold
  abbrev guards : List ClockGuard → Bool
  guards gs = all (λ g. within g (clock_at xs g.clock + d)) gs

  -- invariant and clock bounds hold: the delay is in the interval
  inside : (gs : List ClockGuard) → leb (clock_at xs l.clock + d) l.bound ≡ true → guards gs ≡ true → (ready_of gs xs ≤ d) × (d < past_of l gs xs)
  inside [] i e = (omega arith, omega (arith, leb-true))
  inside (g ∷ gs) i e =
      let x = clock_at xs g.clock + d in
      let h = (and_is (within g x) (guards gs)).0 e in
      let w = (and_is (leb g.low x) (eqb g.high 65535 || leb x g.high)).0 h.0 in
      let ih = inside gs i h.1 in
      (omega (arith, leb-true g.low x w.0), go ih.1 (eqb g.high 65535) w.1)
    where
      go : d < past_of l gs xs → (t : Bool) → t || leb (clock_at xs g.clock + d) g.high ≡ true
          → d < cond t (past_of l gs xs) (min (suc g.high - clock_at xs g.clock) (past_of l gs xs))
      go h true p = h
      go h false p = omega (arith, leb-true (clock_at xs g.clock + d) g.high p)

  -- the delay is in the interval: invariant and clock bounds hold
  outside : (gs : List ClockGuard) → ready_of gs xs ≤ d → d < past_of l gs xs → (leb (clock_at xs l.clock + d) l.bound ≡ true) × (guards gs ≡ true)
  outside [] r p = (le-leb (clock_at xs l.clock + d) l.bound (omega arith), refl)
  outside (g ∷ gs) r p = go (outside gs (omega arith)) (eqb g.high 65535) p
    where
      low : leb g.low (clock_at xs g.clock + d) ≡ true
      low = le-leb g.low (clock_at xs g.clock + d) (omega arith)

      go : (d < past_of l gs xs → (leb (clock_at xs l.clock + d) l.bound ≡ true) × (guards gs ≡ true)) → (t : Bool)
          → d < cond t (past_of l gs xs) (min (suc g.high - clock_at xs g.clock) (past_of l gs xs))
          → (leb (clock_at xs l.clock + d) l.bound ≡ true)
          × (leb g.low (clock_at xs g.clock + d) && (t || leb (clock_at xs g.clock + d) g.high) && guards gs ≡ true)
      go ih true q = let h = ih q in (h.0, rw (low, h.1))
      go ih false q = let h = ih (omega arith) in (h.0, rw (low, le-leb (clock_at xs g.clock + d) g.high (omega arith), h.1))

  -- a delay at which they hold is in the interval
  pub holds_inside : (gs : List ClockGuard) → holds_after l gs xs d ≡ true → (ready_of gs xs ≤ d) × (d < past_of l gs xs)
  holds_inside gs e = let h = (and_is (leb (clock_at xs l.clock + d) l.bound) (guards gs)).0 e in inside gs h.0 h.1

  -- at a delay in the interval they hold
  pub inside_holds : (gs : List ClockGuard) → ready_of gs xs ≤ d → d < past_of l gs xs → holds_after l gs xs d ≡ true
  inside_holds gs r p = let h = outside gs r p in rw (h.0, h.1)

  -- before the end the invariant holds, ready or not
  pub invariant : (gs : List ClockGuard) → d < past_of l gs xs → clock_at xs l.clock + d ≤ l.bound
  invariant [] p = omega arith
  invariant (g ∷ gs) p = go (invariant gs) (eqb g.high 65535) p
    where
      go : (d < past_of l gs xs → clock_at xs l.clock + d ≤ l.bound) → (t : Bool)
          → d < cond t (past_of l gs xs) (min (suc g.high - clock_at xs g.clock) (past_of l gs xs)) → clock_at xs l.clock + d ≤ l.bound
      go ih true q = ih q
      go ih false q = ih (omega arith)

module _ (l : Location) (gs : List ClockGuard) (xs : List ℕ) where
  -- where there is a delay at which they hold, ready and end are the first and the last such delay
  pub is_window : ready_of gs xs < past_of l gs xs → IsWindow l gs xs (ready_of gs xs) (pred (past_of l gs xs))
  is_window h =
      record {
        at_ready = inside_holds l xs (ready_of gs xs) gs (omega arith) h;
        least = λ d e. (holds_inside l xs d gs e).0;
        at_end = inside_holds l xs (pred (past_of l gs xs)) gs (omega arith) (omega arith);
        last = λ d e. omega (arith, (holds_inside l xs d gs e).1);
      }

  -- where the end is not past ready, they hold at no delay
  pub no_window : past_of l gs xs ≤ ready_of gs xs → (d : ℕ) → holds_after l gs xs d ≡ true → ⊥
  no_window h d e = omega (arith, (holds_inside l xs d gs e).0, (holds_inside l xs d gs e).1)

  -- there is one window at most
  pub one_window : {r e : ℕ} → IsWindow l gs xs r e → (r ≡ ready_of gs xs) × (e ≡ pred (past_of l gs xs))
  one_window {r} {e} w =
      let h = holds_inside l xs r gs w.at_ready in
      let some' : ready_of gs xs < past_of l gs xs = omega (arith, h.0, h.1) in
      let v = is_window some' in (
        omega (arith, w.least (ready_of gs xs) v.at_ready, h.0),
        omega (arith, w.last (pred (past_of l gs xs)) v.at_end, (holds_inside l xs e gs w.at_end).1),
      )

-- a window meets the budget exactly if it spans it
pub spans_is : (o : Option ℕ) (r e : ℕ) → (meets_budget o r (suc e) ≡ true) ↔ Spans o r e
spans_is none r e = (λ h. tt, λ h. refl)
spans_is (some b) r e = (λ h. omega (arith, ltb-true (r + b) (suc e) h), λ h. lt-ltb (r + b) (suc e) (omega arith))

module _ (l : Location) (a : Arc) (xs : List ℕ) where
  -- a window is long enough exactly if it has at least one tick's length and spans the budget
  pub long_is : (long_enough l a xs ≡ true) ↔ ((r : ℕ) × (e : ℕ) × IsWindow l a.clock_guards xs r e × (r < e) × Spans a.budget r e)
  long_is = (to, from)
    where
      gs : List ClockGuard
      gs = a.clock_guards

      to : long_enough l a xs ≡ true → (r : ℕ) × (e : ℕ) × IsWindow l a.clock_guards xs r e × (r < e) × Spans a.budget r e
      to c =
          let h = (and_is (ltb (suc (ready_of a.clock_guards xs)) (past_of l a.clock_guards xs)) (meets_budget a.budget (ready_of a.clock_guards xs) (past_of l a.clock_guards xs))).0 c in
          let k : suc (ready_of a.clock_guards xs) < past_of l a.clock_guards xs = ltb-true _ _ h.0 in
          let p : past_of l a.clock_guards xs ≡ suc (pred (past_of l a.clock_guards xs)) = omega arith in
          let m : meets_budget a.budget (ready_of a.clock_guards xs) (suc (pred (past_of l a.clock_guards xs))) ≡ true = subst (λ n. meets_budget a.budget (ready_of a.clock_guards xs) n ≡ true) p h.1 in
          (ready_of a.clock_guards xs, pred (past_of l a.clock_guards xs), is_window l a.clock_guards xs (omega arith), omega arith, (spans_is a.budget (ready_of a.clock_guards xs) (pred (past_of l a.clock_guards xs))).0 m)

      from : ((r : ℕ) × (e : ℕ) × IsWindow l a.clock_guards xs r e × (r < e) × Spans a.budget r e) → long_enough l a xs ≡ true
      from h =
          let o = one_window l a.clock_guards xs h.2 in
          let p : past_of l a.clock_guards xs ≡ suc h.1 = omega (arith, o.0, o.1, h.3) in
          let m : meets_budget a.budget (ready_of a.clock_guards xs) (suc h.1) ≡ true = (spans_is a.budget (ready_of a.clock_guards xs) h.1).1 (subst (λ n. Spans a.budget n h.1) o.0 h.4) in
          rw (p, lt-ltb (suc (ready_of a.clock_guards xs)) (suc h.1) (omega (arith, o.0, h.3))) m

-- an edge is a candidate exactly if its data bounds hold and it has a window with ready < end that spans the budget
pub candidate_is : (l : Location) (a : Arc) (xs : List ℕ) (vs : List ℤ)
    → (candidate l a xs vs ≡ true)
    ↔ (data_holds a.data_guards vs ≡ true) × ((r : ℕ) × (e : ℕ) × IsWindow l a.clock_guards xs r e × (r < e) × Spans a.budget r e)
candidate_is l a xs vs = (
  λ c. let h = (and_is (data_holds a.data_guards vs) (long_enough l a xs)).0 c in (h.0, (long_is l a xs).0 h.1),
  λ h. rw h.0 ((long_is l a xs).1 h.1),
)

-- ## Data bounds

-- where the data bounds do not all hold, the first that fails is one of them
pub fails_there : (gs : List DataGuard) (vs : List ℤ) → data_holds gs vs ≡ false → first_failing gs vs < length gs
fails_there [] vs e = clash (sym e)
fails_there (g ∷ gs) vs e = go (λ f. fails_there gs vs f) (data_within g vs) e
  where
    go : (data_holds gs vs ≡ false → first_failing gs vs < length gs) → (t : Bool) → t && data_holds gs vs ≡ false
        → cond (not t) 0 (suc (first_failing gs vs)) < suc (length gs)
    go ih true f = omega (arith, ih f)
    go ih false f = omega arith

-- where they hold, none is told
pub fails_none : (gs : List DataGuard) (vs : List ℤ) → data_holds gs vs ≡ true → first_failing gs vs ≡ length gs
fails_none [] vs e = refl
fails_none (g ∷ gs) vs e =
    let h = (and_is (data_within g vs) (data_holds gs vs)).0 e in rw h.0 (ap suc (fails_none gs vs h.1))
