-- Why this edge: the passage named is there and is the only one, and each edge from its location has exactly the reason given. Assumes nothing.
use mathlib.Core.Path.{◌≡◌, refl, sym, ap, subst, ◌∙◌}
use mathlib.Core.Bool.{Bool, true, false, cond, ◌&&◌, not}
use mathlib.Core.List.{List, [], ◌∷◌}
use mathlib.Core.Option.{some}
use mathlib.Core.Logic.{◌↔◌, by_cases}
use Prim.Native.Nat.{ℕ, zero, suc, pred, ◌+◌, ◌≤◌, ◌<◌}
use native.Mathlib.Omega.{arith}
use native.Mathlib.Decide.{ℕ_discrete}
use borrow.Author.Tests.{ltb-true, ltb-false, lt-ltb, le-ltb, leb-true, le-leb, eqb-true, eqb-false, eq-eqb, ne_eqb}
use lib.Dec.{leb, ltb, eqb}
use lib.IntN.{ℤ}
use lib.ListN.{length, get_or}
use Rattle.model.specs.declared.DataGuard.{DataGuard}
use Rattle.model.specs.declared.Reason.{Reason}
use Rattle.model.specs.declared.Reason.TheVariants.{Taken, DataBound, NoWindow, ReadyLater, HigherNumber}
use Rattle.model.specs.Lists.{◌∈◌, here, there, All, empty, more, place_of, all}
use Rattle.model.specs.Table.{Arc, Component, Table, size, component_of, location_of, arc_of}
use Rattle.model.specs.Window.{Pick, IsWindow, Spans, ready_of, past_of, data_within, data_holds, first_failing, long_enough, may_take, window_at}
use Rattle.model.specs.Schedule.{Passage, own}
use Rattle.model.specs.Checks.{no_passage, passage_at}
use Rattle.model.specs.Chains.{Chain, last, link, Chained, IsSchedule}
use Rattle.model.specs.Reasons.{passes_at, passage_number, reason_of, no_bound, IsReason}
use Rattle.model.proofs.Basics.Bools.{clash, and_is}
use Rattle.model.proofs.Window.Interval.{one_window, long_is, fails_there}
use Rattle.model.proofs.Window.Choice.{choice_taken}
use Rattle.model.proofs.Window.Opening.{opened}
use Rattle.model.proofs.Basics.Members.{in_at, number-of}
use Rattle.model.proofs.Schedule.Own.{all_in, own_here, own_other, own_in, in_own}
use Rattle.model.proofs.Schedule.Passages.{Entered, opens_follows, entered}

-- ## The first of which p holds

module _ {A : Type 0} (p : A → Bool) (d : A) where
  -- where it is one of the list, p holds of it and of none before
  pub place_first : (S : List A) → place_of p S < length S → (p (get_or S (place_of p S) d) ≡ true) × ((j : ℕ) → j < place_of p S → p (get_or S j d) ≡ false)
  place_first [] h = absurd (omega arith)
  place_first (x ∷ S) h = go (λ k. place_first S k) (p x) refl h
    where
      go : (place_of p S < length S → (p (get_or S (place_of p S) d) ≡ true) × ((j : ℕ) → j < place_of p S → p (get_or S j d) ≡ false))
          → (t : Bool) → p x ≡ t → cond t 0 (suc (place_of p S)) < suc (length S)
          → (p (get_or (x ∷ S) (cond t 0 (suc (place_of p S))) d) ≡ true) × ((j : ℕ) → j < cond t 0 (suc (place_of p S)) → p (get_or (x ∷ S) j d) ≡ false)
      go ih true e k = (e, λ j l. absurd (omega arith))
      go ih false e k = let r = ih (omega arith) in (r.0, below e r.1)
        where
          below : p x ≡ false → ((j : ℕ) → j < place_of p S → p (get_or S j d) ≡ false) → (j : ℕ) → j < suc (place_of p S) → p (get_or (x ∷ S) j d) ≡ false
          below e f zero l = e
          below e f (suc j) l = f j (omega arith)

  -- it stands no later than any of which p holds
  pub place_least : (S : List A) (i : ℕ) → i < length S → p (get_or S i d) ≡ true → place_of p S ≤ i
  place_least [] i h e = absurd (omega arith)
  place_least (x ∷ S) zero h e = rw e (omega arith)
  place_least (x ∷ S) (suc i) h e = go (place_least S i (omega arith) e) (p x)
    where
      go : place_of p S ≤ i → (t : Bool) → cond t 0 (suc (place_of p S)) ≤ suc i
      go ih true = omega arith
      go ih false = omega arith

-- ## The passage

passes_is : (c t : ℕ) (v : Passage) → (passes_at c t v ≡ true) ↔ ((v.component ≡ c) × (v.entry.tick ≤ t) × (t < v.end))
passes_is c t v = (to, from)
  where
    to : passes_at c t v ≡ true → (v.component ≡ c) × (v.entry.tick ≤ t) × (t < v.end)
    to e =
        let h = (and_is (eqb v.component c) (leb v.entry.tick t && ltb t v.end)).0 e in
        let k = (and_is (leb v.entry.tick t) (ltb t v.end)).0 h.1 in
        (eqb-true v.component c h.0, leb-true v.entry.tick t k.0, ltb-true t v.end k.1)

    from : (v.component ≡ c) × (v.entry.tick ≤ t) × (t < v.end) → passes_at c t v ≡ true
    from h = rw (eq-eqb v.component c h.0, le-leb v.entry.tick t h.1, lt-ltb t v.end h.2)

module _ (H c : ℕ) (C : Component) where
  -- a chain that has begun by tick t passes it somewhere
  chain_at : {v : Passage} {ws : List Passage} (t : ℕ) → t < H → v.entry.tick ≤ t → Chain H c C v ws
      → (w : Passage) × (w ∈ (v ∷ ws)) × (w.entry.tick ≤ t) × (t < w.end)
  chain_at {v} t h e (last k) = (v, here refl, e, omega arith)
  chain_at {v} t h e (link {w = w} {ws = ws} k o l) = go (λ q. chain_at t h q l) (ltb t v.end) refl
    where
      go : (w.entry.tick ≤ t → (x : Passage) × (x ∈ (w ∷ ws)) × (x.entry.tick ≤ t) × (t < x.end)) → (b : Bool) → ltb t v.end ≡ b
          → (x : Passage) × (x ∈ (v ∷ w ∷ ws)) × (x.entry.tick ≤ t) × (t < x.end)
      go ih true q = (v, here refl, e, ltb-true t v.end q)
      go ih false q =
          let f = opens_follows H c C v w k o in
          let r = ih (omega (arith, f.tick, ltb-false t v.end q)) in
          (r.0, there r.1, r.2, r.3)

  -- all after the first are entered at its end or later
  chain_after : {v : Passage} {ws : List Passage} → Chain H c C v ws → All (λ w. v.end ≤ w.entry.tick) ws
  chain_after (last k) = empty
  chain_after {v} (link {w = w} k o l) =
      let f = opens_follows H c C v w k o in
      let q = opened c C _ o in
      more {x = w} (omega (arith, f.tick)) (later (omega (arith, f.tick, q.early, q.wide, ap (λ (x : Rattle.model.specs.Window.Entry). x.tick) q.entry)) (chain_after l))
    where
      later : {m n : ℕ} {xs : List Passage} → m ≤ n → All (λ x. n ≤ x.entry.tick) xs → All (λ x. m ≤ x.entry.tick) xs
      later h empty = empty
      later h (more {x = x} p a) = more {x = x} (omega arith) (later h a)

-- of a list, each is followed by passages entered at its end or later
data Apart : List Passage → Type 0 where
  nothing : Apart []
  then_more : {v : Passage} {vs : List Passage} → All (λ w. v.end ≤ w.entry.tick) vs → Apart vs → Apart (v ∷ vs)

chain_apart : (H c : ℕ) (C : Component) {v : Passage} {ws : List Passage} → Chain H c C v ws → Apart (v ∷ ws)
chain_apart H c C (last k) = then_more empty nothing
chain_apart H c C {v} (link {w = w} {ws = ws} k o l) = then_more {v = v} (chain_after H c C {v = v} (link {v = v} {w = w} {ws = ws} k o l)) (chain_apart H c C l)

apart_tail : {v : Passage} {vs : List Passage} → Apart (v ∷ vs) → Apart vs
apart_tail (then_more a b) = b

apart_head : {v : Passage} {vs : List Passage} → Apart (v ∷ vs) → All (λ w. v.end ≤ w.entry.tick) vs
apart_head (then_more a b) = a

-- of two passages of component c the later listed is entered at the other's end or later
apart_at : (c : ℕ) (S : List Passage) → Apart (own c S) → (i j : ℕ) → i < j → j < length S → (passage_at S i).component ≡ c → (passage_at S j).component ≡ c
    → (passage_at S i).end ≤ (passage_at S j).entry.tick
apart_at c [] a i j h k p q = absurd (omega arith)
apart_at c (v ∷ S) a i zero h k p q = absurd (omega arith)
apart_at c (v ∷ S) a zero (suc j) h k p q =
    all_in (apart_head (subst Apart (own_here c v S p) a)) (subst (λ n. passage_at S j ∈ own n S) q (in_own (in_at no_passage S j (omega arith))))
apart_at c (v ∷ S) a (suc i) (suc j) h k p q = by_cases (ℕ_discrete v.component c)
    (λ e. apart_at c S (apart_tail (subst Apart (own_here c v S e) a)) i j (omega arith) (omega arith) p q)
    (λ n. apart_at c S (subst Apart (own_other c v S n) a) i j (omega arith) (omega arith) p q)

-- the passage named: it is there, it is of the component, the tick lies in it, and it is the only one
pub record Named (S : List Passage) (c t i : ℕ) : Type 0 where
  pub there : i < length S
  pub component : (passage_at S i).component ≡ c
  pub entered : (passage_at S i).entry.tick ≤ t
  pub before : t < (passage_at S i).end
  pub alone : (j : ℕ) → j < length S → (passage_at S j).component ≡ c → (passage_at S j).entry.tick ≤ t → t < (passage_at S j).end → j ≡ i

module _ {limit : ℕ} {T : Table} {H : ℕ} {S : List Passage} (s : IsSchedule limit T H S) (c t : ℕ) (hc : c < size T) (ht : t < H) where
  -- the passages of the component do not overlap
  pub apart : (i j : ℕ) → i < j → j < length S → (passage_at S i).component ≡ c → (passage_at S j).component ≡ c → (passage_at S i).end ≤ (passage_at S j).entry.tick
  apart = let k = s.chains c hc in apart_at c S (subst Apart (sym k.is) (chain_apart H c (component_of T c) k.chain))

  -- at each tick below the horizon the component has one
  pub named : Named S c t (passage_number S c t)
  named =
      let k = s.chains c hc in
      let o = opened c (component_of T c) _ k.starts in
      let z : k.head.entry.tick ≡ 0 = ap (λ (x : Rattle.model.specs.Window.Entry). x.tick) o.entry in
      let r = chain_at H c (component_of T c) t ht (omega (arith, z)) k.chain in
      let m = own_in c S (subst (λ l. r.0 ∈ l) (sym k.is) r.1) in
      let n = number-of no_passage m.0 in
      let e : passes_at c t (passage_at S n.0) ≡ true = rw n.2 ((passes_is c t r.0).1 (m.1, r.2, r.3)) in
      let least = place_least (passes_at c t) no_passage S n.0 n.1 e in
      let f = place_first (passes_at c t) no_passage S (omega (arith, n.1)) in
      let p = (passes_is c t (passage_at S (passage_number S c t))).0 f.0 in
      record {
        there = omega (arith, n.1);
        component = p.0;
        entered = p.1;
        before = p.2;
        alone = λ j h a b d. same j h a b d (omega (arith, n.1)) p.0 p.1 p.2;
      }
    where
      same : {i : ℕ} (j : ℕ) → j < length S → (passage_at S j).component ≡ c → (passage_at S j).entry.tick ≤ t → t < (passage_at S j).end → i < length S
          → (passage_at S i).component ≡ c → (passage_at S i).entry.tick ≤ t → t < (passage_at S i).end → j ≡ i
      same {i} j h a b d h' a' b' d' = by_cases (ℕ_discrete j i) (λ e. e) (λ n. absurd (go n (ltb j i) refl))
        where
          go : (j ≡ i → ⊥) → (x : Bool) → ltb j i ≡ x → ⊥
          go n true e = omega (arith, apart j i (ltb-true j i e) h' a a')
          go n false e = let f = ltb-false j i e in omega (arith, apart i j (go2 n f) h a' a)
            where
              go2 : (j ≡ i → ⊥) → i ≤ j → i < j
              go2 n f = by_cases (ℕ_discrete i j) (λ e. absurd (n (sym e))) (λ m. omega arith)

-- ## The reasons

-- where one fails, they do not all hold
fail_all : (gs : List DataGuard) (vs : List ℤ) (j : ℕ) → j < length gs → data_within (get_or gs j no_bound) vs ≡ false → data_holds gs vs ≡ false
fail_all [] vs j h e = absurd (omega arith)
fail_all (g ∷ gs) vs zero h e = rw e
fail_all (g ∷ gs) vs (suc j) h e = go (fail_all gs vs j (omega arith) e) (data_within g vs)
  where
    go : data_holds gs vs ≡ false → (t : Bool) → t && data_holds gs vs ≡ false
    go f true = f
    go f false = refl

not_true : (b : Bool) → not b ≡ true → b ≡ false
not_true true e = clash e
not_true false e = refl

not_false : (b : Bool) → not b ≡ false → b ≡ true
not_false true e = refl
not_false false e = clash (sym e)

module _ {limit : ℕ} {T : Table} {H : ℕ} {S : List Passage} (s : IsSchedule limit T H S) (v : Passage) (listed : v ∈ S) where
  abbrev C : Component
  C = component_of T v.component

  en : Entered H v.component C v
  en = all_in (entered s) listed

  -- an edge from there that is a candidate: it is not ready before the one taken, and on a tie its number is not lower
  beaten : (e : ℕ) → e < length C.arcs → (arc_of C e).edge.source ≡ v.entry.location → data_holds (arc_of C e).data_guards v.entry.values ≡ true
      → long_enough (location_of C v.entry.location) (arc_of C e) v.entry.clocks ≡ true
      → (v.ready ≤ v.entry.tick + ready_of (arc_of C e).clock_guards v.entry.clocks)
      × (v.entry.tick + ready_of (arc_of C e).clock_guards v.entry.clocks ≡ v.ready → v.edge ≤ e)
  beaten e h from holds long =
      let o = en.opened in
      let t = choice_taken C v.entry o.taken in
      let m : may_take C v.entry e ≡ true = rw (eq-eqb (arc_of C e).edge.source v.entry.location from, holds, long) in
      let i : v.edge ≡ o.pick.edge = ap (λ (x : Passage). x.edge) o.is in
      let r : v.ready ≡ v.entry.tick + o.pick.ready = ap (λ (x : Passage). x.ready) o.is in
      (omega (arith, r, t.least e h m), λ q. omega (arith, i, t.lowest e h m (omega (arith, r, q))))

  module _ (e : ℕ) (h : e < length C.arcs) (from : (arc_of C e).edge.source ≡ v.entry.location) where
    -- the window of the edge, where it is long enough
    window : long_enough (location_of C v.entry.location) (arc_of C e) v.entry.clocks ≡ true
        → (q : ℕ) × IsWindow (location_of C v.entry.location) (arc_of C e).clock_guards v.entry.clocks (ready_of (arc_of C e).clock_guards v.entry.clocks) q
        × (ready_of (arc_of C e).clock_guards v.entry.clocks < q) × Spans (arc_of C e).budget (ready_of (arc_of C e).clock_guards v.entry.clocks) q
    window long =
        let l = location_of C v.entry.location in
        let gs = (arc_of C e).clock_guards in
        let xs = v.entry.clocks in
        let w = (long_is l (arc_of C e) xs).0 long in
        let o = (one_window l gs xs w.2).0 in
        (w.1, subst (λ n. IsWindow l gs xs n w.1) o w.2, subst (λ n. n < w.1) o w.3, subst (λ n. Spans (arc_of C e).budget n w.1) o w.4)

    -- a window longer than a tick and as long as the budget: it is long enough, and ready is its first delay
    long_of : (r q : ℕ) → IsWindow (location_of C v.entry.location) (arc_of C e).clock_guards v.entry.clocks r q → r < q → Spans (arc_of C e).budget r q
        → (long_enough (location_of C v.entry.location) (arc_of C e) v.entry.clocks ≡ true) × (r ≡ ready_of (arc_of C e).clock_guards v.entry.clocks)
    long_of r q w k z =
        let l = location_of C v.entry.location in
        let gs = (arc_of C e).clock_guards in
        let xs = v.entry.clocks in
        ((long_is l (arc_of C e) xs).1 (r, q, w, k, z), (one_window l gs xs w).0)

    -- the reason given is true
    pub reason_true : IsReason C v e (reason_of C v e)
    reason_true = go (eqb e v.edge) refl (data_holds gs vs) refl (long_enough l a xs) refl (ltb v.ready (v.entry.tick + ready_of a.clock_guards xs)) refl
      where
        a : Arc
        a = arc_of C e

        l : Rattle.model.specs.declared.Location.Location
        l = location_of C v.entry.location

        gs : List DataGuard
        gs = a.data_guards

        vs : List ℤ
        vs = v.entry.values

        xs : List ℕ
        xs = v.entry.clocks

        go : (i : Bool) → eqb e v.edge ≡ i → (b : Bool) → data_holds gs vs ≡ b → (w : Bool) → long_enough l a xs ≡ w → (z : Bool)
            → ltb v.ready (v.entry.tick + ready_of a.clock_guards xs) ≡ z
            → IsReason C v e (cond i Taken (cond (not b) (DataBound (first_failing gs vs)) (cond (b && not w) NoWindow (cond z ReadyLater HigherNumber))))
        go true i b p w q z r = eqb-true e v.edge i
        go false i false p w q z r =
            let t = fails_there gs vs p in
            let f = place_first (λ g. not (data_within g vs)) no_bound gs t in
            (eqb-false e v.edge i, t, not_true _ f.0, λ j k. not_false _ (f.1 j k))
        go false i true p false q z r =
            (eqb-false e v.edge i, p, λ x y w k z. clash (sym q ∙ (long_of x y w k z).0))
        go false i true p true q true r =
            let w = window q in (eqb-false e v.edge i, p, (ready_of a.clock_guards xs, w.0, w.1, w.2, w.3, ltb-true _ _ r))
        go false i true p true q false r =
            let w = window q in
            let n = beaten e h from p q in
            let t : v.entry.tick + ready_of a.clock_guards xs ≡ v.ready = omega (arith, n.0, ltb-false v.ready (v.entry.tick + ready_of a.clock_guards xs) r) in
            let d : e ≡ v.edge → ⊥ = eqb-false e v.edge i in
            let y : v.edge ≤ e = n.1 t in
            (by_cases (ℕ_discrete e v.edge) (λ x. absurd (d x)) (λ x. omega arith), p, (ready_of a.clock_guards xs, w.0, w.1, w.2, w.3, t))

    -- a reason that is true is the one given: so there is exactly one
    pub reason_only : (r : Reason) → IsReason C v e r → r ≡ reason_of C v e
    reason_only Taken i = rw (eq-eqb e v.edge i)
    reason_only (DataBound j) i =
        let gs = (arc_of C e).data_guards in
        let vs = v.entry.values in
        let f = fail_all gs vs j i.1 i.2 in
        let least : first_failing gs vs ≤ j = place_least (λ g. not (data_within g vs)) no_bound gs j i.1 (rw i.2) in
        let at = place_first (λ g. not (data_within g vs)) no_bound gs (fails_there gs vs f) in
        let same : j ≡ first_failing gs vs = by_cases (ℕ_discrete j (first_failing gs vs)) (λ x. x) (λ x. clash (sym (not_true _ at.0) ∙ i.3 (first_failing gs vs) (omega arith))) in
        rw (ne_eqb e v.edge i.0, f) (ap DataBound same)
    reason_only NoWindow i =
        let l = location_of C v.entry.location in
        rw (ne_eqb e v.edge i.0, i.1) (go (long_enough l (arc_of C e) v.entry.clocks) refl)
      where
        go : (w : Bool) → long_enough (location_of C v.entry.location) (arc_of C e) v.entry.clocks ≡ w
            → NoWindow ≡ cond (not w) NoWindow (cond (ltb v.ready (v.entry.tick + ready_of (arc_of C e).clock_guards v.entry.clocks)) ReadyLater HigherNumber)
        go true q = let w = window q in absurd (i.2 (ready_of (arc_of C e).clock_guards v.entry.clocks) w.0 w.1 w.2 w.3)
        go false q = refl
    reason_only ReadyLater i =
        let w = i.2 in
        let o = long_of w.0 w.1 w.2 w.3 w.4 in
        let k : v.ready < v.entry.tick + ready_of (arc_of C e).clock_guards v.entry.clocks = omega (arith, o.1, w.5) in
        rw (ne_eqb e v.edge i.0, i.1, o.0, lt-ltb v.ready (v.entry.tick + ready_of (arc_of C e).clock_guards v.entry.clocks) k)
    reason_only HigherNumber i =
        let w = i.2 in
        let o = long_of w.0 w.1 w.2 w.3 w.4 in
        let k : v.entry.tick + ready_of (arc_of C e).clock_guards v.entry.clocks ≤ v.ready = omega (arith, o.1, w.5) in
        let n : e ≡ v.edge → ⊥ = λ x. omega (arith, i.0) in
        rw (ne_eqb e v.edge n, i.1, o.0, le-ltb v.ready (v.entry.tick + ready_of (arc_of C e).clock_guards v.entry.clocks) k)
