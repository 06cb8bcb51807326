-- A path of the network is realised by some choices exactly if it keeps to the schedule and lies below the horizon: the other direction of
-- `realised`. Assumes nothing.
use mathlib.Core.Path.{◌≡◌, refl, sym, ap, subst, ◌∙◌}
use mathlib.Core.Logic.{◌⊎◌, inl, inr}
use mathlib.Core.Bool.{Bool, true, false, cond}
use mathlib.Core.List.{List, [], ◌∷◌, ◌++◌, append-nil, append_assoc}
use mathlib.Core.Option.{Option, none, some}
use Prim.Native.Nat.{ℕ, ◌+◌, ◌≤◌, ◌<◌}
use native.Mathlib.Omega.{arith}
use borrow.Author.Tests.{eqb-true}
use lib.Dec.{eqb}
use lib.ListN.{length, length-append, get_or-map}
use lib.Seq.{append_snoc}
use Rattle.model.specs.Lists.{◌∈◌, here, there, accepted}
use Rattle.model.specs.Table.{Table, Read, no_component, size, component_of}
use Rattle.model.specs.Schedule.{Passage, own}
use Rattle.model.specs.Network.{State, PathPassage, Taken, Label, tick, step_in, together, step_out, passage_in, start_passage, start, left_by, step, onward, follow, passages_on, works_on}
use Rattle.model.specs.NetworkRules.{Step, leaves_it}
use Rattle.model.specs.Run.{Run, Result, Setting, setting_at, start_run, run_from, run, ends}
use Rattle.model.specs.Demand3.{PassAs, IsStepped, SteppedBefore, observations_of}
use Rattle.model.specs.Progress.{OnSchedule}
use Rattle.model.proofs.Basics.Members.{in_append, not_in, alone}
use Rattle.model.proofs.Network.Links.{Linked, schedule_linked}
use Rattle.model.proofs.Network.Rules.{step_is}
use Rattle.model.proofs.Network.Says.{same_rest}
use Rattle.model.proofs.Network.Ways.{left_on, follow_append}
use Rattle.model.proofs.Reader.Limits.{read_limits}
use Rattle.model.proofs.Run.Tied.{Given, given, Tied, shown_by, offset_is}
use Rattle.model.proofs.Run.Tick.{Live}
use Rattle.model.proofs.Progress.Count.{start_live}
use Rattle.model.proofs.Meaning.Path.{sound_start, start_free, Along, over, then, along}
use Rattle.model.proofs.Meaning.Pass.{passages_are, Split, split}
use Rattle.realised.specs.Realised.{shown_on, RealisesBy, Only, Exactly}
use Rattle.realised.proofs.Count.{works_of, works_own, comes_counted, stepped, waits_in, along_counted}
use Rattle.realised.proofs.Chosen.{chosen_runs}
use Rattle.realised.proofs.Places.{comes_last}
use Rattle.realised.proofs.Passes.{passes_on}
use Rattle.realised.proofs.Law.{carried, realised}

-- one step more
led_on : (T : Table) (s : State) (ls : List Label) (l : Label) {p u : State} → follow T s ls ≡ some p → step T p l ≡ some u → follow T s (ls ++ (l ∷ [])) ≡ some u
unfolding follow
led_on T s ls l e q = follow_append T s ls (l ∷ []) e ∙ ap (λ (o : Option State). onward o (λ v. some v) none) q

-- ## Places left

-- a component leaves a place only when it waits there
left_stepped : {T : Table} {s u : State} {ls : List Label} → Along T s ls u → (c : ℕ) (x : PathPassage) → x ∈ left_on T c s ls → IsStepped x.waiting
unfolding left_on
left_stepped over c x m = absurd (not_in m)
left_stepped {T} {s} {u} (then {t = t} {l = l} {ls = ls} q a) c x m =
    go ((in_append (left_by s c l) (left_on T c t ls)).0 (subst (λ (o : Option State). x ∈ (left_by s c l ++ onward o (λ v. left_on T c v ls) [])) q m)) (left_stepped a c x)
  where
    out : (l : Label) (w : State) → Step T s l w → x ∈ left_by s c l → IsStepped x.waiting
    out tick w k m = absurd (not_in m)
    out (step_in d e) w k m = absurd (not_in m)
    out (together d e b f) w k m = absurd (not_in m)
    out (step_out d) w (leaves_it {w = o} i k b) m = by (eqb d c) refl m
      where
        by : (y : Bool) → eqb d c ≡ y → x ∈ cond y (passage_in s c ∷ []) [] → IsStepped x.waiting
        by true r m =
            let e : x ≡ passage_in s d = alone m ∙ ap (passage_in s) (sym (eqb-true d c r)) in
            subst IsStepped (sym (ap (λ (y : PathPassage). y.waiting) e ∙ k)) tt
        by false r m = absurd (not_in m)

    go : (x ∈ left_by s c l) ⊎ (x ∈ left_on T c t ls) → (x ∈ left_on T c t ls → IsStepped x.waiting) → IsStepped x.waiting
    go (inl i) ih = out l t ((step_is T s l t).0 q) i
    go (inr i) ih = ih i

-- nothing after ends before
not-before : (t : ℕ) (vs : List Passage) → ((x : Passage) → x ∈ vs → t ≤ x.end) → SteppedBefore t [] vs
not-before t [] f = tt
not-before t (v ∷ vs) f = (f v (here refl), not-before t vs (λ x m. f x (there m)))

-- no window is missed
stepped_all : (t : ℕ) (left : List PathPassage) (q : PathPassage) (past : List Passage) (v : Passage) (vs : List Passage) → length past ≡ length left → ((x : PathPassage) → x ∈ left → IsStepped x.waiting)
    → (v.end < t → IsStepped q.waiting) → SteppedBefore t [] vs → SteppedBefore t (left ++ (q ∷ [])) (past ++ (v ∷ vs))
stepped_all t [] q [] v vs n f k r = (k, r)
stepped_all t [] q (w ∷ past) v vs n f k r = absurd (omega arith)
stepped_all t (x ∷ left) q [] v vs n f k r = absurd (omega arith)
stepped_all t (x ∷ left) q (w ∷ past) v vs n f k r = (λ i. f x (here refl), stepped_all t left q past v vs (omega arith) (λ y m. f y (there m)) k r)

module _ {t : Read} {H : ℕ} {S : List Passage} (G : Given t H S []) where
  abbrev T : Table
  T = t.table

  abbrev g : Setting
  g = setting_at t H S []

  -- this path passes as the schedule says
  abbrev Passed : List Label → Type 0
  Passed ls = (c : ℕ) → c < size T → PassAs (passages_on T c (start T) ls) (own c S)

  -- ## No window is missed

  -- in a state of a run with the path's tick and works, where the path passes as the schedule says
  module _ {R : Run} (tied : Tied G R) (path : List Label) (s : State) (valid : follow T (start T) path ≡ some s)
      (tick_is : R.tick ≡ s.tick) (works_are : R.works ≡ works_on T (start T) path)
      (all_passed : Passed path) (c : ℕ) (h : c < size T) where
    abbrev left : List PathPassage
    left = left_on T c (start T) path

    abbrev ahead : List Passage
    ahead = tied.ahead c

    are : passages_on T c (start T) path ≡ left ++ (passage_in s c ∷ [])
    are = passages_are T c (start T) path valid

    at : Split left (passage_in s c) (own c S)
    at = split left (passage_in s c) (own c S) (subst (λ (ps : List PathPassage). PassAs ps (own c S)) are (all_passed c h))

    -- so many works of it are finished
    finished : (xs : List Passage) × (own c S ≡ xs ++ ahead) × (length xs ≡ length left + waits_in s c)
    finished =
        let r = comes_last tied.came c h in (
          r.0,
          r.1,
          omega (
            arith,
            ap length r.1,
            length-append r.0 ahead,
            comes_counted tied.came c h,
            works_own g c R.works,
            ap (works_of c) works_are,
            along_counted (sound_start T) (along T (start T) path s valid) c h,
            ap stepped (start_free T c h),
          ),
        )

    -- what is ahead ends now or later
    ahead_later : (x : Passage) → x ∈ ahead → s.tick ≤ x.end
    ahead_later x m = omega (arith, tied.along.before c h x m, offset_is t H S [] c h, tick_is)

    -- where it is free
    free_ahead : waits_in s c ≡ 0 → ahead ≡ at.now ∷ at.next
    free_ahead w = let f = finished in same_rest f.0 ahead at.past (at.now ∷ at.next) (sym f.1 ∙ at.is) (omega (arith, f.2, at.count))

    -- where it waits
    waits_ahead : waits_in s c ≡ 1 → ahead ≡ at.next
    waits_ahead w =
        let f = finished in
        same_rest f.0 ahead (at.past ++ (at.now ∷ [])) at.next (sym f.1 ∙ (at.is ∙ sym (append_snoc at.past at.now at.next)))
        (omega (arith, f.2, at.count, length-append at.past (at.now ∷ [])))

    pub kept_one : SteppedBefore s.tick (passages_on T c (start T) path) (own c S)
    kept_one =
        subst (λ (ps : List PathPassage). SteppedBefore s.tick ps (own c S)) (sym are)
        (subst (SteppedBefore s.tick (left ++ (passage_in s c ∷ []))) (sym at.is) (go (passage_in s c).waiting refl))
      where
        all_left : (x : PathPassage) → x ∈ left_on T c (start T) path → IsStepped x.waiting
        all_left x m = left_stepped (along T (start T) path s valid) c x m

        Kept : Type 0
        Kept = SteppedBefore s.tick (left_on T c (start T) path ++ (passage_in s c ∷ [])) (at.past ++ (at.now ∷ at.next))

        go : (o : Option Taken) → (passage_in s c).waiting ≡ o → Kept
        go none e =
            let a = free_ahead (ap stepped e) in
            stepped_all s.tick (left_on T c (start T) path) (passage_in s c) at.past at.now at.next at.count all_left
            (λ i. absurd (omega (arith, i, ahead_later at.now (subst (λ (l : List Passage). at.now ∈ l) (sym a) (here refl)))))
            (not-before s.tick at.next (λ x m. ahead_later x (subst (λ (l : List Passage). x ∈ l) (sym a) (there m))))
        go (some w) e =
            let a = waits_ahead (ap stepped e) in
            stepped_all s.tick (left_on T c (start T) path) (passage_in s c) at.past at.now at.next at.count all_left
            (λ i. subst IsStepped (sym e) tt)
            (not-before s.tick at.next (λ x m. ahead_later x (subst (λ (l : List Passage). x ∈ l) (sym a) m)))

  -- ## A path that a run has below the horizon

  module _ {R : Run} (live : Live G R) (path : List Label) (s : State) (valid : follow T (start T) path ≡ some s)
      (tick_is : R.tick ≡ s.tick) (works_are : R.works ≡ works_on T (start T) path)
      (shown_are : (c : ℕ) → c < size T → shown_by c R.observations ≡ shown_on t S path s.tick c) where
    below : s.tick < H
    below = omega (arith, live.below, tick_is)

    -- the start does
    start_passed : Passed []
    unfolding passages_on
    start_passed c h =
        let L : Linked T H S c = schedule_linked G.most T H S G.sched c h in
        let e : passage_in (start T) c ≡ start_passage (component_of T c) = get_or-map start_passage T.components c no_component in
        subst (PassAs (passage_in (start T) c ∷ [])) (sym L.is)
        (subst (λ (x : PathPassage). PassAs (x ∷ []) (L.head ∷ L.tail)) (sym e) (sym L.starts, tt, tt))

    -- step by step
    walk : {p : State} {ls : List Label} → Along T p ls s → (done : List Label) → follow T (start T) done ≡ some p → Passed done → path ≡ done ++ ls → Passed path
    walk over done led passed whole = subst Passed (sym (whole ∙ append-nil done)) passed
    walk {p} (then {t = u} {l = l} {ls = ls} q a) done led passed whole =
        walk a (done ++ (l ∷ [])) (led_on T (start T) done l led q) (passes_on G live path s valid tick_is works_are shown_are done p led passed l u q ls whole below) (whole ∙ sym (append_assoc done (l ∷ []) ls))

    -- the whole path does
    all_passed : Passed path
    unfolding follow
    all_passed = walk (along T (start T) path s valid) [] refl start_passed refl

    -- so the path keeps to the schedule
    pub keeps : OnSchedule T S path s × (s.tick < H)
    keeps = (record { valid = valid; scheduled = all_passed; kept = kept_one live.tied path s valid tick_is works_are all_passed }, below)

-- ## The law

-- of choices that realise the path
realises_only : {t : Read} {H : ℕ} {S : List Passage} (G : Given t H S []) (path : List Label) (s : State) → follow t.table (start t.table) path ≡ some s → (cs : List ℕ)
    → RealisesBy t H S path s cs → OnSchedule t.table S path s × (s.tick < H)
unfolding run
realises_only {t} {H} {S} G path s valid cs r =
    let k = carried G cs (start_live G) r.end in
    let is : run_from (setting_at t H S []) cs (start_run (setting_at t H S [])) ≡ ends k.state 1 255 = chosen_runs k.chosen in
    keeps G k.live path s valid
    (sym (ap (λ (x : Result). x.state.tick) is) ∙ r.tick)
    (sym (ap (λ (x : Result). x.state.works) is) ∙ r.works)
    (λ c h. sym (ap (observations_of c) is) ∙ r.shown c h)

-- for every list of numbers that is read as a table and accepted
pub only : Only
only bytes t S r a path s valid cs k = realises_only (given t S (read_limits bytes t r) a) path s valid cs k

-- both ways
pub exactly : Exactly
exactly bytes t S r a path last valid = (λ h. realised bytes t S r a path last h.0 h.1, λ k. only bytes t S r a path last valid k.0 k.1)
