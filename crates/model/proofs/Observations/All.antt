-- The observations of a run of an accepted table fit their bytes, so what the calls `run_apart` and `run` wrote is read back as them. Assumes nothing.
use mathlib.Core.Path.{◌≡◌, refl, sym, ap, subst, ◌∙◌}
use mathlib.Core.Bool.{Bool, true, false, cond}
use mathlib.Core.List.{List, [], ◌∷◌, ◌++◌, map}
use mathlib.Core.Logic.{◌⊎◌, inl, inr}
use mathlib.Core.Option.{Option, none, some}
use Prim.Native.Nat.{ℕ, ◌+◌, ◌*◌, ◌≤◌, ◌<◌}
use native.Mathlib.Omega.{arith}
use borrow.Author.Tests.{leb-true, eq-eqb}
use lib.Dec.{leb, ltb, eqb}
use lib.IntN.{ℤ, pos, negsuc}
use lib.ListN.{length, drop, length-map}
use Rattle.model.specs.declared.Verdict.TheVariants.{Accepted}
use Rattle.model.specs.Lists.{only, All, empty, more, each, Answer, accepted, refused}
use Rattle.model.specs.Table.{Component, Read, no_location, size, component_of, location_of, arc_of}
use Rattle.model.specs.Limits.{Int16}
use Rattle.model.specs.Reader.{read_table}
use Rattle.model.specs.Window.{Entry, in_range, ready_of}
use Rattle.model.specs.Schedule.{Passage, own}
use Rattle.model.specs.Checks.{accepted_schedule_at}
use Rattle.model.specs.Network.{PathPassage, Taken, Observation, observation, taken_or, observations_on, passages_on, start}
use Rattle.model.specs.Run.{setting_at, Run, run, observation_width, no_work, Written, written_bytes, with_ticks, written_in}
use Rattle.model.specs.Demand3.{TakenAs, PassAs}
use Rattle.model.specs.Apart.{Permitted, clock_on}
use Rattle.model.specs.Calls.{RunCall, spread_fine, read_at, offsets_fine, not_run, ran, run_with_at, run_call_at, run_planned_at, run_read_at, run_call}
use Rattle.model.specs.Observations.{wide, read_observation, read_observations, read_previous, ReadAs, ObservationsReadAt, ObservationsRead}
use Rattle.model.proofs.Basics.Bools.{and_is}
use Rattle.model.proofs.Basics.Words.{all_before}
use Rattle.model.proofs.Basics.Walk.{all_at, list_read}
use Rattle.model.proofs.Basics.Members.{only_is}
use Rattle.model.proofs.Window.Opening.{end_bounded}
use Rattle.model.proofs.Schedule.Own.{all_in, in_all, all_then, all_map, own_in}
use Rattle.model.proofs.Schedule.Passages.{Entered, entered}
use Rattle.model.proofs.Node.Working.{arc_in}
use Rattle.model.proofs.Network.Says.{seen}
use Rattle.model.proofs.Reader.Limits.{read_limits}
use Rattle.model.proofs.Run.Tied.{Given, given_apart, component-in}
use Rattle.model.proofs.Run.Apart.{promised_apart}
use Rattle.model.proofs.Run.CallsApart.{offsets-fine, run_together}
use Rattle.model.proofs.Run.Few.{of_nodes}
use Rattle.model.proofs.Run.FinishTicks.{with_ticks_length}
use Rattle.model.proofs.Run.Finished.{Small, noted_all}
use Rattle.model.proofs.Observations.Size.{written_long}
use Rattle.model.proofs.Observations.One.{Fits, WrittenFits, written_back, previous_back}

-- ## What a passage shows

-- in range, it fits two bytes
range_fits : (z : ℤ) → in_range z ≡ true → Int16 z
range_fits (pos n) e = omega (arith, leb-true n 32767 ((and_is true (leb n 32767)).0 e).1)
range_fits (negsuc n) e = omega (arith, leb-true n 32767 ((and_is (leb n 32767) true).0 e).0)

-- a tick that is 0 or below the horizon
small_tick : {n H : ℕ} → H ≤ 60000 → (n ≡ 0) ⊎ (n < H) → n ≤ 60000
small_tick h (inl e) = omega arith
small_tick h (inr e) = omega arith

module _ {t : Read} {S : List Passage} {offs : List ℕ} (G : Given t t.horizon S offs) where
  -- what a passage of component c shows fits its bytes
  passage_fits : (c : ℕ) → c < size t.table → (v : Passage) → Entered t.horizon c (component_of t.table c) v → Fits t.table (seen (component_of t.table c) c v)
  passage_fits c h v k =
      let C = component_of t.table c in
      let i = component-in G c h in
      let o = k.opened in
      let there : v.entry.location < length C.locations = omega (arith, o.source, (arc_in i v.edge o.there).source) in
      let bound = (all_at no_location i.locations v.entry.location there).bound in
      let early = small_tick G.limits.most_horizon k.tick in
      let ready = ready_of (arc_of C v.edge).clock_guards v.entry.clocks in
      let tick : v.entry.tick + ready ≤ 120000 = omega (arith, o.ready, o.wide, end_bounded c C v.entry o, bound, early) in
      let clocks = length-map v.entry.clocks (λ x. x + ready) ∙ k.entry.clocks in
      record {
        tick = omega (arith, tick);
        clocks = all_map (λ x. x + ready) (all_then (λ x p. omega (arith, tick)) k.entry.below);
        values = all_then range_fits k.entry.ranged;
        few_clocks = omega (arith, clocks, i.most_clocks);
        few_values = omega (arith, k.entry.values, i.variables);
        clocks_of = clocks;
        values_of = k.entry.values;
      }

  -- so do those of a component's passages
  own_fit : (c : ℕ) → c < size t.table → All (λ v. Fits t.table (seen (component_of t.table c) c v)) (own c S)
  own_fit c h = in_all (own c S) (λ v i. (let j = own_in c S i in passage_fits c h v (subst (λ n. Entered t.horizon n (component_of t.table n) v) j.1 (all_in (entered G.sched) j.0))))

-- ## What a path shows

-- the edge that counts as taken is the schedule's
edge-taken : (w : Option Taken) (v : Passage) → TakenAs w v → taken_or w v.edge ≡ v.edge
edge-taken none v h = refl
edge-taken (some w) v h = h.0

-- what holds of all that the schedule's passages show holds of all that the path's show
shown_all : (P : Observation → Type 0) (C : Component) (c last : ℕ) (ps : List PathPassage) (vs : List Passage) → PassAs ps vs → All (λ v. P (seen C c v)) vs
    → All P (observations_on C c last ps (map (λ v. v.edge) vs))
unfolding observations_on
shown_all P C c last [] vs h a = empty
shown_all P C c last (p ∷ ps) [] h a = absurd h
shown_all P C c last (p ∷ ps) (v ∷ vs) h (more q a) = go (leb o.tick last) (shown_all P C c last ps vs h.2 a)
  where
    o : Observation
    o = observation C c p.entry (taken_or p.waiting v.edge)

    same : seen C c v ≡ o
    same = ap (λ (at : Entry). observation C c at v.edge) (sym h.0) ∙ ap (observation C c p.entry) (sym (edge-taken p.waiting v h.1))

    go : (x : Bool) {os : List Observation} → All P os → All P (cond x (o ∷ os) os)
    go true b = more (subst P same q) b
    go false b = b

-- ## With their ticks

-- what holds of all observations and of all ticks
all_with : {P : Observation → Type 0} {Q : ℕ → Type 0} {R : Written → Type 0} → ((o : Observation) (f : ℕ) → P o → Q f → R (record { observation = o; previous = f }))
    → {os : List Observation} {fs : List ℕ} → All P os → All Q fs → All R (with_ticks os fs)
all_with h empty b = empty
all_with h (more p a) empty = empty
all_with h (more p a) (more q b) = more (h _ _ p q) (all_with h a b)

-- the two lists again
first_of : (os : List Observation) (fs : List ℕ) → length fs ≡ length os → map (λ (w : Written). w.observation) (with_ticks os fs) ≡ os
first_of [] fs e = refl
first_of (o ∷ os) [] e = absurd (omega arith)
first_of (o ∷ os) (f ∷ fs) e = ap (λ (l : List Observation). o ∷ l) (first_of os fs (omega arith))

second_of : (os : List Observation) (fs : List ℕ) → length fs ≡ length os → map (λ (w : Written). w.previous) (with_ticks os fs) ≡ fs
second_of [] [] e = refl
second_of [] (f ∷ fs) e = absurd (omega arith)
second_of (o ∷ os) [] e = absurd (omega arith)
second_of (o ∷ os) (f ∷ fs) e = ap (λ (l : List ℕ). f ∷ l) (second_of os fs (omega arith))

-- a tick fits four bytes
tick_fits : {H f : ℕ} → H ≤ 60000 → Small H f → f < 4294967296
tick_fits h (inl e) = omega arith
tick_fits h (inr l) = omega arith

-- ## What a run shows

module _ (G : ℕ) (bytes : List ℕ) (t : Read) (S : List Passage) (r : read_table bytes ≡ accepted t) (e : accepted_schedule_at G t ≡ accepted S) (offs : List ℕ) (p : Permitted G (size t.table) offs) (cs : List ℕ) where
  -- the observations of the run
  abbrev os : List Observation
  os = (run (setting_at t t.horizon S offs) cs).state.observations

  -- what is given
  given' : Given t t.horizon S offs
  given' = given_apart G t S offs (read_limits bytes t r) e p

  -- those of one node fit
  node_fits : (c : ℕ) → c < size t.table → All (Fits t.table) (only (λ o. eqb o.component c) os)
  node_fits c h =
      let d = promised_apart G bytes t S r e offs p cs in
      let b = d.observed c h in
      let a = shown_all (Fits t.table) (component_of t.table c) c (clock_on t t.horizon S offs cs c) (passages_on t.table c (start t.table) d.path) (own c S) (d.scheduled c h) (own_fit given' c h) in
      all_before _ b.rest (subst (All (Fits t.table)) (sym b.is) a)

  -- all of them fit
  pub fit : All (Fits t.table) os
  fit = in_all os (λ o i. all_in (node_fits o.component (all_in (of_nodes given' cs) i)) ((only_is (λ (x : Observation). eqb x.component o.component) os).1 (i, eq-eqb o.component o.component refl)))

  -- the ticks in them
  abbrev fs : List ℕ
  fs = (run (setting_at t t.horizon S offs) cs).state.previous

  as_many : length fs ≡ length os
  as_many = (noted_all given' cs).each

  -- all that is written fits
  written_fits : All (WrittenFits t.table) (with_ticks os fs)
  written_fits = all_with (λ o f p q. record { observation = p; previous = tick_fits given'.limits.most_horizon q }) fit (noted_all given' cs).small

  -- their bytes are read back
  pub read_back : (rest : List ℕ) → ReadAs t.table (length os) (each written_bytes (with_ticks os fs) ++ rest) (run (setting_at t t.horizon S offs) cs).state
  read_back rest = (
    subst (λ (n : ℕ). read_observations t.table n (each written_bytes (with_ticks os fs) ++ rest) ≡ os) (with_ticks_length os fs as_many)
        (list_read written_bytes observation_width written_long (read_observation t.table) (λ (w : Written). w.observation) (WrittenFits t.table) (written_back t.table) written_fits rest ∙ first_of os fs as_many),
    subst (λ (n : ℕ). read_previous n (each written_bytes (with_ticks os fs) ++ rest) ≡ fs) (with_ticks_length os fs as_many)
        (list_read written_bytes observation_width written_long (λ b. wide (drop 32 b)) (λ (w : Written). w.previous) (WrittenFits t.table) (previous_back t.table) written_fits rest ∙ second_of os fs as_many),
  )

-- the call `run_apart`: what it wrote is read back
pub observations_read_at : (G : ℕ) (table offs choices lent : List ℕ) → ObservationsReadAt G table offs choices lent
unfolding run_call_at
observations_read_at G table offs choices lent t S r e = subst Back (sym same) (by_spread (ltb 1000 G))
  where
    shown : Run
    shown = (run (setting_at t t.horizon S offs) choices).state

    -- of this answer
    Back : RunCall → Type 0
    Back c = c.verdict ≡ Accepted → ReadAs t.table c.size c.lent shown

    same : run_call_at G table offs choices lent ≡ run_read_at G (cond (ltb 1000 G) (refused 19 255) (accepted t)) offs choices lent
    same = ap (λ (x : Answer Read). run_read_at G (spread_fine G x) offs choices lent) r

    go : (x y z : Bool) → offsets_fine G (size t.table) offs ≡ z
        → Back
        (cond x (not_run 13 255 lent)
        (cond y (not_run 14 255 lent) (cond z (ran (run (setting_at t t.horizon S offs) choices) lent) (not_run 20 255 lent))))
    go true y z q v = absurd (let w : ◌≡◌ {A = ℕ} 0 1 = cc in omega arith)
    go false true z q v = absurd (let w : ◌≡◌ {A = ℕ} 0 1 = cc in omega arith)
    go false false false q v = absurd (let w : ◌≡◌ {A = ℕ} 0 1 = cc in omega arith)
    go false false true q v =
        read_back G table t S r e offs ((offsets-fine G (size t.table) offs).0 q) choices (drop (length (each written_bytes (written_in shown))) lent)

    by_plan : Back (run_planned_at G t (accepted_schedule_at G t) offs choices lent)
    by_plan =
        subst Back (sym (ap (λ (x : Answer (List Passage)). run_planned_at G t x offs choices lent) e))
        (go (ltb (length lent) (length S * observation_width)) (ltb 1000000 (length choices)) (offsets_fine G (size t.table) offs) refl)

    by_spread : (w : Bool) → Back (run_read_at G (cond w (refused 19 255) (accepted t)) offs choices lent)
    by_spread true v = absurd (let w : ◌≡◌ {A = ℕ} 0 1 = cc in omega arith)
    by_spread false v = by_plan v

-- the call `run`, with neither
pub observations_read : (table choices lent : List ℕ) → ObservationsRead table choices lent
observations_read table choices lent t S r e =
    subst (λ (c : RunCall). c.verdict ≡ Accepted → ReadAs t.table c.size c.lent (run (setting_at t t.horizon S []) choices).state)
    (run_together table choices lent) (observations_read_at 0 table [] choices lent t S r e)
