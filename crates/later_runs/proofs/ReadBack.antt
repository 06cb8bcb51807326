-- The observations of a run to a horizon of four bytes fit their bytes, so what was written is read back as them: only what was ready by then is shown.
-- Assumes nothing.
use mathlib.Core.Path.{◌≡◌, refl, sym, ap, subst, ◌∙◌}
use mathlib.Core.Bool.{Bool, true, false, cond, ◌&&◌}
use mathlib.Core.List.{List, [], ◌∷◌, ◌++◌, map}
use mathlib.Core.Logic.{◌⊎◌, inl, inr}
use mathlib.Core.Option.{Option, none, some}
use Prim.Native.Nat.{ℕ, zero, suc, pred, ◌+◌, ◌*◌, ◌≤◌, ◌<◌}
use native.Mathlib.Omega.{arith}
use borrow.Author.Tests.{leb-true, eq-eqb, eqb-false}
use lib.Dec.{leb, ltb, eqb}
use lib.IntN.{ℤ, pos, negsuc, ◌+ℤ◌}
use lib.ListN.{length, drop, length-map}
use Rattle.model.specs.Lists.{◌∈◌, here, there, only, All, empty, more, each, is_none}
use Rattle.model.specs.Table.{Component, Read, no_location, size, component_of, arc_of}
use Rattle.model.specs.Limits.{Int16}
use Rattle.model.specs.Window.{Entry, in_range, ready_of, value_at}
use Rattle.model.specs.Schedule.{Passage, own}
use Rattle.model.specs.Network.{PathPassage, Taken, Observation, observation, taken_or, observations_on, passages_on, start}
use Rattle.model.specs.Run.{Setting, setting_at, setting_to, Run, Result, Outcome, forbidden, on, over, Stand, sleeping, sending, listening, finishing, adding, working, taking, elsewhere, nowhere, stand_of, node_of, window_end, own_tick, awake, ticked, sent, listeners, finishes, some_due, late_nodes, after_tick, choose1, continue, run_from, start_run, run, observation_width, no_work, Written, written_bytes, with_ticks}
use Rattle.model.specs.Demand3.{TakenAs, PassAs, is_late_end, reached}
use Rattle.model.specs.Apart.{clock_on}
use Rattle.model.specs.Observations.{wide, read_observation, read_observations, read_previous, ReadAs}
use Rattle.model.proofs.Basics.Bools.{and_is}
use Rattle.model.proofs.Basics.Words.{all_before}
use Rattle.model.proofs.Basics.Walk.{list_read}
use Rattle.model.proofs.Basics.Members.{only_is}
use Rattle.model.proofs.Schedule.Own.{all_in, in_all, all_then, all_map, own_in}
use Rattle.model.proofs.Schedule.Passages.{Entered, entered}
use Rattle.model.proofs.Network.Says.{seen}
use Rattle.model.proofs.Run.Tied.{Given, component-in}
use Rattle.model.proofs.Run.Apart.{demand_apart}
use Rattle.model.proofs.Run.Few.{of_nodes}
use Rattle.model.proofs.Run.FinishTicks.{with_ticks_length}
use Rattle.model.proofs.Run.Finished.{Small, noted_all}
use Rattle.model.proofs.Observations.Size.{written_long}
use Rattle.model.proofs.Observations.One.{Fits, WrittenFits, written_back, previous_back}
use Rattle.recurrence.proofs.Agree.{Before, choice_before}

-- ## No run goes past its horizon

-- an outcome's tick
abbrev tick_in : Run → Outcome → ℕ
tick_in s forbidden = s.tick
tick_in s (on t) = t.tick
tick_in s (over t e n) = t.tick

most_if : (s : Run) (H : ℕ) (b : Bool) (x y : Outcome) → tick_in s x ≤ H → tick_in s y ≤ H → tick_in s (cond b x y) ≤ H
most_if s H true x y p q = p
most_if s H false x y p q = q

module _ (g : Setting) (s : Run) (h : s.tick < g.horizon) where
  still : s.tick ≤ g.horizon
  still = omega arith

  sent_most : (c k : ℕ) (is : List ℕ) → tick_in s (sent g s c k is) ≤ g.horizon
  sent_most c k [] = still
  sent_most c k (i ∷ is) = still

  node_most : (c : ℕ) (w : Stand) → tick_in s (finishes g s c w) ≤ g.horizon
  node_most c sleeping = most_if s g.horizon (eqb (own_tick g c s.tick) (node_of s c).t) _ forbidden still still
  node_most c (sending k) = sent_most c k (listeners g s c k)
  node_most c (listening qs) = most_if s g.horizon (eqb (own_tick g c s.tick) (window_end (node_of s c))) _ forbidden still still
  node_most c finishing = still
  node_most c (adding v z) = most_if s g.horizon (in_range (value_at (node_of s c).values v +ℤ z)) _ forbidden still still
  node_most c working = still
  node_most c taking = most_if s g.horizon (is_none (node_of s c).kept) forbidden _ still still
  node_most c elsewhere = still
  node_most c nowhere = still

  tick_most : (l : List ℕ) → tick_in s (after_tick g (ticked s) l) ≤ g.horizon
  tick_most [] = most_if s g.horizon (eqb (suc s.tick) g.horizon) (over (ticked s) 0 255) (on (ticked s)) (omega arith) (omega arith)
  tick_most (c ∷ l) = omega arith

  choice_most : (b : ℕ) → tick_in s (choose1 g s b) ≤ g.horizon
  unfolding choose1
  choice_most b =
      most_if s g.horizon (eqb b 255) _ _
      (most_if s g.horizon (some_due g s.tick 0 s.nodes) forbidden _ still (tick_most (late_nodes g (suc s.tick) 0 s.nodes)))
      (most_if s g.horizon (ltb b (length s.nodes) && awake g b s.tick) _ forbidden (node_most b (stand_of (node_of s b))) still)

from_most : (g : Setting) (cs : List ℕ) (s : Run) → s.tick < g.horizon → (run_from g cs s).state.tick ≤ g.horizon
unfolding run_from
from_most g [] s h = omega arith
from_most g (b ∷ cs) s h = go (choose1 g s b) (choice_before g s h b) (choice_most g s h b) (λ t k. from_most g cs t k)
  where
    go : (o : Outcome) → Before g o → tick_in s o ≤ g.horizon → ((t : Run) → t.tick < g.horizon → (run_from g cs t).state.tick ≤ g.horizon)
        → (continue s o (λ t. run_from g cs t)).state.tick ≤ g.horizon
    go forbidden k m ih = m
    go (on t) k m ih = ih t k
    go (over t e n) k m ih = m

pub run_most : (g : Setting) (cs : List ℕ) → 0 < g.horizon → (run g cs).state.tick ≤ g.horizon
unfolding run
run_most g cs h = from_most g cs (start_run g) h

-- nor does what it has reached
reached_most : (r : Result) → reached r ≤ r.state.tick
reached_most r = go (is_late_end r)
  where
    go : (b : Bool) → cond b (pred r.state.tick) r.state.tick ≤ r.state.tick
    go true = less r.state.tick
      where
        less : (n : ℕ) → pred n ≤ n
        less zero = omega arith
        less (suc n) = omega arith
    go false = omega arith

-- ## What a passage shows

range_fits : (z : ℤ) → in_range z ≡ true → Int16 z
range_fits (pos n) e = omega (arith, leb-true n 32767 ((and_is true (leb n 32767)).0 e).1)
range_fits (negsuc n) e = omega (arith, leb-true n 32767 ((and_is (leb n 32767) true).0 e).0)

module _ {t : Read} {H : ℕ} {S : List Passage} (G : Given t H S []) (small : H ≤ 4294967295) where
  -- what a passage of component c shows fits its bytes, if it is ready by the horizon
  passage_fits : (c : ℕ) → c < size t.table → (v : Passage) → Entered H c (component_of t.table c) v → (seen (component_of t.table c) c v).tick ≤ H
      → Fits t.table (seen (component_of t.table c) c v)
  passage_fits c h v k m =
      let C = component_of t.table c in
      let i = component-in G c h in
      let ready = ready_of (arc_of C v.edge).clock_guards v.entry.clocks in
      let clocks = length-map v.entry.clocks (λ x. x + ready) ∙ k.entry.clocks in
      record {
        tick = omega (arith, m, small);
        clocks = all_map (λ x. x + ready) (all_then (λ x p. omega (arith, m, small)) k.entry.below);
        values = all_then range_fits k.entry.ranged;
        few_clocks = omega (arith, clocks, i.most_clocks);
        few_values = omega (arith, k.entry.values, i.variables);
        clocks_of = clocks;
        values_of = k.entry.values;
      }

  own_fit : (c : ℕ) → c < size t.table → (v : Passage) → v ∈ own c S → (seen (component_of t.table c) c v).tick ≤ H → Fits t.table (seen (component_of t.table c) c v)
  own_fit c h v i m = let j = own_in c S i in passage_fits c h v (subst (λ n. Entered H n (component_of t.table n) v) j.1 (all_in (entered G.sched) j.0)) m

-- ## What a path shows

edge-taken : (w : Option Taken) (v : Passage) → TakenAs w v → taken_or w v.edge ≡ v.edge
edge-taken none v h = refl
edge-taken (some w) v h = h.0

-- what holds of all that the schedule's passages show by a tick holds of all that the path's show by it
shown_by : (P : Observation → Type 0) (C : Component) (c last : ℕ) (ps : List PathPassage) (vs : List Passage) → PassAs ps vs → ((v : Passage) → v ∈ vs → (seen C c v).tick ≤ last → P (seen C c v))
    → All P (observations_on C c last ps (map (λ v. v.edge) vs))
unfolding observations_on
shown_by P C c last [] vs h a = empty
shown_by P C c last (p ∷ ps) [] h a = absurd h
shown_by P C c last (p ∷ ps) (v ∷ vs) h a = go (leb o.tick last) refl (shown_by P C c last ps vs h.2 (λ w i m. a w (there i) m))
  where
    o : Observation
    o = observation C c p.entry (taken_or p.waiting v.edge)

    same : seen C c v ≡ o
    same = ap (λ (at : Entry). observation C c at v.edge) (sym h.0) ∙ ap (observation C c p.entry) (sym (edge-taken p.waiting v h.1))

    go : (x : Bool) → leb o.tick last ≡ x → {os : List Observation} → All P os → All P (cond x (o ∷ os) os)
    go true e b = more (subst P same (a v (here refl) (omega (arith, leb-true o.tick last e, ap (λ (z : Observation). z.tick) same)))) b
    go false e b = b

-- ## With their ticks

all_with : {P : Observation → Type 0} {Q : ℕ → Type 0} {R : Written → Type 0} → ((o : Observation) (f : ℕ) → P o → Q f → R (record { observation = o; previous = f }))
    → {os : List Observation} {fs : List ℕ} → All P os → All Q fs → All R (with_ticks os fs)
all_with h empty b = empty
all_with h (more p a) empty = empty
all_with h (more p a) (more q b) = more (h _ _ p q) (all_with h a b)

first_of : (os : List Observation) (fs : List ℕ) → length fs ≡ length os → map (λ (w : Written). w.observation) (with_ticks os fs) ≡ os
first_of [] fs e = refl
first_of (o ∷ os) [] e = absurd (omega arith)
first_of (o ∷ os) (f ∷ fs) e = ap (λ (l : List Observation). o ∷ l) (first_of os fs (omega arith))

second_of : (os : List Observation) (fs : List ℕ) → length fs ≡ length os → map (λ (w : Written). w.previous) (with_ticks os fs) ≡ fs
second_of [] [] e = refl
second_of [] (f ∷ fs) e = absurd (omega arith)
second_of (o ∷ os) [] e = absurd (omega arith)
second_of (o ∷ os) (f ∷ fs) e = ap (λ (l : List ℕ). f ∷ l) (second_of os fs (omega arith))

tick_fits : {H f : ℕ} → H ≤ 4294967295 → Small H f → f < 4294967296
tick_fits h (inl e) = omega arith
tick_fits h (inr l) = omega arith

-- ## What a run shows

module _ {t : Read} {H : ℕ} {S : List Passage} (G : Given t H S []) (small : H ≤ 4294967295) (cs : List ℕ) where
  abbrev os : List Observation
  os = (run (setting_to t H S) cs).state.observations

  -- those of one node fit
  node_fits : (c : ℕ) → c < size t.table → All (Fits t.table) (only (λ o. eqb o.component c) os)
  node_fits c h =
      let d = demand_apart G cs in
      let b = d.observed c h in
      let last : clock_on t H S [] cs c ≤ H = omega (arith, reached_most (run (setting_to t H S) cs), run_most (setting_to t H S) cs (omega (arith, G.least))) in
      let a = shown_by (Fits t.table) (component_of t.table c) c (clock_on t H S [] cs c) (passages_on t.table c (start t.table) d.path) (own c S) (d.scheduled c h) (λ v i m. own_fit G small c h v i (omega (arith, m, last))) in
      all_before _ b.rest (subst (All (Fits t.table)) (sym b.is) a)

  fit : All (Fits t.table) os
  fit = in_all os (λ o i. all_in (node_fits o.component (all_in (of_nodes G cs) i)) ((only_is (λ (x : Observation). eqb x.component o.component) os).1 (i, eq-eqb o.component o.component refl)))

  abbrev fs : List ℕ
  fs = (run (setting_to t H S) cs).state.previous

  as_many : length fs ≡ length os
  as_many = (noted_all G cs).each

  written_fits : All (WrittenFits t.table) (with_ticks os fs)
  written_fits = all_with (λ o f p q. record { observation = p; previous = tick_fits small q }) fit (noted_all G cs).small

  -- The law: their bytes are read back.
  pub read_back : (rest : List ℕ) → ReadAs t.table (length (run (setting_to t H S) cs).state.observations) (each written_bytes (with_ticks (run (setting_to t H S) cs).state.observations (run (setting_to t H S) cs).state.previous) ++ rest) (run (setting_to t H S) cs).state
  read_back rest = (
    subst (λ (n : ℕ). read_observations t.table n (each written_bytes (with_ticks os fs) ++ rest) ≡ os) (with_ticks_length os fs as_many)
        (list_read written_bytes observation_width written_long (read_observation t.table) (λ (w : Written). w.observation) (WrittenFits t.table) (written_back t.table) written_fits rest ∙ first_of os fs as_many),
    subst (λ (n : ℕ). read_previous n (each written_bytes (with_ticks os fs) ++ rest) ≡ fs) (with_ticks_length os fs as_many)
        (list_read written_bytes observation_width written_long (λ b. wide (drop 32 b)) (λ (w : Written). w.previous) (WrittenFits t.table) (previous_back t.table) written_fits rest ∙ second_of os fs as_many),
  )
