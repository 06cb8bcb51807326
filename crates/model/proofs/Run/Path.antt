-- What the path shows of a state that is the schedule's, of the end of a run, and the listener of each sender. Assumes nothing.
use mathlib.Core.Path.{◌≡◌, refl, sym, ap, subst, ◌∙◌}
use mathlib.Core.Logic.{◌⊎◌, inl, inr}
use mathlib.Core.Bool.{Bool, true, false, cond, ◌&&◌}
use mathlib.Core.List.{List, [], ◌∷◌, ◌++◌, map}
use mathlib.Core.Option.{some}
use Prim.Native.Nat.{ℕ, zero, suc, pred, ◌+◌, ◌-◌, ◌≤◌, ◌<◌, max}
use native.Mathlib.Omega.{arith}
use borrow.Author.Tests.{eqb-true, eqb-false, leb-true, leb-false}
use lib.Dec.{eqb}
use lib.ListN.{length}
use Rattle.model.specs.Lists.{◌∈◌, here, All, from, below}
use Rattle.model.specs.Table.{Read, size, component_of}
use Rattle.model.specs.Schedule.{Passage, own}
use Rattle.model.specs.Program.{program_bytes}
use Rattle.model.specs.Network.{State, Label, Work, one, two, Observation, start, follow, passages_on, works_on, observations_on}
use Rattle.model.specs.Machine.{part_bytes}
use Rattle.model.specs.Order.{work_tick, by_tick}
use Rattle.model.specs.Run.{setting_at, offset_of, own_tick, awake, Run, Result, ends, ticked, node_of, Stand, sleeping, sending, listening, finishing, adding, working, taking, elsewhere, nowhere, stand_of, began, listeners, due}
use Rattle.model.specs.Demand3.{PassAs, SteppedBefore, Begins, observations_of, is_late_end, reached, late_in, HasListener}
use Rattle.model.specs.Apart.{own_work, work_node, most}
use Rattle.model.proofs.Basics.Bools.{clash}
use Rattle.model.proofs.Basics.Words.{all_join}
use Rattle.model.proofs.Schedule.Own.{all_then, all_map}
use Rattle.model.proofs.Node.Choosing.{asleep_sleeping}
use Rattle.model.proofs.Node.Phase.{is_working, AtSend, AtStand, phase_at}
use Rattle.model.proofs.Node.Facts.{is_work, is_way, heading_stand}
use Rattle.model.proofs.Network.Passing.{Passing}
use Rattle.model.proofs.Network.Witness.{Witness, shown_on, passing_witness}
use Rattle.model.proofs.Network.Whole.{Round, fill, path_of, comes_then, comes_fewer}
use Rattle.model.proofs.Run.Tied.{Given, at_zero, Held, coming, waiting, busy, leaving, resting, shown_by, clock_at, Tied, coded, component-in}
use Rattle.model.proofs.Run.Node.{on_time}
use Rattle.model.proofs.Run.Tick.{Live, late_by, TooLate}
use Rattle.model.proofs.Run.Listener.{other, listeners_are, began_earlier}
use Rattle.model.proofs.Run.Count.{readied, none_missing, none_missing_later, shows}

-- ## The path

-- one path of the network, for all nodes together in their own clocks at the common tick u, that shows what the run did: the first fields of
-- demand 3 for nodes that wake apart
pub record PathOf (t : Read) (H : ℕ) (S : List Passage) (offs : List ℕ) (u : ℕ) (r : Result) : Type 0 where
  pub path : List Label
  pub last : State
  pub valid : follow t.table (start t.table) path ≡ some last
  pub reach : last.tick ≡ most (map (λ c. own_tick (setting_at t H S offs) c u) (below (size t.table)))
  pub scheduled : (c : ℕ) → c < size t.table → PassAs (passages_on t.table c (start t.table) path) (own c S)
  pub kept : (c : ℕ) → c < size t.table → SteppedBefore last.tick (passages_on t.table c (start t.table) path) (own c S)
  pub filled : List Work
  pub fills : All (λ w. (work_node w < size t.table) × (own_tick (setting_at t H S offs) (work_node w) u ≤ work_tick w) × (work_tick w < last.tick)) filled
  pub worked : works_on t.table (start t.table) path ≡ by_tick (map (own_work (setting_at t H S offs)) r.state.works ++ filled)
  pub observed : (c : ℕ) → c < size t.table
      → Begins (observations_of c r)
      (observations_on (component_of t.table c) c (own_tick (setting_at t H S offs) c u) (passages_on t.table c (start t.table) path) (map (λ v. v.edge) (own c S)))
  pub complete : (c : ℕ) → c < size t.table
      → length (readied (own_tick (setting_at t H S offs) c r.state.tick) (own c S))
      ≤ length (observations_of c r)
      + cond (is_late_end r && late_in (own c S) (own_tick (setting_at t H S offs) c r.state.tick) (node_of r.state c) (stand_of (node_of r.state c))) 1 0

-- the greatest is no less than each
most_each : (f : ℕ → ℕ) (i n c : ℕ) → i ≤ c → c < i + n → f c ≤ most (map f (from i n))
most_each f i zero c l h = absurd (omega arith)
most_each f i (suc n) c l h = go (eqb c i) refl (λ k. most_each f (suc i) n c k (omega arith))
  where
    go : (x : Bool) → eqb c i ≡ x → (suc i ≤ c → f c ≤ most (map f (from (suc i) n))) → f c ≤ max (f i) (most (map f (from (suc i) n)))
    go true q ih = let e = eqb-true c i q in omega (arith, ap f e)
    go false q ih = let e = eqb-false c i q in omega (arith, ih (omega arith))

-- and no more than all are
most_few : (f : ℕ → ℕ) (b i n : ℕ) → ((c : ℕ) → f c ≤ b) → most (map f (from i n)) ≤ b
most_few f b i zero h = omega arith
most_few f b i (suc n) h = omega (arith, h i, most_few f b (suc i) n h)

module _ {t : Read} {H : ℕ} {S : List Passage} {offs : List ℕ} (G : Given t H S offs) where
  -- nobody is late as the schedule has it
  pub nobody_late : {s : Run} → Tied G s → (c : ℕ) → c < size t.table → late_by G s c ≡ false
  nobody_late k c h = on_time G k.along c h (k.ties c h)

  module _ {s : Run} (k : Tied G s) (within : s.tick ≤ H) where
    -- the clock of the node that is ahead of all others
    abbrev m : ℕ
    m = most (map (clock_at G s.tick) (below (size t.table)))

    clock_most : (c : ℕ) → c < size t.table → clock_at G s.tick c ≤ m
    clock_most c h = most_each (clock_at G s.tick) 0 (size t.table) c (omega arith) (omega arith)

    m_within : m ≤ H
    m_within = omega (arith, most_few (clock_at G s.tick) s.tick 0 (size t.table) (λ c. omega arith))

    -- what the nodes that are behind do, as the schedule says, up to that clock
    filling : Round G.most t.table H S G.sched (at_zero G) 0 (0 + m) (0 + m) k.ahead 0
    filling =
        fill G.most t.table H S G.sched (at_zero G) m (omega (arith, m_within))
        (record { rest = λ c h. (let r = k.along.rest c h in (r.0, r.1)); before = λ c h x i. omega arith; paired = k.along.paired })

    -- the works of the run in the nodes' own clocks, then those filled in
    abbrev all_works : List Work
    all_works = map (own_work (setting_at t H S offs)) s.works ++ filling.works

    works_least : All (λ w. work_tick w ≤ m) all_works
    works_least =
        all_join (all_map (own_work (setting_at t H S offs)) (all_then own_least k.logged.each))
        (all_then (λ w f. omega (arith, f.6)) filling.fills)
      where
        own_least : (w : Work) → (work_node w < size t.table) × (work_tick w ≤ s.tick) → work_tick (own_work (setting_at t H S offs) w) ≤ m
        own_least (one c n) p = omega (arith, p.1, clock_most c p.0)
        own_least (two a b n q) p = omega (arith, p.1, clock_most a p.0)

    -- the network passes along them in the order of their ticks
    passing : Passing t.table H S m filling.then' (by_tick all_works)
    passing =
        path_of G.most t.table H S G.sched (at_zero G) m m_within all_works (comes_then k.came filling.comes) works_least
        (λ d h v vs e. omega (arith, filling.ahead.before d h v (subst (λ (l : List Passage). v ∈ l) (sym e) (here refl))))

    abbrev W : Witness t.table S m filling.then' (by_tick all_works)
    W = passing_witness t.table H S passing

    filled_there : All (λ w. (work_node w < size t.table) × (clock_at G s.tick (work_node w) ≤ work_tick w) × (work_tick w < m)) filling.works
    filled_there = all_then each filling.fills
      where
        each : (w : Work) → (c : ℕ) × (c < size t.table) × (v : Passage) × (v ∈ k.ahead c) × (v.end ≡ work_tick w) × (work_node w ≡ c) × (work_tick w < 0 + m)
            → (work_node w < size t.table) × (clock_at G s.tick (work_node w) ≤ work_tick w) × (work_tick w < m)
        each w f =
            let b : clock_at G s.tick (work_node w) ≤ f.2.end =
            subst (λ (c : ℕ). clock_at G s.tick c ≤ f.2.end) (sym f.5) (k.along.before f.0 f.1 f.2 f.3) in
            (omega (arith, f.1, f.5), omega (arith, f.4), omega (arith, f.6))

    -- what it says of a run that ends with these works and observations
    path_for : (r : Result) → r.state.works ≡ s.works → r.state.observations ≡ s.observations
        → ((c : ℕ) → c < size t.table → length (readied (clock_at G r.state.tick c) (own c S)) ≤ length (observations_of c r) + cond (is_late_end r && late_by G r.state c) 1 0)
        → PathOf t H S offs s.tick r
    path_for r ew eo complete' =
        record {
          path = W.path;
          last = W.last;
          valid = W.valid;
          reach = W.reach;
          scheduled = W.scheduled;
          kept = W.kept;
          filled = filling.works;
          fills = subst (λ (n : ℕ). All (λ w. (work_node w < size t.table) × (clock_at G s.tick (work_node w) ≤ work_tick w) × (work_tick w < n)) filling.works) (sym W.reach) filled_there;
          worked = W.works ∙ ap (λ (l : List Work). by_tick (map (own_work (setting_at t H S offs)) l ++ filling.works)) (sym ew);
          observed = λ c h.
              subst (λ (os : List Observation). Begins (shown_by c os) (shown_on t.table S W.path (clock_at G s.tick c) c)) (sym eo)
              (shows G k.along c h (k.ties c h) W (clock_most c h) (comes_fewer filling.comes c h));
          complete = complete';
        }

  -- of a run that does not end late
  pub quiet_path : {s : Run} → Tied G s → s.tick ≤ H → (e n : ℕ) → eqb e 2 ≡ false → PathOf t H S offs (reached (ends s e n)) (ends s e n)
  quiet_path {s} k l e n q =
      subst (λ (u : ℕ). PathOf t H S offs u (ends s e n)) (ap (λ (x : Bool). cond x (pred s.tick) s.tick) (sym q))
      (path_for k l (ends s e n) refl refl
      (λ c h.
      subst (λ (x : Bool). length (readied (clock_at G s.tick c) (own c S)) ≤ length (observations_of c (ends s e n)) + cond (x && late_by G s c) 1 0) (sym q)
      (none_missing G k.along c h (k.ties c h))))

  -- of one that does: up to the tick before
  pub late_path : {s : Run} → Live G s → (c : ℕ) → TooLate G s c → PathOf t H S offs (reached (ends (ticked s) 2 c)) (ends (ticked s) 2 c)
  late_path {s} k n l = path_for k.tied (omega (arith, k.below)) (ends (ticked s) 2 n) refl refl (λ c h. none_missing_later G k.tied.along c h (k.tied.ties c h) (clock_at G (suc s.tick) c) (on c h))
    where
      on : (c : ℕ) → c < size t.table → (clock_at G (suc s.tick) c ≡ clock_at G s.tick c)
          ⊎ ((clock_at G (suc s.tick) c ≡ suc (clock_at G s.tick c)) × (due (setting_at t H S offs) (clock_at G s.tick c) (node_of s c) (stand_of (node_of s c)) ≡ false))
      on c h = go (awake (setting_at t H S offs) c s.tick) refl (l.idle c h)
        where
          go : (x : Bool) → awake (setting_at t H S offs) c s.tick ≡ x
              → (x && due (setting_at t H S offs) (clock_at G s.tick c) (node_of s c) (stand_of (node_of s c))) ≡ false
              → (clock_at G (suc s.tick) c ≡ clock_at G s.tick c)
              ⊎ ((clock_at G (suc s.tick) c ≡ suc (clock_at G s.tick c)) × (due (setting_at t H S offs) (clock_at G s.tick c) (node_of s c) (stand_of (node_of s c)) ≡ false))
          go false q d = let b = leb-false (offset_of (setting_at t H S offs) c) s.tick q in inl (omega arith)
          go true q d = let b = leb-true (offset_of (setting_at t H S offs) c) s.tick q in inr (omega arith, d)

  -- ## Listeners

  module _ {s : Run} (k : Live G s) (c : ℕ) (h : c < size t.table) where
    -- a node at a send has exactly one listener, which began earlier
    heard : (a : ℕ) → stand_of (node_of s c) ≡ sending a → (i : ℕ) × (listeners (setting_at t H S offs) s c a ≡ i ∷ []) × (began (setting_at t H S offs) i (node_of s i) < began (setting_at t H S offs) c (node_of s c))
    heard a q = go (k.tied.ties c h).held
      where
        go : Held H (component_of t.table c) (clock_at G s.tick c) (k.tied.ties c h).count (node_of s c) (k.tied.ahead c) (k.tied.ties c h).more
            → (i : ℕ) × (listeners (setting_at t H S offs) s c a ≡ i ∷ []) × (began (setting_at t H S offs) i (node_of s i) < began (setting_at t H S offs) c (node_of s c))
        go (coming v vs e m l p) = clash (sym (ap is_way q) ∙ heading_stand p)
        go (waiting v vs e m l j p) = clash (sym (ap is_work (asleep_sleeping p)) ∙ ap is_work q)
        go (busy v vs e m l b j p) =
            let x : AtSend (part_bytes (program_bytes t) c) (component_of t.table c) (k.tied.ties c h).count v.entry (node_of s c) a =
            subst (AtStand (part_bytes (program_bytes t) c) (component_of t.table c) (k.tied.ties c h).count v.entry (node_of s c)) q
            (phase_at (coded G c h) (component-in G c h) (is_working j p)) in (
              other G k c h v vs e l x.at_work a x.action,
              listeners_are G k c h v vs e l x.at_work a x.action,
              began_earlier G k c h v vs e l x.at_work a x.action,
            )
        go (leaving at e m l p) = clash (sym (ap is_way q) ∙ heading_stand p)
        go (resting at e m l j p) = clash (sym (ap is_work (asleep_sleeping p)) ∙ ap is_work q)

    -- by what it stands at
    by_stand : (u : Run) (x : Stand) → ((a : ℕ) → x ≡ sending a → (i : ℕ) × (listeners (setting_at t H S offs) u c a ≡ i ∷ []) × (began (setting_at t H S offs) i (node_of u i) < began (setting_at t H S offs) c (node_of u c))) → HasListener (setting_at t H S offs) u c x
    by_stand u sleeping f = tt
    by_stand u (sending a) f = f a refl
    by_stand u (listening qs) f = tt
    by_stand u finishing f = tt
    by_stand u (adding v z) f = tt
    by_stand u working f = tt
    by_stand u taking f = tt
    by_stand u elsewhere f = tt
    by_stand u nowhere f = tt

    -- so now
    pub listener_now : HasListener (setting_at t H S offs) s c (stand_of (node_of s c))
    listener_now = by_stand s (stand_of (node_of s c)) heard

    -- and after a tick, which changes no node
    pub listener_then : HasListener (setting_at t H S offs) (ticked s) c (stand_of (node_of s c))
    listener_then = by_stand (ticked s) (stand_of (node_of s c)) heard
