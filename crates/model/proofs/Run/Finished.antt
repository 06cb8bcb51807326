-- The tick that stands in each observation (document 02, wish 9): when the node's previous work finished, by its own clock; it lies in the previous
-- window. By induction over the choices, beside `Tied`. Assumes nothing.
use mathlib.Core.Path.{◌≡◌, refl, sym, ap, ap₂, subst, ◌∙◌}
use mathlib.Core.Logic.{◌⊎◌, inl, inr}
use mathlib.Core.Bool.{Bool, true, false, cond, ◌&&◌, ◌||◌}
use mathlib.Core.List.{List, [], ◌∷◌, ◌++◌, map, append-nil}
use Prim.Native.Nat.{ℕ, suc, ◌≤◌, ◌<◌}
use native.Mathlib.Omega.{arith}
use borrow.Author.Tests.{eqb-true, ltb-true}
use lib.Dec.{ltb, eqb}
use lib.IntN.{◌+ℤ◌}
use lib.ListN.{length, drop, length-append, length-map}
use Rattle.model.specs.Lists.{only, is_none, All, empty, more}
use Rattle.model.specs.Table.{Read, size, component_of}
use Rattle.model.specs.Window.{value_at, in_range}
use Rattle.model.specs.Schedule.{Passage, own}
use Rattle.model.specs.Program.{program_bytes}
use Rattle.model.specs.Network.{Work, one, two, Observation}
use Rattle.model.specs.Machine.{Node, part_bytes}
use Rattle.model.specs.Order.{work_tick}
use Rattle.model.specs.Run.{Setting, setting_at, setting_to, own_tick, awake, Run, takes_part, finish_ticks, last_of, no_work, previous_finish, node_of, Stand, sleeping, sending, listening, finishing, adding, working, taking, elsewhere, nowhere, stand_of, window_end, listeners, Outcome, forbidden, on, over, moved, messaged, takes_message, ticked, sent, finished, finishes, some_due, late_nodes, after_tick, choose1, continue, run_from, run, start_run, Written, written_in}
use Rattle.model.specs.Demand3.{Begins}
use Rattle.model.specs.Apart.{work_node}
use Rattle.model.specs.Finishes.{InWindows, Finishes, OnPath, FinishesApartOf, FinishesOf, previous_of}
use Rattle.model.proofs.Basics.Bools.{clash, and_is}
use Rattle.model.proofs.Basics.Words.{all_join}
use Rattle.model.proofs.Basics.Members.{only_append}
use Rattle.model.proofs.Node.Facts.{is_work, is_way, heading_stand, working_stand}
use Rattle.model.proofs.Node.Choosing.{asleep_sleeping}
use Rattle.model.proofs.Node.Phase.{is_working, AtSend, AtStand, phase_at}
use Rattle.model.proofs.Network.Reached.{map_append}
use Rattle.model.proofs.Network.Ahead.{Partner}
use Rattle.model.proofs.Run.Tied.{Given, given_apart, given, Held, coming, waiting, busy, leaving, resting, clock_at, coded, component-in, ahead_before}
use Rattle.model.proofs.Run.Start.{tied_start}
use Rattle.model.proofs.Run.Tick.{Live, Leads, onward}
use Rattle.model.proofs.Run.Listener.{partner, listeners_are}
use Rattle.model.proofs.Run.Send.{choice_leads}
use Rattle.model.proofs.Run.Together.{same_clock}
use Rattle.model.proofs.Run.FinishTicks.{one_left, begins_longer, with_ticks_join, is_of, noted, noted_count, finish_join, own_part, in_next, in_fewer, took_all}
use Rattle.model.proofs.Reader.Limits.{read_limits}

-- ## Along the run

-- no previous work, or a tick before the horizon
abbrev pub Small : ℕ → ℕ → Type 0
Small H f = (f ≡ no_work) ⊎ (f < H)

-- such is the last of them
last_small : (H z : ℕ) → Small H z → {ns : List ℕ} → All (λ n. n < H) ns → Small H (last_of z ns)
last_small H z h empty = h
last_small H z h (more {x = n} p a) = last_small H n (inr p) a

module _ {t : Read} {H : ℕ} {S : List Passage} {offs : List ℕ} (G : Given t H S offs) where
  -- what the run goes by
  abbrev g : Setting
  g = setting_at t H S offs

  -- the ticks that stand in the observations of a state
  pub record Noted (s : Run) : Type 0 where
    pub each : length s.previous ≡ length s.observations
    pub small : All (Small H) s.previous
    pub ticks : (c : ℕ) → c < size t.table → Begins (noted c s) (no_work ∷ finish_ticks g c s.works)
    pub windows : (c : ℕ) → c < size t.table → InWindows (finish_ticks g c s.works) (own c S)

  -- the same after a choice
  data After : Outcome → Type 0 where
    none' : After forbidden
    yes : {u : Run} → Noted u → After (on u)
    ended : {u : Run} {e n : ℕ} → Noted u → After (over u e n)

  after_if : (x : Bool) {a b : Outcome} → (x ≡ true → After a) → (x ≡ false → After b) → After (cond x a b)
  after_if true h k = h refl
  after_if false h k = k refl

  module _ {s : Run} (k : Live G s) (N : Noted s) where
    -- as many works of node c as passages whose work is finished
    counted : (c : ℕ) (h : c < size t.table) → length (finish_ticks g c s.works) ≡ length (k.tied.ties c h).fin
    counted c h =
        let T = k.tied.ties c h in
        omega (
          arith,
          took_all c h k.tied.came,
          own_part g c s.works,
          length-append T.fin (k.tied.ahead c),
          ap length T.whole,
        )

    -- a work of node c, which is in the window of its first passage ahead, in which it lies
    in_window : (c : ℕ) (h : c < size t.table) (v : Passage) (vs : List Passage) → k.tied.ahead c ≡ v ∷ vs
        → v.ready ≤ clock_at G s.tick c → clock_at G s.tick c ≤ v.end
        → InWindows (finish_ticks g c s.works ++ (clock_at G s.tick c ∷ [])) (own c S)
    in_window c h v vs e p q =
        let T = k.tied.ties c h in
        let w : T.fin ++ (v ∷ vs) ≡ own c S = ap (λ (l : List Passage). T.fin ++ l) (sym e) ∙ T.whole in
        subst (InWindows (finish_ticks g c s.works ++ (clock_at G s.tick c ∷ []))) w
        (in_next (finish_ticks g c s.works) (clock_at G s.tick c) T.fin v vs (counted c h)
        (subst (InWindows (finish_ticks g c s.works)) (sym w) (N.windows c h)) p q)

    -- works more, no observation: the ticks in the observations are as before
    further : (nodes : List Node) (ws : List Work)
        → ((c : ℕ) → c < size t.table → InWindows (finish_ticks g c s.works ++ finish_ticks g c ws) (own c S))
        → Noted (record { tick = s.tick; used = suc s.used; nodes = nodes; observations = s.observations; previous = s.previous; works = s.works ++ ws })
    further nodes ws w =
        record {
          each = N.each;
          small = N.small;
          ticks = λ c h. subst (λ (l : List ℕ). Begins (noted c s) (no_work ∷ l)) (sym (finish_join g c s.works ws))
              (begins_longer (finish_ticks g c ws) (N.ticks c h));
          windows = λ c h. subst (λ (l : List ℕ). InWindows l (own c S)) (sym (finish_join g c s.works ws)) (w c h);
        }

    -- the same where the lists of the observations are joined with empty ones
    plain : (c : ℕ) (r : Node) (ws : List Work)
        → ((d : ℕ) → d < size t.table → InWindows (finish_ticks g d s.works ++ finish_ticks g d ws) (own d S))
        → Noted (moved s c r [] [] ws)
    plain c r ws w =
        subst (λ (os : List Observation). Noted (later os (s.previous ++ []))) (sym (append-nil s.observations))
        (subst (λ (fs : List ℕ). Noted (later s.observations fs)) (sym (append-nil s.previous)) (further (moved s c r [] [] ws).nodes ws w))
      where
        later : List Observation → List ℕ → Run
        later os fs =
            record { tick = s.tick; used = suc s.used; nodes = (moved s c r [] [] ws).nodes; observations = os; previous = fs; works = s.works ++ ws }

    -- nothing finished
    silent : (c : ℕ) (r : Node) → Noted (moved s c r [] [] [])
    silent c r = plain c r [] (λ d h. subst (λ (l : List ℕ). InWindows l (own d S)) (sym (append-nil (finish_ticks g d s.works))) (N.windows d h))

    -- a work alone
    alone_noted : (c : ℕ) (r : Node) (h : c < size t.table) (v : Passage) (vs : List Passage) → k.tied.ahead c ≡ v ∷ vs
        → v.ready ≤ clock_at G s.tick c → Noted (moved s c r [] [] (one c s.tick ∷ []))
    alone_noted c r h v vs e p = plain c r (one c s.tick ∷ []) (λ d i. go d i (eqb c d) refl)
      where
        go : (d : ℕ) → d < size t.table → (x : Bool) → eqb c d ≡ x
            → InWindows (finish_ticks g d s.works ++ map (λ (w : Work). own_tick g d (work_tick w)) (cond x (one c s.tick ∷ []) [])) (own d S)
        go d i true q =
            subst (λ (n : ℕ). InWindows (finish_ticks g n s.works ++ (clock_at G s.tick n ∷ [])) (own n S)) (eqb-true c d q)
            (in_window c h v vs e p (ahead_before G k.tied.along c h v vs e))
        go d i false q = subst (λ (l : List ℕ). InWindows l (own d S)) (sym (append-nil (finish_ticks g d s.works))) (N.windows d i)

    -- a message: the sender and its partner
    module _ (c : ℕ) (h : c < size t.table) (v : Passage) (vs : List Passage) (e : k.tied.ahead c ≡ v ∷ vs)
        (ready : v.ready ≤ clock_at G s.tick c) (a : ℕ)
        (P : Partner G.spread G.most t.table H S G.sched G.checks (clock_at G s.tick) k.tied.ahead c v a) where
      message_windows : (d : ℕ) → d < size t.table
          → InWindows (finish_ticks g d s.works ++ finish_ticks g d (two c P.component a s.tick ∷ [])) (own d S)
      message_windows d i = go (eqb c d) refl (eqb P.component d) refl
        where
          go : (x : Bool) → eqb c d ≡ x → (y : Bool) → eqb P.component d ≡ y
              → InWindows
              (finish_ticks g d s.works ++ map (λ (w : Work). own_tick g d (work_tick w)) (cond (x || y) (two c P.component a s.tick ∷ []) []))
              (own d S)
          go true q y r =
              subst (λ (n : ℕ). InWindows (finish_ticks g n s.works ++ (clock_at G s.tick n ∷ [])) (own n S)) (eqb-true c d q)
              (in_window c h v vs e ready (ahead_before G k.tied.along c h v vs e))
          go false q true r =
              subst (λ (n : ℕ). InWindows (finish_ticks g n s.works ++ (clock_at G s.tick n ∷ [])) (own n S)) (eqb-true P.component d r)
              (in_window P.component P.there P.passage P.rest P.ahead (omega (arith, P.ready)) (omega (arith, P.end)))
          go false q false r = subst (λ (l : List ℕ). InWindows l (own d S)) (sym (append-nil (finish_ticks g d s.works))) (N.windows d i)

      message_noted : After (sent g s c a (P.component ∷ []))
      message_noted =
          yes (further
          (messaged s c (finished g s c) P.component (takes_message (part_bytes (program_bytes t) P.component) a (node_of s P.component)) a).nodes
          (two c P.component a s.tick ∷ []) message_windows)

    -- a sleep: as many works as observations of its node so far, so the tick is the next one
    slept : (c : ℕ) (h : c < size t.table) → (k.tied.ties c h).more ≡ [] → (r : Node) (o : Observation) → o.component ≡ c
        → Noted (moved s c r (o ∷ []) (previous_finish g c s.works ∷ []) [])
    slept c h m r o is =
        record {
          each = omega (
            arith,
            length-append s.previous (previous_finish g c s.works ∷ []),
            length-append s.observations (o ∷ []),
            N.each,
          );
          small = all_join N.small (more (last_small H no_work (inl refl) finished_small) empty);
          ticks = λ d i. subst (λ (ws : List Work). Begins (noted d next) (no_work ∷ finish_ticks g d ws)) (sym (append-nil s.works))
              (go d i (eqb o.component d) refl);
          windows = λ d i. subst (λ (ws : List Work). InWindows (finish_ticks g d ws) (own d S)) (sym (append-nil s.works)) (N.windows d i);
        }
      where
        next : Run
        next = moved s c r (o ∷ []) (previous_finish g c s.works ∷ []) []

        new : Written
        new = record { observation = o; previous = previous_finish g c s.works }

        joined : (d : ℕ) → noted d next ≡ noted d s ++ map (λ (w : Written). w.previous) (only (is_of d) (new ∷ []))
        joined d =
            ap (λ (l : List Written). map (λ (w : Written). w.previous) (only (is_of d) l))
            (with_ticks_join s.observations (o ∷ []) s.previous (previous_finish g c s.works ∷ []) N.each)
            ∙ ap (map (λ (w : Written). w.previous)) (only_append (is_of d) (written_in s) (new ∷ []))
            ∙ map_append (λ (w : Written). w.previous) (only (is_of d) (written_in s)) (only (is_of d) (new ∷ []))

        as_many : length (noted c s) ≡ length (finish_ticks g c s.works)
        as_many =
            let T = k.tied.ties c h in
            noted_count c s.observations s.previous N.each
            ∙ ap length T.shown ∙ length-map (T.fin ++ T.more) _
            ∙ ap length (ap (λ (l : List Passage). T.fin ++ l) m ∙ append-nil T.fin) ∙ sym (counted c h)

        go : (d : ℕ) → d < size t.table → (x : Bool) → eqb o.component d ≡ x → Begins (noted d next) (no_work ∷ finish_ticks g d s.works)
        go d i true q =
            let z : d ≡ c = sym (eqb-true o.component d q) ∙ is in
            let b = N.ticks c h in
            let l : noted d next ≡ noted d s ++ (previous_finish g c s.works ∷ []) =
            joined d ∙ ap (λ (x : Bool). noted d s ++ map (λ (w : Written). w.previous) (cond x (new ∷ []) [])) q in
            let f : noted c s ++ (previous_finish g c s.works ∷ []) ≡ no_work ∷ finish_ticks g c s.works =
            one_left (noted c s) b.rest no_work (finish_ticks g c s.works) b.is as_many in
            record {
              rest = [];
              is =
                  append-nil (noted d next) ∙ l
                  ∙ ap (λ (n : ℕ). noted n s ++ (previous_finish g c s.works ∷ [])) z ∙ f ∙ ap (λ (n : ℕ). no_work ∷ finish_ticks g n s.works) (sym z);
            }
        go d i false q =
            let b = N.ticks d i in
            let l : noted d next ≡ noted d s =
            joined d ∙ ap (λ (x : Bool). noted d s ++ map (λ (w : Written). w.previous) (cond x (new ∷ []) [])) q ∙ append-nil (noted d s) in
            subst (λ (xs : List ℕ). Begins xs (no_work ∷ finish_ticks g d s.works)) (sym l) b

        finished_small : All (λ n. n < H) (finish_ticks g c s.works)
        finished_small = those s.works k.tied.logged.each
          where
            those : (ws : List Work) → All (λ w. (work_node w < size t.table) × (work_tick w ≤ s.tick)) ws
                → All (λ n. n < H) (finish_ticks g c ws)
            those [] a = empty
            those (w ∷ ws) (more p a) = by (takes_part c w) (those ws a)
              where
                by : (x : Bool) → All (λ n. n < H) (finish_ticks g c ws)
                    → All (λ n. n < H) (map (λ (w : Work). own_tick g c (work_tick w)) (cond x (w ∷ only (takes_part c) ws) (only (takes_part c) ws)))
                by true b = more {x = own_tick g c (work_tick w)} (omega (arith, p.1, k.below)) b
                by false b = b

    -- at a sleep no passage is under way
    asleep_more : (c : ℕ) (h : c < size t.table) → stand_of (node_of s c) ≡ sleeping → (k.tied.ties c h).more ≡ []
    asleep_more c h e = go (k.tied.ties c h).held
      where
        go : Held H (component_of t.table c) (clock_at G s.tick c) (k.tied.ties c h).count (node_of s c) (k.tied.ahead c) (k.tied.ties c h).more
            → (k.tied.ties c h).more ≡ []
        go (coming v vs f m l p) = m
        go (waiting v vs f m l j p) = m
        go (busy v vs f m l b j p) = clash (sym (ap is_work e) ∙ working_stand p)
        go (leaving at f m l p) = m
        go (resting at f m l j p) = m

    -- at its work a node is in the window of its first passage ahead
    record AtWork (c : ℕ) (h : c < size t.table) : Type 0 where
      pub passage : Passage
      pub rest : List Passage
      pub ahead : k.tied.ahead c ≡ passage ∷ rest
      pub ready : passage.ready ≤ clock_at G s.tick c
      pub at : AtStand
          (part_bytes (program_bytes t) c) (component_of t.table c) (k.tied.ties c h).count passage.entry (node_of s c) (stand_of (node_of s c))

    at-work : (c : ℕ) (h : c < size t.table) → is_work (stand_of (node_of s c)) ≡ true → is_way (stand_of (node_of s c)) ≡ false → AtWork c h
    at-work c h e f = go (k.tied.ties c h).held
      where
        go : Held H (component_of t.table c) (clock_at G s.tick c) (k.tied.ties c h).count (node_of s c) (k.tied.ahead c) (k.tied.ties c h).more
            → AtWork c h
        go (coming v vs i m l p) = clash (sym f ∙ heading_stand p)
        go (waiting v vs i m l j p) = clash (sym (ap is_work (asleep_sleeping p)) ∙ e)
        go (busy v vs i m l b j p) =
            record { passage = v; rest = vs; ahead = i; ready = l; at = phase_at (coded G c h) (component-in G c h) (is_working j p) }
        go (leaving at i m l p) = clash (sym f ∙ heading_stand p)
        go (resting at i m l j p) = clash (sym (ap is_work (asleep_sleeping p)) ∙ e)

    -- a work finished alone
    worked : (c : ℕ) (h : c < size t.table) → is_work (stand_of (node_of s c)) ≡ true → is_way (stand_of (node_of s c)) ≡ false → (r : Node)
        → Noted (moved s c r [] [] (one c s.tick ∷ []))
    worked c h e f r = let w = at-work c h e f in alone_noted c r h w.passage w.rest w.ahead w.ready

    -- a send
    sent_noted : (c : ℕ) (h : c < size t.table) (a : ℕ) → stand_of (node_of s c) ≡ sending a → After (sent g s c a (listeners g s c a))
    sent_noted c h a e =
        let w = at-work c h (ap is_work e) (ap is_way e) in
        let x : AtSend (part_bytes (program_bytes t) c) (component_of t.table c) (k.tied.ties c h).count w.passage.entry (node_of s c) a =
        subst (AtStand (part_bytes (program_bytes t) c) (component_of t.table c) (k.tied.ties c h).count w.passage.entry (node_of s c)) e w.at in
        let P = partner G k c h w.passage w.rest w.ahead w.ready x.at_work a x.action in
        subst (λ (l : List ℕ). After (sent g s c a l))
        (sym (listeners_are G k c h w.passage w.rest w.ahead w.ready x.at_work a x.action))
        (message_noted c h w.passage w.rest w.ahead w.ready a P)

    -- a node finishes its statement
    node_noted : (c : ℕ) → c < size t.table → (x : Stand) → stand_of (node_of s c) ≡ x → After (finishes g s c x)
    node_noted c h sleeping e =
        after_if (eqb (own_tick g c s.tick) (node_of s c).t) (λ i. yes (slept c h (asleep_more c h e) _ _ refl)) (λ i. none')
    node_noted c h (sending a) e = sent_noted c h a e
    node_noted c h (listening qs) e =
        after_if (eqb (own_tick g c s.tick) (window_end (node_of s c))) (λ i. yes (worked c h (ap is_work e) (ap is_way e) _)) (λ i. none')
    node_noted c h finishing e = yes (worked c h (ap is_work e) (ap is_way e) _)
    node_noted c h (adding v z) e = after_if (in_range (value_at (node_of s c).values v +ℤ z)) (λ i. yes (silent c _)) (λ i. none')
    node_noted c h working e = yes (silent c _)
    node_noted c h taking e = after_if (is_none (node_of s c).kept) (λ i. none') (λ i. yes (silent c _))
    node_noted c h elsewhere e = yes (silent c _)
    node_noted c h nowhere e = none'

    -- a tick passes
    tick_noted : Noted (ticked s)
    tick_noted = record { each = N.each; small = N.small; ticks = N.ticks; windows = N.windows }

    ticks_noted : (ds : List ℕ) → After (after_tick g (ticked s) ds)
    ticks_noted [] = after_if (eqb (suc s.tick) H) (λ i. ended tick_noted) (λ i. yes tick_noted)
    ticks_noted (d ∷ ds) = ended tick_noted

    -- every choice
    choice_noted : (b : ℕ) → After (choose1 g s b)
    unfolding choose1
    choice_noted b =
        after_if (eqb b 255)
        (λ e. after_if (some_due g s.tick 0 s.nodes) (λ f. none') (λ f. ticks_noted (late_nodes g (suc s.tick) 0 s.nodes)))
        (λ e. after_if (ltb b (length s.nodes) && awake g b s.tick)
        (λ f. node_noted b
        (omega (arith, ltb-true b (length s.nodes) ((and_is (ltb b (length s.nodes)) (awake g b s.tick)).0 f).0, k.tied.full))
        (stand_of (node_of s b)) refl)
        (λ f. none'))

  -- the whole list
  noted_run : (cs : List ℕ) {s : Run} → Live G s → Noted s → Noted (run_from g cs s).state
  unfolding run_from
  noted_run [] k N = N
  noted_run (b ∷ bs) {s} k N = go (choose1 g s b) (choice_leads G k b) (choice_noted k N b) (λ u l M. noted_run bs l M)
    where
      go : (o : Outcome) → Leads G s b o → After o → ((u : Run) → Live G u → Noted u → Noted (run_from g bs u).state)
          → Noted (continue s o (λ u. run_from g bs u)).state
      go forbidden l a ih = N
      go (on u) (onward w l f i o) (yes a) ih = ih w l a
      go (over u e n) l (ended a) ih = a

  -- nothing stands there at the start
  pub noted_start : Noted (start_run g)
  noted_start = record { each = refl; small = empty; ticks = λ c h. record { rest = no_work ∷ []; is = refl }; windows = λ c h. tt }

  -- every run
  pub noted_all : (cs : List ℕ) → Noted (run g cs).state
  unfolding run
  noted_all cs = noted_run cs (record { tied = tied_start G; below = omega (arith, G.least) }) noted_start

  -- what is said of the ticks
  pub finishes_hold : (cs : List ℕ) → Finishes t H S offs cs
  finishes_hold cs =
      record {
        each = (noted_all cs).each;
        ticks = (noted_all cs).ticks;
        in_previous = λ c h. inside (own c S) (noted c (run g cs).state) ((noted_all cs).ticks c h) ((noted_all cs).windows c h);
      }
    where
      inside : {fs : List ℕ} (vs : List Passage) (xs : List ℕ) → Begins xs (no_work ∷ fs) → InWindows fs vs → InWindows (drop 1 xs) vs
      inside vs [] b w = tt
      inside vs (x ∷ xs) b w = in_fewer xs b.rest vs (subst (λ (l : List ℕ). InWindows l vs) (sym (ap (drop 1) b.is)) w)

-- ## Without offsets: the path's own ticks

-- the clocks are the common one
common_ticks : (t : Read) (H : ℕ) (S : List Passage) (c : ℕ) (ws : List Work) → map (λ w. own_tick (setting_to t H S) c (work_tick w)) ws ≡ map work_tick ws
common_ticks t H S c [] = refl
common_ticks t H S c (w ∷ ws) = ap₂ (λ (n : ℕ) (l : List ℕ). n ∷ l) (same_clock t H S c (work_tick w)) (common_ticks t H S c ws)

-- the works on the path are those of the run
pub on-path : {t : Read} {H : ℕ} {S : List Passage} → Given t H S [] → (cs : List ℕ) → OnPath t H S cs
on-path {t} {H} {S} G cs d c h =
    subst (λ (ws : List Work). Begins (previous_of c (run (setting_to t H S) cs)) (no_work ∷ map work_tick (only (takes_part c) ws))) (sym d.worked)
    (subst (λ (l : List ℕ). Begins (previous_of c (run (setting_to t H S) cs)) (no_work ∷ l))
    (common_ticks t H S c (only (takes_part c) (run (setting_to t H S) cs).state.works))
    ((finishes_hold G cs).ticks c h))

-- ## For every list of numbers that is read as a table and accepted

pub finishes_apart : (G : ℕ) (table offs choices : List ℕ) → FinishesApartOf G table offs choices
finishes_apart G table offs choices t S r e p = finishes_hold (given_apart G t S offs (read_limits table t r) e p) choices

pub finishes_together : (table choices : List ℕ) → FinishesOf table choices
finishes_together table choices t S r e = let G = given t S (read_limits table t r) e in (finishes_hold G choices, on-path G choices)
