-- Due and not allowed by the run is due and not due by the schedule; so why a choice is not allowed. Assumes nothing.
use mathlib.Core.Path.{◌≡◌, refl, sym, ap, subst, ◌∙◌}
use mathlib.Core.Bool.{Bool, true, false, cond, ◌&&◌}
use mathlib.Core.List.{List, [], ◌∷◌}
use mathlib.Core.Option.{none, some}
use Prim.Native.Nat.{ℕ, suc, ◌+◌, ◌≤◌, ◌<◌}
use native.Mathlib.Omega.{arith}
use borrow.Author.Tests.{eqb-true, eqb-false, eq-eqb, ne_eqb, leb-true, leb-false, le-leb, lt-leb, ltb-true, ltb-false, lt-ltb, le-ltb}
use lib.Dec.{ltb, eqb}
use lib.ListN.{length}
use Rattle.model.specs.declared.Action.TheVariants.{Send}
use Rattle.model.specs.Table.{Component, Read, size, component_of, arc_of}
use Rattle.model.specs.Window.{Entry, Pick, listens}
use Rattle.model.specs.Schedule.{Passage, own}
use Rattle.model.specs.Machine.{Node}
use Rattle.model.specs.Run.{setting_at, offset_of, awake, Run, node_of, Stand, sleeping, sending, listening, finishing, adding, working, taking, elsewhere, nowhere, stand_of, window_end, listeners, forbidden, on, over, ticked, finishes, due, some_due, late_nodes, after_tick, choose1}
use Rattle.model.specs.Demand3.{DueIn, NotDueIn, EarlyIn}
use Rattle.model.proofs.Basics.Bools.{clash, and_is}
use Rattle.model.proofs.Node.Choosing.{Asleep, asleep_sleeping}
use Rattle.model.proofs.Node.Working.{Working}
use Rattle.model.proofs.Node.Phase.{Heading, Phase, is_heading, is_asleep, is_working, action_of}
use Rattle.model.proofs.Node.Facts.{is_work, is_way, heading_stand, working_stand, working_end}
use Rattle.model.proofs.Node.Listening.{heading_due, asleep_due, working_due}
use Rattle.model.proofs.Node.Schedule.{asleep_due_in, asleep_not_due_in, asleep_beyond_in, listening_due_in, listening_not_due_in, taking_not_due_in}
use Rattle.model.proofs.Node.Refused.{NotAllowed, early_sleep, early_listen, nothing_kept, unheard, not-allowed}
use Rattle.model.proofs.Run.Tied.{Given, Held, coming, waiting, busy, leaving, resting, Tie, shown_by, clock_at, coded, component-in, opened_first}
use Rattle.model.proofs.Run.Node.{nth_ahead, none_ahead}
use Rattle.model.proofs.Run.Tick.{Live, is_due, due_some, due_none, due_zero}
use Rattle.model.proofs.Run.Listener.{receives_only, listeners_are}

-- no stand is both on the way and at work
way_no_work : (x : Stand) → is_way x ≡ true → is_work x ≡ true → ⊥
way_no_work sleeping w v = clash w
way_no_work (sending k) w v = clash w
way_no_work (listening qs) w v = clash w
way_no_work finishing w v = clash w
way_no_work (adding x z) w v = clash w
way_no_work working w v = clash w
way_no_work taking w v = clash v
way_no_work elsewhere w v = clash v
way_no_work nowhere w v = clash w

-- a node on the way is not at work
heading_idle : {C : Component} {i : ℕ} {at at' : Entry} {j : Pick} {r : Node} → Heading C i at r → Working C i at' j r → ⊥
heading_idle {r = r} p w = way_no_work (stand_of r) (heading_stand p) (working_stand w)

-- nor is one asleep
asleep_idle : {C : Component} {i : ℕ} {at at' : Entry} {j k : Pick} {r : Node} → Asleep C i at k r → Working C i at' j r → ⊥
asleep_idle p w = clash (sym (ap is_work (asleep_sleeping p)) ∙ working_stand w)

module _ {t : Read} {H : ℕ} {S : List Passage} {offs : List ℕ} (G : Given t H S offs) {s : Run} (k : Live G s) where
  module _ (c : ℕ) (h : c < size t.table) where
    -- its component
    abbrev C : Component
    C = component_of t.table c

    -- its node
    abbrev r : Node
    r = node_of s c

    -- its clock
    abbrev now : ℕ
    now = clock_at G s.tick c

    -- its tie
    abbrev K : Tie t.table H S c now r (shown_by c s.observations) (k.tied.ahead c)
    K = k.tied.ties c h

    -- due by the run is due by the schedule
    due_in : due (setting_at t H S offs) now r (stand_of r) ≡ true → DueIn (own c S) now r (stand_of r)
    due_in d = go K.held
      where
        listen : (v : Passage) (vs : List Passage) → k.tied.ahead c ≡ v ∷ vs → (j : Pick) → Working C K.count v.entry j r → (x : Bool) → listens (arc_of C j.edge) ≡ x
            → cond x (eqb now (v.entry.tick + j.end)) false ≡ true → DueIn (own c S) now r (stand_of r)
        listen v vs e j p true l f =
            listening_due_in (own c S) now (opened_first G k.tied.along c h v vs e) (nth_ahead G k.tied.along c h K v vs e) p
            (receives_only (action_of C j) l)
            (ap (eqb now) (working_end p) ∙ f)
        listen v vs e j p false l f = clash f

        go : Held H C now K.count r (k.tied.ahead c) K.more → DueIn (own c S) now r (stand_of r)
        go (coming v vs e m l p) = clash (sym (heading_due (setting_at t H S offs) now p) ∙ d)
        go (waiting v vs e m l j p) =
            asleep_due_in (own c S) now (opened_first G k.tied.along c h v vs e) (nth_ahead G k.tied.along c h K v vs e) p
            (ap (eqb now) p.t ∙ (sym (asleep_due (setting_at t H S offs) now p) ∙ d))
        go (busy v vs e m l b j p) = listen v vs e j p (listens (arc_of C j.edge)) refl (sym (working_due (setting_at t H S offs) now p) ∙ d)
        go (leaving at e m l p) = clash (sym (heading_due (setting_at t H S offs) now p) ∙ d)
        go (resting at e m l j p) =
            absurd (omega (arith, k.below, eqb-true now (at.tick + j.ready) (sym (asleep_due (setting_at t H S offs) now p) ∙ d)))

    -- not allowed by the run is not due by the schedule
    not_due_in : finishes (setting_at t H S offs) s c (stand_of r) ≡ forbidden → NotDueIn (own c S) now r (stand_of r)
    not_due_in f = go K.held
      where
        why : (at : Entry) → Phase C K.count at r → NotAllowed (setting_at t H S offs) C K.count at s c
        why at p = not-allowed (setting_at t H S offs) s c (coded G c h) (component-in G c h) p f

        -- in a passage
        within : (v : Passage) (vs : List Passage) → k.tied.ahead c ≡ v ∷ vs
            → ((j : Pick) (a : ℕ) → Working C K.count v.entry j r → action_of C j ≡ Send a → listeners (setting_at t H S offs) s c a ≡ [] → ⊥)
            → NotAllowed (setting_at t H S offs) C K.count v.entry s c → NotDueIn (own c S) now r (stand_of r)
        within v vs e heard (early_sleep j p x) =
            asleep_not_due_in (own c S) now (opened_first G k.tied.along c h v vs e) (nth_ahead G k.tied.along c h K v vs e) p x
        within v vs e heard (early_listen j p act x) =
            listening_not_due_in (own c S) now (opened_first G k.tied.along c h v vs e) (nth_ahead G k.tied.along c h K v vs e) p act x
        within v vs e heard (nothing_kept p x n) =
            let o = (opened_first G k.tied.along c h v vs e).opens in
            let z : none ≡ some o.pick = sym n ∙ o.taken in
            let z : ◌≡◌ {A = ℕ} 0 1 = cc in
            absurd (omega arith)
        within v vs e heard (unheard j a p act l) = absurd (heard j a p act l)

        -- beyond the last one
        beyond : (at : Entry) → k.tied.ahead c ≡ [] → ((j : Pick) → Working C K.count at j r → ⊥) → NotAllowed (setting_at t H S offs) C K.count at s c → NotDueIn (own c S) now r (stand_of r)
        beyond at e idle (early_sleep j p x) = asleep_beyond_in (own c S) now (none_ahead G k.tied.along c h K e) p
        beyond at e idle (early_listen j p act x) = absurd (idle j p)
        beyond at e idle (nothing_kept p x n) = taking_not_due_in (own c S) now (none_ahead G k.tied.along c h K e) p x
        beyond at e idle (unheard j a p act l) = absurd (idle j p)

        listener : (v : Passage) (vs : List Passage) → k.tied.ahead c ≡ v ∷ vs → v.ready ≤ now → (j : Pick) (a : ℕ) → Working C K.count v.entry j r → action_of C j ≡ Send a
            → listeners (setting_at t H S offs) s c a ≡ [] → ⊥
        listener v vs e l j a p act n =
            let z : [] ≡ _ ∷ [] = sym n ∙ listeners_are G k c h v vs e l p a act in
            let z : ◌≡◌ {A = ℕ} 0 1 = cc in
            omega arith

        go : Held H C now K.count r (k.tied.ahead c) K.more → NotDueIn (own c S) now r (stand_of r)
        go (coming v vs e m l p) = within v vs e (λ j a w act n. heading_idle p w) (why v.entry (is_heading p))
        go (waiting v vs e m l j p) = within v vs e (λ i a w act n. asleep_idle p w) (why v.entry (is_asleep j p))
        go (busy v vs e m l b j p) = within v vs e (listener v vs e l) (why v.entry (is_working j p))
        go (leaving at e m l p) = beyond at e (λ j w. heading_idle p w) (why at (is_heading p))
        go (resting at e m l j p) = beyond at e (λ i w. asleep_idle p w) (why at (is_asleep j p))

  -- why choice b is not allowed
  pub data WhyNot (b : ℕ) : Type 0 where
    no_node : size t.table ≤ b → (b ≡ 255 → ⊥) → WhyNot b
    asleep : b < size t.table → s.tick < offset_of (setting_at t H S offs) b → WhyNot b
    not_due : b < size t.table → NotDueIn (own b S) (clock_at G s.tick b) (node_of s b) (stand_of (node_of s b)) → WhyNot b
    tick_due : b ≡ 255 → (c : ℕ) → c < size t.table → offset_of (setting_at t H S offs) c ≤ s.tick → DueIn (own c S) (clock_at G s.tick c) (node_of s c) (stand_of (node_of s c)) → WhyNot b

  -- a tick is not allowed only where somebody is due
  tick-due : (x : Bool) (l : List ℕ) → cond x forbidden (after_tick (setting_at t H S offs) (ticked s) l) ≡ forbidden → x ≡ true
  tick-due true l e = refl
  tick-due false (d ∷ ds) e = let z : ◌≡◌ {A = ℕ} 0 1 = cc in absurd (omega arith)
  tick-due false [] e = go (eqb (suc s.tick) H) e
    where
      go : (x : Bool) → cond x (over (ticked s) 0 255) (on (ticked s)) ≡ forbidden → false ≡ true
      go true f = let z : ◌≡◌ {A = ℕ} 0 1 = cc in absurd (omega arith)
      go false f = let z : ◌≡◌ {A = ℕ} 0 1 = cc in absurd (omega arith)

  -- the law
  pub why_not : (b : ℕ) → choose1 (setting_at t H S offs) s b ≡ forbidden → WhyNot b
  unfolding choose1
  why_not b e = go (eqb b 255) refl (ltb b (length s.nodes)) refl (awake (setting_at t H S offs) b s.tick) refl e
    where
      l : List ℕ
      l = late_nodes (setting_at t H S offs) (suc s.tick) 0 s.nodes

      x : Bool
      x = some_due (setting_at t H S offs) s.tick 0 s.nodes

      go : (y : Bool) → eqb b 255 ≡ y → (z : Bool) → ltb b (length s.nodes) ≡ z → (w : Bool) → awake (setting_at t H S offs) b s.tick ≡ w
          → cond y (cond x forbidden (after_tick (setting_at t H S offs) (ticked s) l)) (cond (z && w) (finishes (setting_at t H S offs) s b (stand_of (node_of s b))) forbidden) ≡ forbidden → WhyNot b
      go true p z q w o f =
          let d = due_some (setting_at t H S offs) s.tick 0 s.nodes (tick-due x l f) in
          let i : d.0 < size t.table = omega (arith, d.1, k.tied.full) in
          let j : is_due G s d.0 ≡ true = sym (due_zero G k d.0) ∙ d.2 in
          let m = (and_is (awake (setting_at t H S offs) d.0 s.tick) (due (setting_at t H S offs) (clock_at G s.tick d.0) (node_of s d.0) (stand_of (node_of s d.0)))).0 j in
          tick_due (eqb-true b 255 p) d.0 i (leb-true (offset_of (setting_at t H S offs) d.0) s.tick m.0) (due_in d.0 i m.1)
      go false p true q true o f = let i : b < size t.table = omega (arith, ltb-true b (length s.nodes) q, k.tied.full) in not_due i (not_due_in b i f)
      go false p true q false o f =
          asleep (omega (arith, ltb-true b (length s.nodes) q, k.tied.full)) (leb-false (offset_of (setting_at t H S offs) b) s.tick o)
      go false p false q w o f = no_node (omega (arith, ltb-false b (length s.nodes) q, k.tied.full)) (eqb-false b 255 p)

  -- ## The other way

  -- a sleep or listen that is not due by the schedule is not allowed by the run
  early_not : (c : ℕ) → c < size t.table → (x : Stand) → stand_of (node_of s c) ≡ x → EarlyIn (own c S) (clock_at G s.tick c) (node_of s c) x
      → finishes (setting_at t H S offs) s c x ≡ forbidden
  early_not c h x q e = go x q e
    where
      by_due : (y : Stand) → stand_of (node_of s c) ≡ y → due (setting_at t H S offs) (clock_at G s.tick c) (node_of s c) y ≡ true → DueIn (own c S) (clock_at G s.tick c) (node_of s c) y
      by_due y q d = subst (DueIn (own c S) (clock_at G s.tick c) (node_of s c)) q (due_in c h (ap (due (setting_at t H S offs) (clock_at G s.tick c) (node_of s c)) q ∙ d))

      -- a choice allowed where a test holds, and the test fails
      unless : (y : Bool) (u : Run) → (y ≡ true → ⊥) → cond y (on u) forbidden ≡ forbidden
      unless true u n = absurd (n refl)
      unless false u n = refl

      go : (y : Stand) → stand_of (node_of s c) ≡ y → EarlyIn (own c S) (clock_at G s.tick c) (node_of s c) y → finishes (setting_at t H S offs) s c y ≡ forbidden
      go sleeping q e = unless (eqb (clock_at G s.tick c) (node_of s c).t) _ (λ d. e (by_due sleeping q d))
      go (sending a) q e = absurd e
      go (listening qs) q e = unless (eqb (clock_at G s.tick c) (window_end (node_of s c))) _ (λ d. e (by_due (listening qs) q d))
      go finishing q e = absurd e
      go (adding v z) q e = absurd e
      go working q e = absurd e
      go taking q e = absurd e
      go elsewhere q e = absurd e
      go nowhere q e = absurd e

  -- due by the schedule is due by the run
  in_due : (c : ℕ) → c < size t.table → DueIn (own c S) (clock_at G s.tick c) (node_of s c) (stand_of (node_of s c)) → due (setting_at t H S offs) (clock_at G s.tick c) (node_of s c) (stand_of (node_of s c)) ≡ true
  in_due c h d = go (stand_of (node_of s c)) refl d
    where
      not-due : (y : Stand) → stand_of (node_of s c) ≡ y → finishes (setting_at t H S offs) s c y ≡ forbidden → NotDueIn (own c S) (clock_at G s.tick c) (node_of s c) y
      not-due y q f = subst (NotDueIn (own c S) (clock_at G s.tick c) (node_of s c)) q (not_due_in c h (ap (finishes (setting_at t H S offs) s c) q ∙ f))

      -- a test that cannot fail
      holds : (y : Bool) (u : Run) → (cond y (on u) forbidden ≡ forbidden → ⊥) → y ≡ true
      holds true u n = refl
      holds false u n = absurd (n refl)

      go : (y : Stand) → stand_of (node_of s c) ≡ y → DueIn (own c S) (clock_at G s.tick c) (node_of s c) y → due (setting_at t H S offs) (clock_at G s.tick c) (node_of s c) y ≡ true
      go sleeping q d = holds (eqb (clock_at G s.tick c) (node_of s c).t) _ (λ f. not-due sleeping q f d)
      go (sending a) q d = absurd d
      go (listening qs) q d = holds (eqb (clock_at G s.tick c) (window_end (node_of s c))) _ (λ f. not-due (listening qs) q f d)
      go finishing q d = absurd d
      go (adding v z) q d = absurd d
      go working q d = absurd d
      go taking q d = absurd d
      go elsewhere q d = absurd d
      go nowhere q d = absurd d

  -- what bars choice b
  pub data BarredBy (b : ℕ) : Type 0 where
    absent : size t.table ≤ b → (b ≡ 255 → ⊥) → BarredBy b
    unwoken : b < size t.table → s.tick < offset_of (setting_at t H S offs) b → BarredBy b
    early : b < size t.table → offset_of (setting_at t H S offs) b ≤ s.tick → EarlyIn (own b S) (clock_at G s.tick b) (node_of s b) (stand_of (node_of s b)) → BarredBy b
    pending : b ≡ 255 → (c : ℕ) → c < size t.table → offset_of (setting_at t H S offs) c ≤ s.tick → DueIn (own c S) (clock_at G s.tick c) (node_of s c) (stand_of (node_of s c)) → BarredBy b

  -- one node due is somebody due
  one_due : (c : ℕ) → c < size t.table → offset_of (setting_at t H S offs) c ≤ s.tick → due (setting_at t H S offs) (clock_at G s.tick c) (node_of s c) (stand_of (node_of s c)) ≡ true
      → some_due (setting_at t H S offs) s.tick 0 s.nodes ≡ true
  one_due c h o d = go (some_due (setting_at t H S offs) s.tick 0 s.nodes) refl
    where
      is : is_due G s c ≡ true
      is =
          (and_is (awake (setting_at t H S offs) c s.tick) (due (setting_at t H S offs) (clock_at G s.tick c) (node_of s c) (stand_of (node_of s c)))).1
          (le-leb (offset_of (setting_at t H S offs) c) s.tick o, d)

      go : (x : Bool) → some_due (setting_at t H S offs) s.tick 0 s.nodes ≡ x → x ≡ true
      go true e = refl
      go false e = clash (sym (due_none (setting_at t H S offs) s.tick 0 s.nodes e c (omega (arith, k.tied.full))) ∙ (due_zero G k c ∙ is))

  -- what is barred by the schedule is not allowed
  pub barred_not : (b : ℕ) → BarredBy b → choose1 (setting_at t H S offs) s b ≡ forbidden
  unfolding choose1
  barred_not b (absent h n) = rw (ne_eqb b 255 n, le-ltb b (length s.nodes) (omega (arith, k.tied.full)))
  barred_not b (unwoken h n) =
      rw (
        ne_eqb b 255 (omega (arith, G.limits.most_components)),
        lt-ltb b (length s.nodes) (omega (arith, k.tied.full)),
        lt-leb (offset_of (setting_at t H S offs) b) s.tick n,
      )
  barred_not b (early h o e) =
      rw (
        ne_eqb b 255 (omega (arith, G.limits.most_components)),
        lt-ltb b (length s.nodes) (omega (arith, k.tied.full)),
        le-leb (offset_of (setting_at t H S offs) b) s.tick o,
      )
      (early_not b h (stand_of (node_of s b)) refl e)
  barred_not b (pending i c h o d) = rw (eq-eqb b 255 i, one_due c h o (in_due c h d))
