-- A tick of a run: not allowed while a sleep or listen is due, the end where a node is late, and otherwise the schedule's. Assumes nothing.
use mathlib.Core.Path.{◌≡◌, refl, sym, ap, subst, ◌∙◌}
use mathlib.Core.Logic.{◌⊎◌, inl, inr}
use mathlib.Core.Bool.{Bool, true, false, cond, ◌&&◌}
use mathlib.Core.List.{List, [], ◌∷◌}
use Prim.Native.Nat.{ℕ, zero, suc, ◌+◌, ◌-◌, ◌≤◌, ◌<◌}
use native.Mathlib.Omega.{arith}
use borrow.Author.Tests.{eqb-true, eqb-false, leb-true, leb-false}
use lib.Dec.{eqb}
use lib.ListN.{length, get_or}
use Rattle.model.specs.Table.{Read, size}
use Rattle.model.specs.Schedule.{Passage, own}
use Rattle.model.specs.Machine.{Node}
use Rattle.model.specs.Run.{Setting, setting_at, offset_of, own_tick, awake, Run, no_node, node_of, stand_of, Outcome, forbidden, on, over, ticked, due, some_due, late, late_nodes, after_tick}
use Rattle.model.specs.Demand3.{late_in}
use Rattle.model.proofs.Basics.Bools.{clash}
use Rattle.model.proofs.Schedule.Own.{all_then}
use Rattle.model.proofs.Network.Ahead.{along_tick}
use Rattle.model.proofs.Run.Tied.{Given, Tie, shown_by, clock_at, clocks_close, Tied}
use Rattle.model.proofs.Run.Node.{ticks_on, late_same}

-- ## The tests over all nodes

-- node i of these
abbrev node_at : List Node → ℕ → Node
node_at rs i = get_or rs i no_node

module _ (g : Setting) (now : ℕ) where
  -- node i of these, numbered from c on, is awake and due
  abbrev pub due_at : ℕ → List Node → ℕ → Bool
  due_at c rs i = awake g (c + i) now && due g (own_tick g (c + i) now) (node_at rs i) (stand_of (node_at rs i))

  -- the first of them
  due_first : (c : ℕ) (r : Node) (rs : List Node) → due_at c (r ∷ rs) 0 ≡ (awake g c now && due g (own_tick g c now) r (stand_of r))
  due_first c r rs = let e : c + 0 ≡ c = omega arith in ap (λ (i : ℕ). awake g i now && due g (own_tick g i now) r (stand_of r)) e

  -- the others
  due_next : (c : ℕ) (r : Node) (rs : List Node) (i : ℕ) → due_at c (r ∷ rs) (suc i) ≡ due_at (suc c) rs i
  due_next c r rs i =
      let e : c + suc i ≡ suc c + i = omega arith in
      ap (λ (j : ℕ). awake g j now && due g (own_tick g j now) (node_at rs i) (stand_of (node_at rs i))) e

  -- nobody is due
  pub due_none : (c : ℕ) (rs : List Node) → some_due g now c rs ≡ false → (i : ℕ) → i < length rs → due_at c rs i ≡ false
  unfolding some_due
  due_none c [] e i h = absurd (omega arith)
  due_none c (r ∷ rs) e i h = go (due_none (suc c) rs) (awake g c now && due g (own_tick g c now) r (stand_of r)) refl e i h
    where
      go : (some_due g now (suc c) rs ≡ false → (i : ℕ) → i < length rs → due_at (suc c) rs i ≡ false) → (x : Bool) → (awake g c now && due g (own_tick g c now) r (stand_of r)) ≡ x
          → cond x true (some_due g now (suc c) rs) ≡ false → (i : ℕ) → i < length (r ∷ rs) → due_at c (r ∷ rs) i ≡ false
      go ih true q e i h = clash (sym e)
      go ih false q e zero h = due_first c r rs ∙ q
      go ih false q e (suc i) h = due_next c r rs i ∙ ih e i (omega arith)

  -- somebody is due
  pub due_some : (c : ℕ) (rs : List Node) → some_due g now c rs ≡ true → (i : ℕ) × (i < length rs) × (due_at c rs i ≡ true)
  unfolding some_due
  due_some c [] e = clash e
  due_some c (r ∷ rs) e = go (due_some (suc c) rs) (awake g c now && due g (own_tick g c now) r (stand_of r)) refl e
    where
      go : (some_due g now (suc c) rs ≡ true → (i : ℕ) × (i < length rs) × (due_at (suc c) rs i ≡ true)) → (x : Bool) → (awake g c now && due g (own_tick g c now) r (stand_of r)) ≡ x
          → cond x true (some_due g now (suc c) rs) ≡ true → (i : ℕ) × (i < length (r ∷ rs)) × (due_at c (r ∷ rs) i ≡ true)
      go ih true q e = (0, omega arith, due_first c r rs ∙ q)
      go ih false q e = let m = ih e in (suc m.0, omega (arith, m.1), due_next c r rs m.0 ∙ m.2)

  -- node i of these, numbered from c on, is late
  abbrev late_at : ℕ → List Node → ℕ → Bool
  late_at c rs i = late g (own_tick g (c + i) now) (c + i) (node_at rs i) (stand_of (node_at rs i))

  -- the first of them
  late_first : (c : ℕ) (r : Node) (rs : List Node) → late_at c (r ∷ rs) 0 ≡ late g (own_tick g c now) c r (stand_of r)
  late_first c r rs = let e : c + 0 ≡ c = omega arith in ap (λ (i : ℕ). late g (own_tick g i now) i r (stand_of r)) e

  -- the others
  late_next : (c : ℕ) (r : Node) (rs : List Node) (i : ℕ) → late_at c (r ∷ rs) (suc i) ≡ late_at (suc c) rs i
  late_next c r rs i = let e : c + suc i ≡ suc c + i = omega arith in ap (λ (j : ℕ). late g (own_tick g j now) j (node_at rs i) (stand_of (node_at rs i))) e

  -- what the list of the late nodes says
  abbrev LateAs : ℕ → List Node → List ℕ → Type 0
  LateAs c rs [] = (i : ℕ) → i < length rs → late_at c rs i ≡ false
  LateAs c rs (d ∷ ds) = (i : ℕ) × (d ≡ c + i) × (i < length rs) × (late_at c rs i ≡ true) × ((j : ℕ) → j < length rs → late_at c rs j ≡ true → d ≤ c + j)

  -- so it is
  late_as : (c : ℕ) (rs : List Node) → LateAs c rs (late_nodes g now c rs)
  unfolding late_nodes
  late_as c [] = λ i h. absurd (omega arith)
  late_as c (r ∷ rs) = go (late g (own_tick g c now) c r (stand_of r)) refl (late_nodes g now (suc c) rs) (late_as (suc c) rs)
    where
      go : (x : Bool) → late g (own_tick g c now) c r (stand_of r) ≡ x → (l : List ℕ) → LateAs (suc c) rs l → LateAs c (r ∷ rs) (cond x (c ∷ l) l)
      go true q l a = (0, omega arith, omega arith, late_first c r rs ∙ q, λ j h e. omega arith)
      go false q [] a = both
        where
          both : (i : ℕ) → i < length (r ∷ rs) → late_at c (r ∷ rs) i ≡ false
          both zero h = late_first c r rs ∙ q
          both (suc i) h = late_next c r rs i ∙ a i (omega arith)
      go false q (d ∷ ds) a = (suc a.0, omega (arith, a.1), omega (arith, a.2), late_next c r rs a.0 ∙ a.3, least)
        where
          least : (j : ℕ) → j < length (r ∷ rs) → late_at c (r ∷ rs) j ≡ true → d ≤ c + j
          least zero h e = clash (sym (late_first c r rs ∙ q) ∙ e)
          least (suc j) h e = omega (arith, a.4 j (omega arith) (sym (late_next c r rs j) ∙ e))

-- ## What one choice leads to

module _ {t : Read} {H : ℕ} {S : List Passage} {offs : List ℕ} (G : Given t H S offs) where
  -- a state that the run goes on from
  pub record Live (s : Run) : Type 0 where
    pub tied : Tied G s
    pub below : s.tick < H

  -- node c is awake, and at a sleep or a listen that is due by its clock
  abbrev pub is_due : Run → ℕ → Bool
  is_due s c = awake (setting_at t H S offs) c s.tick && due (setting_at t H S offs) (clock_at G s.tick c) (node_of s c) (stand_of (node_of s c))

  -- late by its own clock
  abbrev pub late_by : Run → ℕ → Bool
  late_by s c = late_in (own c S) (clock_at G s.tick c) (node_of s c) (stand_of (node_of s c))

  -- a tick that makes a node late
  pub record TooLate (s : Run) (c : ℕ) : Type 0 where
    pub idle : (d : ℕ) → d < size t.table → is_due s d ≡ false
    pub there : c < size t.table
    pub late : late_by (ticked s) c ≡ true
    pub least : (d : ℕ) → d < size t.table → late_by (ticked s) d ≡ true → c ≤ d

  -- what choice b leads to in state s
  pub data Leads (s : Run) (b : ℕ) : Outcome → Type 0 where
    no : Leads s b forbidden
    onward : (u : Run) → Live u → u.used ≡ suc s.used → u.tick ≡ cond (eqb b 255) (suc s.tick) s.tick
        → (b < size t.table → offset_of (setting_at t H S offs) b ≤ s.tick) → Leads s b (on u)
    arrives : b ≡ 255 → Tied G (ticked s) → suc s.tick ≡ H → Leads s b (over (ticked s) 0 255)
    breaks : (c : ℕ) → b ≡ 255 → TooLate s c → Leads s b (over (ticked s) 2 c)

  -- no node's number is that of a tick
  pub no_tick : (c : ℕ) → c < size t.table → c ≡ 255 → ⊥
  no_tick c h e = omega (arith, G.limits.most_components)

  module _ {s : Run} (k : Live s) where
    -- the run's lateness after a tick is the schedule's
    late_then : (c : ℕ) → c < size t.table → late (setting_at t H S offs) (clock_at G (suc s.tick) c) c (node_of s c) (stand_of (node_of s c)) ≡ late_by (ticked s) c
    late_then c h = late_same G k.tied.along c h (k.tied.ties c h) (clock_at G (suc s.tick) c)

    -- the same for numbers from 0 on
    from_zero : (c : ℕ) → late_at (setting_at t H S offs) (suc s.tick) 0 s.nodes c ≡ late (setting_at t H S offs) (clock_at G (suc s.tick) c) c (node_of s c) (stand_of (node_of s c))
    from_zero c = let e : 0 + c ≡ c = omega arith in ap (λ (i : ℕ). late (setting_at t H S offs) (clock_at G (suc s.tick) i) i (node_of s c) (stand_of (node_of s c))) e

    pub due_zero : (c : ℕ) → due_at (setting_at t H S offs) s.tick 0 s.nodes c ≡ is_due s c
    due_zero c =
        let e : 0 + c ≡ c = omega arith in
        ap (λ (i : ℕ). awake (setting_at t H S offs) i s.tick && due (setting_at t H S offs) (clock_at G s.tick i) (node_of s c) (stand_of (node_of s c))) e

    -- what the tick does to the clock of a node and to its tie: nothing while it sleeps, or it goes on
    record Tocks (c : ℕ) : Type 0 where
      pub on : (clock_at G (suc s.tick) c ≡ clock_at G s.tick c)
          ⊎ ((clock_at G (suc s.tick) c ≡ suc (clock_at G s.tick c))
          × ((v : Passage) (vs : List Passage) → k.tied.ahead c ≡ v ∷ vs → v.ready ≤ clock_at G s.tick c → clock_at G s.tick c < v.end))
      pub tie : Tie t.table H S c (clock_at G (suc s.tick) c) (node_of s c) (shown_by c s.observations) (k.tied.ahead c)

    tocks : (c : ℕ) → c < size t.table → is_due s c ≡ false → late (setting_at t H S offs) (clock_at G (suc s.tick) c) c (node_of s c) (stand_of (node_of s c)) ≡ false → Tocks c
    tocks c h d l = go (awake (setting_at t H S offs) c s.tick) refl d
      where
        TieAt : ℕ → Type 0
        TieAt τ = Tie t.table H S c τ (node_of s c) (shown_by c s.observations) (k.tied.ahead c)

        go : (x : Bool) → awake (setting_at t H S offs) c s.tick ≡ x
            → (x && due (setting_at t H S offs) (clock_at G s.tick c) (node_of s c) (stand_of (node_of s c))) ≡ false → Tocks c
        go false q d =
            let b = leb-false (offset_of (setting_at t H S offs) c) s.tick q in
            let i : clock_at G (suc s.tick) c ≡ clock_at G s.tick c = omega arith in
            record { on = inl i; tie = subst TieAt (sym i) (k.tied.ties c h) }
        go true q d =
            let b = leb-true (offset_of (setting_at t H S offs) c) s.tick q in
            let i : clock_at G (suc s.tick) c ≡ suc (clock_at G s.tick c) = omega arith in
            let m = ticks_on G k.tied.along c h (k.tied.ties c h) d
            (subst (λ (n : ℕ). late (setting_at t H S offs) n c (node_of s c) (stand_of (node_of s c)) ≡ false) i l) in
            record { on = inr (i, m.room); tie = subst TieAt (sym i) m.tie }

    -- where nobody is due, and late afterwards, a tick passes
    tied_ticked : ((c : ℕ) → c < size t.table → is_due s c ≡ false)
        → ((c : ℕ) → c < size t.table → late (setting_at t H S offs) (clock_at G (suc s.tick) c) c (node_of s c) (stand_of (node_of s c)) ≡ false) → Tied G (ticked s)
    tied_ticked d l =
        record {
          ahead = k.tied.ahead;
          along =
              along_tick G.spread G.most t.table H S G.sched G.checks k.tied.along (clock_at G (suc s.tick)) (clocks_close G (suc s.tick))
              (λ c h. (tocks c h (d c h) (l c h)).on);
          came = k.tied.came;
          logged = record { sorted = k.tied.logged.sorted; each = all_then (λ w p. (p.0, omega (arith, p.1))) k.tied.logged.each };
          silent = λ c h i. k.tied.silent c h (omega arith);
          full = k.tied.full;
          ties = λ c h. (tocks c h (d c h) (l c h)).tie;
        }

    -- "Choice 255: a tick passes."
    pub tick_leads : (b : ℕ) → b ≡ 255 → Leads s b (cond (some_due (setting_at t H S offs) s.tick 0 s.nodes) forbidden (after_tick (setting_at t H S offs) (ticked s) (late_nodes (setting_at t H S offs) (suc s.tick) 0 s.nodes)))
    tick_leads b is =
        go (some_due (setting_at t H S offs) s.tick 0 s.nodes) refl (late_nodes (setting_at t H S offs) (suc s.tick) 0 s.nodes)
        (late_as (setting_at t H S offs) (suc s.tick) 0 s.nodes)
      where
        there : (c : ℕ) → c < size t.table → c < length s.nodes
        there c h = omega (arith, k.tied.full)

        is_tick : (u : ℕ) → u ≡ suc s.tick → u ≡ cond (eqb b 255) (suc s.tick) s.tick
        is_tick u e = e ∙ ap (λ (n : ℕ). cond (eqb n 255) (suc s.tick) s.tick) (sym is)

        idle : some_due (setting_at t H S offs) s.tick 0 s.nodes ≡ false → (c : ℕ) → c < size t.table → is_due s c ≡ false
        idle q c h = sym (due_zero c) ∙ due_none (setting_at t H S offs) s.tick 0 s.nodes q c (there c h)

        further : Tied G (ticked s) → (x : Bool) → eqb (suc s.tick) H ≡ x → Leads s b (cond x (over (ticked s) 0 255) (on (ticked s)))
        further p true q = arrives is p (eqb-true (suc s.tick) H q)
        further p false q =
            onward (ticked s) (record { tied = p; below = omega (arith, k.below, eqb-false (suc s.tick) H q) }) refl (is_tick (suc s.tick) refl)
            (λ h. absurd (no_tick b h is))

        go : (x : Bool) → some_due (setting_at t H S offs) s.tick 0 s.nodes ≡ x → (l : List ℕ) → LateAs (setting_at t H S offs) (suc s.tick) 0 s.nodes l
            → Leads s b (cond x forbidden (after_tick (setting_at t H S offs) (ticked s) l))
        go true q l a = no
        go false q [] a = further (tied_ticked (idle q) (λ c h. sym (from_zero c) ∙ a c (there c h))) (eqb (suc s.tick) H) refl
        go false q (d ∷ ds) a =
            let e : d ≡ a.0 = omega (arith, a.1) in
            let h : a.0 < size t.table = omega (arith, a.2, k.tied.full) in
            breaks d is
            (record {
              idle = idle q;
              there = omega arith;
              late = subst (λ (n : ℕ). late_by (ticked s) n ≡ true) (sym e) (sym (late_then a.0 h) ∙ (sym (from_zero a.0) ∙ a.3));
              least = λ c i f. omega (arith, a.4 c (there c i) (from_zero c ∙ (late_then c i ∙ f)));
            })
