-- The blocks of a table's program: each statement is lighter than those before it, and behind a sleep stands a work. Assumes nothing.
use mathlib.Core.Path.{◌≡◌, refl, sym, ap, subst, ◌∙◌}
use mathlib.Core.Bool.{Bool, true, false, cond}
use mathlib.Core.List.{List, [], ◌∷◌, ◌++◌, map}
use Prim.Native.Nat.{ℕ, zero, suc, ◌+◌, ◌≤◌, ◌<◌}
use native.Mathlib.Omega.{arith}
use lib.ListN.{length, length-append}
use Rattle.model.specs.declared.Action.{Action}
use Rattle.model.specs.declared.Action.TheVariants.{Internal, Send, Receive}
use Rattle.model.specs.declared.Update.{Update}
use Rattle.model.specs.Lists.{all, below}
use Rattle.model.specs.declared.TableHeader.{TableHeader}
use Rattle.model.specs.Table.{Component, arc_of}
use Rattle.model.specs.Limits.{ComponentIn}
use Rattle.model.specs.Window.{Entry, Pick, masked}
use Rattle.model.specs.Program.{Statement, sleep, set_to, add_to, done, send, listen, age, reset, enter, trial, low, high, data_low, data_high, keep, budget, take_edge, choose, ageing, update_of, work_of, edge_block}
use Rattle.model.specs.Machine.{exec, finish, to}
use Rattle.model.specs.Run.{stand_of, stand_at, stand, taking, nowhere}
use Rattle.model.proofs.Basics.Bools.{clash, and_is}
use Rattle.model.proofs.Program.BlockLaw.{tests}
use Rattle.model.proofs.Window.Choice.{choice_picked}
use Rattle.model.proofs.Node.Choosing.{Coded, Choosing, left_tests, choosing_taking, Asleep}
use Rattle.model.proofs.Node.Ageing.{ageing_from, choose_step}
use Rattle.model.proofs.Node.Phase.{Heading, is_ageing, is_entered, is_choosing}
use Rattle.model.proofs.Node.Facts.{is_way}
use Rattle.model.proofs.Progress.Weight.{weight, cost, plain, tests_plain}
use Rattle.model.proofs.Progress.Block.{location_light, ageing_plain, edge_light}

-- ## Weights

plain_rest : (p : List ℕ) (r : Rattle.model.specs.Machine.Node) (x : Statement) → plain x ≡ true → (exec p r x).rest ≡ r.rest
unfolding exec
plain_rest p r sleep e = refl
plain_rest p r (set_to v k) e = refl
plain_rest p r (add_to v k) e = refl
plain_rest p r done e = refl
plain_rest p r (send k) e = refl
plain_rest p r (listen qs) e = refl
plain_rest p r (age i) e = refl
plain_rest p r (reset i) e = refl
plain_rest p r (enter l) e = refl
plain_rest p r trial e = refl
plain_rest p r (low i k) e = refl
plain_rest p r (high i k) e = refl
plain_rest p r (data_low v k) e = refl
plain_rest p r (data_high v k) e = refl
plain_rest p r (keep e) f = refl
plain_rest p r (budget k) f = refl
plain_rest p r take_edge e = clash e
plain_rest p r choose e = clash e

cost_least : (x : Statement) → 1 ≤ cost x
cost_least sleep = omega arith
cost_least (set_to v k) = omega arith
cost_least (add_to v k) = omega arith
cost_least done = omega arith
cost_least (send k) = omega arith
cost_least (listen qs) = omega arith
cost_least (age i) = omega arith
cost_least (reset i) = omega arith
cost_least (enter l) = omega arith
cost_least trial = omega arith
cost_least (low i k) = omega arith
cost_least (high i k) = omega arith
cost_least (data_low v k) = omega arith
cost_least (data_high v k) = omega arith
cost_least (keep e) = omega arith
cost_least (budget k) = omega arith
cost_least take_edge = omega arith
cost_least choose = omega arith

module _ (p : List ℕ) (v : Rattle.model.specs.Machine.Node) where
  abbrev following : Rattle.model.specs.Machine.Node
  following = finish p v v.rest

  plain_less : (x : Statement) (xs : List Statement) → v.rest ≡ x ∷ xs → plain x ≡ true → weight following.rest < weight v.rest
  plain_less x xs e h =
      let a : following.rest ≡ xs = ap (λ (l : List Statement). (finish p v l).rest) e ∙ plain_rest p (to v xs) x h in
      omega (arith, ap weight a, ap weight e, cost_least x)

  -- a sleep or a statement of a work
  stand_plain : (x : Statement) → is_way (stand x) ≡ false → plain x ≡ true
  stand_plain sleep e = refl
  stand_plain (set_to v k) e = refl
  stand_plain (add_to v k) e = refl
  stand_plain done e = refl
  stand_plain (send k) e = refl
  stand_plain (listen qs) e = refl
  stand_plain (age i) e = clash (sym e)
  stand_plain (reset i) e = clash (sym e)
  stand_plain (enter l) e = clash (sym e)
  stand_plain trial e = clash (sym e)
  stand_plain (low i k) e = clash (sym e)
  stand_plain (high i k) e = clash (sym e)
  stand_plain (data_low v k) e = clash (sym e)
  stand_plain (data_high v k) e = clash (sym e)
  stand_plain (keep k) e = clash (sym e)
  stand_plain (budget k) e = clash (sym e)
  stand_plain take_edge e = clash (sym e)
  stand_plain choose e = clash (sym e)

  pub work_less : is_way (stand_of v) ≡ false → (stand_of v ≡ nowhere → ⊥) → weight following.rest < weight v.rest
  work_less e n = go v.rest refl
    where
      go : (l : List Statement) → v.rest ≡ l → weight following.rest < weight v.rest
      go [] q = absurd (n (ap stand_at q))
      go (x ∷ xs) q = plain_less x xs q (stand_plain x (sym (ap (λ (l : List Statement). is_way (stand_at l)) q) ∙ e))

-- how much it may be
ageing_weight : (mask d a n : ℕ) → weight (ageing_from mask d a n) ≤ n + 644
ageing_weight mask d a zero = omega arith
ageing_weight mask d a (suc n) = omega (arith, ageing_weight mask d (suc a) n, masked_cost (masked mask a))
  where
    masked_cost : (b : Bool) → cost (cond b (reset a) (age a)) ≤ 1
    masked_cost true = omega arith
    masked_cost false = omega arith

module _ {p : List ℕ} {channels : TableHeader} {C : Component} (codes : Coded p C) (fits : ComponentIn channels C) {i : ℕ} {at : Entry} {v : Rattle.model.specs.Machine.Node} where
  -- on the way, but at the take
  pub way_less : Heading C i at v → (stand_of v ≡ taking → ⊥) → weight (finish p v v.rest).rest < weight v.rest
  way_less (is_ageing g) n = go g.young refl
    where
      go : (ys : List ℕ) → g.young ≡ ys → weight (finish p v v.rest).rest < weight v.rest
      go [] e =
          plain_less p v (enter g.destination) (choose ∷ []) (g.rest ∙ ap (λ (l : List ℕ). ageing_from g.mask g.destination (length g.old) (length l)) e) refl
      go (y ∷ ys) e =
          plain_less p v (ageing g.mask (length g.old)) (ageing_from g.mask g.destination (suc (length g.old)) (length ys))
          (g.rest ∙ ap (λ (l : List ℕ). ageing_from g.mask g.destination (length g.old) (length l)) e)
          (ageing_plain g.mask (length g.old))
  way_less (is_entered g) n = omega (arith, light, ap weight g.rest)
    where
      q : Choosing C i at (finish p v v.rest)
      q = choose_step codes g

      light : weight (finish p v v.rest).rest < 643
      light = omega (arith, ap weight q.rest, location_light fits q.past q.left at.location q.block (left_tests q))
  way_less (is_choosing g) n = go g.left refl
    where
      go : (ss : List Statement) → g.left ≡ ss → weight (finish p v v.rest).rest < weight v.rest
      go [] e = absurd (n (choosing_taking g e))
      go (s ∷ ss) e =
          let ok : all tests (s ∷ ss) ≡ true = subst (λ (x : List Statement). all tests x ≡ true) e (left_tests g) in
          plain_less p v s (ss ++ (take_edge ∷ [])) (g.rest ∙ ap (λ (x : List Statement). x ++ (take_edge ∷ [])) e) (tests_plain s ((and_is (tests s) (all tests ss)).0 ok).0)

  pub heading_light : Heading C i at v → length v.clocks ≤ 4 → weight v.rest ≤ 658
  heading_light (is_ageing g) few =
      omega (arith, ap weight g.rest, ageing_weight g.mask g.destination (length g.old) (length g.young), ap length g.clocks, length-append (Rattle.model.specs.Window.aged g.mask (v.n + v.d) 0 g.old) g.young)
  heading_light (is_entered g) few = omega (arith, ap weight g.rest)
  heading_light (is_choosing g) few = omega (arith, ap weight g.rest, location_light fits g.past g.left at.location g.block (left_tests g))

  pub asleep_light : {k : Pick} → Asleep C i at k v → weight v.rest ≤ 658
  asleep_light {k} g = omega (arith, ap weight g.rest, edge_light fits k.edge (choice_picked C at g.chosen).present)

-- ## A sleep

-- behind the sleep of an edge's block stands a work
pub after_sleep : (p : List ℕ) (C : Component) (e : ℕ) (v : Rattle.model.specs.Machine.Node) → v.rest ≡ edge_block C e → is_way (stand_of (finish p v v.rest)) ≡ false
unfolding edge_block exec
after_sleep p C e v q = ap (λ (l : List Statement). is_way (stand_of (finish p v l))) q
    ∙ go (arc_of C e).edge.action (map (ageing (arc_of C e).edge.mask) (below C.clocks) ++ (enter (arc_of C e).edge.destination ∷ choose ∷ []))
  where
    head : (u : Update) → is_way (stand (update_of u)) ≡ false
    head u = by u.adds
      where
        by : (b : Bool) → is_way (stand (cond b (add_to u.variable u.number) (set_to u.variable u.number))) ≡ false
        by true = refl
        by false = refl

    internal : (us : List Update) (l : List Statement) → is_way (stand_at ((map update_of us ++ (done ∷ [])) ++ l)) ≡ false
    internal [] l = refl
    internal (u ∷ us) l = head u

    go : (a : Action) (l : List Statement) → is_way (stand_at (work_of (arc_of C e) a ++ l)) ≡ false
    go Internal l = internal (arc_of C e).updates l
    go (Send k) l = refl
    go Receive l = refl
