-- The blocks of a component in the limits are blocks: their numbers fit, and the last statement alone ends them. Assumes nothing.
use mathlib.Core.Path.{◌≡◌, refl}
use mathlib.Core.Bool.{Bool, true, false, cond}
use mathlib.Core.Logic.{◌⊎◌, inl, inr}
use mathlib.Core.Option.{Option, none, some}
use mathlib.Core.List.{List, ◌∷◌, ◌++◌, map}
use Prim.Native.Nat.{ℕ, zero, suc, ◌+◌, ◌≤◌, ◌<◌}
use native.Mathlib.Omega.{arith}
use lib.Dec.{eqb}
use lib.ListN.{length}
use Rattle.model.specs.declared.Action.{Action}
use Rattle.model.specs.declared.Action.TheVariants.{Internal, Send, Receive}
use Rattle.model.specs.declared.Location.{Location}
use Rattle.model.specs.declared.ClockGuard.{ClockGuard}
use Rattle.model.specs.declared.DataGuard.{DataGuard}
use Rattle.model.specs.declared.Update.{Update}
use Rattle.model.specs.declared.Pair.{Pair}
use Rattle.model.specs.declared.Sizes.{Sizes}
use Rattle.model.specs.Lists.{All, empty, more, from}
use Rattle.model.specs.Table.{TableHeader, header_of, Arc, Component, sizes_of, no_location, no_arc, location_of, arc_of}
use Rattle.model.specs.Limits.{BudgetIn, LocationIn, ClockGuardIn, DataGuardIn, UpdateIn, PairIn, ActionIn, ArcIn, ComponentIn}
use Rattle.model.specs.Window.{masked}
use Rattle.model.specs.Program.{Statement, sleep, set_to, add_to, done, send, listen, age, reset, enter, trial, low, high, data_low, data_high, keep, budget, clock_tests, data_tests, budget_test, trial_of, trials, location_block, update_of, work_of, ageing, edge_block_of, edge_block}
use Rattle.model.proofs.Basics.Words.{all_join}
use Rattle.model.proofs.Basics.Walk.{all_at}
use Rattle.model.proofs.Program.Statement.{PairFits, Fitting, ends}
use Rattle.model.proofs.Program.Block.{Inside, Block, last, after, block_join}

-- a statement whose numbers fit, and that does not end a block
inside : (s : Statement) → Fitting s → ends s ≡ false → Inside s
inside s h e = record { fits = h; onward = e }

-- ageing statements of so many clocks, from number k on
ageing_inside : (mask k n : ℕ) → k + n ≤ 256 → All Inside (map (ageing mask) (from k n))
ageing_inside mask k zero h = empty
ageing_inside mask k (suc n) h = more (go (masked mask k)) (ageing_inside mask (suc k) n (omega arith))
  where
    go : (t : Bool) → Inside (cond t (reset k) (age k))
    go true = inside (reset k) (omega arith) refl
    go false = inside (age k) (omega arith) refl

module _ (s : Sizes) (channels : s.channels ≤ 16) (locations : s.locations ≤ 16) (clocks : s.clocks ≤ 4) (variables : s.variables ≤ 4) where
  -- ## Location blocks

  -- the tests of clock bounds
  clocks_inside : {gs : List ClockGuard} → All (ClockGuardIn s) gs → All Inside (clock_tests gs)
  clocks_inside empty = empty
  clocks_inside (more {x = g} {xs = gs} h a) = more (inside (low g.clock g.low) (omega arith) refl) (go (clocks_inside a) (eqb g.high 65535) h.high)
    where
      go : All Inside (clock_tests gs) → (t : Bool) → (g.high ≤ 60000) ⊎ (g.high ≡ 65535) → All Inside (cond t (clock_tests gs) (high g.clock g.high ∷ clock_tests gs))
      go rest true k = rest
      go rest false (inl p) = more (inside (high g.clock g.high) (omega arith) refl) rest
      go rest false (inr p) = more (inside (high g.clock g.high) (omega arith) refl) rest

  -- the tests of data bounds
  datas_inside : {gs : List DataGuard} → All (DataGuardIn s) gs → All Inside (data_tests gs)
  datas_inside empty = empty
  datas_inside (more {x = g} h a) =
      more (inside (data_low g.variable g.low) (omega arith, h.low) refl)
      (more (inside (data_high g.variable g.high) (omega arith, h.high) refl) (datas_inside a))

  -- the test of the budget
  budget_inside : (b : Bool) (o : Option ℕ) → BudgetIn b o → All Inside (budget_test o)
  budget_inside true none h = absurd h
  budget_inside true (some n) h = more (inside (budget n) (omega arith) refl) empty
  budget_inside false none h = empty
  budget_inside false (some n) h = absurd h

  module _ (l : Location) (lh : LocationIn s l) where
    -- the trial of an edge
    trial_inside : (e : ℕ) (a : Arc) → e < 256 → ArcIn s a → All Inside (trial_of l e a)
    trial_inside e a k h =
        more (inside trial tt refl)
        (more (inside (high l.clock l.bound) (omega arith) refl)
        (all_join (clocks_inside h.clock_guards) (all_join (datas_inside h.data_guards) (all_join (budget_inside s.budgets a.budget h.budget) (more (inside (keep e) k refl) empty)))))

    -- the trials of the edges from number e on
    trials_inside : (here e : ℕ) {as' : List Arc} → All (ArcIn s) as' → e + length as' ≤ 256 → All Inside (trials l here e as')
    unfolding trials
    trials_inside here e empty k = empty
    trials_inside here e (more {x = a} {xs = as'} h t) k = go (trials_inside here (suc e) t (omega arith)) (eqb a.edge.source here)
      where
        go : All Inside (trials l here (suc e) as') → (u : Bool) → All Inside (cond u (trial_of l e a ++ trials l here (suc e) as') (trials l here (suc e) as'))
        go rest true = all_join (trial_inside e a (omega arith) h) rest
        go rest false = rest

  -- ## Edge blocks

  -- the updates of an internal edge
  updates_inside : {us : List Update} → All (UpdateIn s) us → All Inside (map update_of us)
  updates_inside empty = empty
  updates_inside (more {x = u} h a) = more (go u.adds) (updates_inside a)
    where
      go : (t : Bool) → Inside (cond t (add_to u.variable u.number) (set_to u.variable u.number))
      go true = inside (add_to u.variable u.number) (omega arith, h.number) refl
      go false = inside (set_to u.variable u.number) (omega arith, h.number) refl

  -- the pairs of a receive edge
  pairs_fit : {qs : List Pair} → All (PairIn s) qs → All PairFits qs
  pairs_fit empty = empty
  pairs_fit (more {x = q} h a) = more {x = q} (record { channel = omega arith; location = omega arith }) (pairs_fit a)

  -- the work of an edge
  work_inside : (a : Arc) (act : Action) → ActionIn s a act → All Inside (work_of a act)
  work_inside a Internal h = all_join (updates_inside h.updates) (more (inside done tt refl) empty)
  work_inside a (Send k) h = more (inside (send k) (omega arith) refl) empty
  work_inside a Receive h = more (inside (listen a.pairs) (omega arith, pairs_fit h.pairs) refl) empty

  -- an edge's block is a block
  edge_is : (n : ℕ) (a : Arc) → n ≤ 4 → ArcIn s a → Block (edge_block_of n a)
  edge_is n a k h =
      after (inside sleep tt refl)
      (block_join (work_inside a a.edge.action h.action)
      (block_join (ageing_inside a.edge.mask 0 n (omega arith)) (after (inside (enter a.edge.destination) (omega arith) refl) (last tt refl))))

-- ## The laws

module _ (channels : TableHeader) (C : Component) (small : channels.channels ≤ 16) (h : ComponentIn channels C) where
  -- each location's block is a block
  pub location-block : (l : ℕ) → l < length C.locations → Block (location_block C l)
  unfolding location_block
  location-block l k =
      let s = sizes_of channels C in
      let lh = all_at no_location h.locations l k in
      block_join (trials_inside s small h.most_locations h.most_clocks h.variables (location_of C l) lh l 0 h.arcs (omega arith)) (last tt refl)

  -- each edge's block is a block
  pub edge-block : (e : ℕ) → e < length C.arcs → Block (edge_block C e)
  unfolding edge_block
  edge-block e k =
      edge_is (sizes_of channels C) small h.most_locations h.most_clocks h.variables C.clocks (arc_of C e) h.most_clocks (all_at no_arc h.arcs e k)
