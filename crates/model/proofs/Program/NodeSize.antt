-- How long the program of a node in the limits is: its length and its starts have two bytes. Assumes nothing.
use mathlib.Core.Path.{◌≡◌, ap}
use mathlib.Core.Bool.{Bool, true, false, cond}
use mathlib.Core.List.{List, [], ◌∷◌, ◌++◌, map}
use Prim.Native.Nat.{ℕ, zero, suc, ◌+◌, ◌*◌, ◌≤◌, ◌<◌}
use native.Mathlib.Omega.{arith}
use lib.Dec.{eqb}
use lib.ListN.{length, length-append}
use Rattle.model.specs.declared.Action.{Action}
use Rattle.model.specs.declared.Action.TheVariants.{Internal, Send, Receive}
use Rattle.model.specs.declared.Location.{Location}
use Rattle.model.specs.declared.Sizes.{Sizes}
use Rattle.model.specs.Lists.{All, empty, more, each, from, below}
use Rattle.model.specs.Table.{TableHeader, header_of, Arc, Component, sizes_of, no_arc, location_of, arc_of}
use Rattle.model.specs.Limits.{ActionIn, ArcIn, ComponentIn}
use Rattle.model.specs.Program.{Statement, take_edge, trial_of, trials, location_block, edge_block_of, edge_block, block_bytes, blocks, start_bytes, node_body, node_bytes}
use Rattle.model.proofs.Basics.Walk.{all_at}
use Rattle.model.proofs.Basics.Sums.{each_join}
use Rattle.model.proofs.Program.Size.{all_quads, quads_length, block_length, trial-length, clock_tests_most, budget_test_most, trial_parts, work_length, edge_block_length, start_bytes_length, blocks_count}

-- ## Counts of statements

-- two lists, one after the other
quads_join : (a b : List Statement) → all_quads (a ++ b) ≡ all_quads a + all_quads b
quads_join a b = omega (arith, block_length a b, quads_length (a ++ b), quads_length a, quads_length b)

module _ (s : Sizes) where
  -- at most four data bounds
  guards_count : (a : Arc) (act : Action) → ActionIn s a act → length a.data_guards ≤ 4
  guards_count a Internal h = h.guards
  guards_count a (Send k) h = h.guards
  guards_count a Receive h = omega (arith, ap length h.guards)

  -- at most 20 for the trial of an edge
  trial_count : (l : Location) (e : ℕ) (a : Arc) → ArcIn s a → all_quads (trial_of l e a) ≤ 20
  trial_count l e a h =
      omega (arith, quads_length (trial_of l e a), trial-length l e a, trial_parts a, budget_test_most a.budget, clock_tests_most a.clock_guards, guards_count a a.edge.action h.action)

  -- at most 20 for each edge
  trials_count : (l : Location) (here e : ℕ) {as' : List Arc} → All (ArcIn s) as' → all_quads (trials l here e as') ≤ length as' * 20
  unfolding trials
  trials_count l here e empty = omega arith
  trials_count l here e (more {x = a} {xs = as'} h t) = go (trials l here (suc e) as') (trials_count l here (suc e) t) (eqb a.edge.source here)
    where
      go : (r : List Statement) → all_quads r ≤ length as' * 20 → (u : Bool) → all_quads (cond u (trial_of l e a ++ r) r) ≤ suc (length as') * 20
      go r k true = omega (arith, quads_join (trial_of l e a) r, trial_count l e a h)
      go r k false = omega arith

  -- at most 36 bytes for the work of an edge
  work_small : (a : Arc) (act : Action) → ActionIn s a act → work_length a act ≤ 36
  unfolding work_length
  work_small a Internal h = omega arith
  work_small a (Send k) h = omega arith
  work_small a Receive h = omega arith

  -- at most 16 for the block of an edge
  edge_count : (n : ℕ) (a : Arc) → n ≤ 4 → ArcIn s a → all_quads (edge_block_of n a) ≤ 16
  edge_count n a k h = omega (arith, quads_length (edge_block_of n a), edge_block_length n a, work_small a a.edge.action h.action)

-- ## Lengths of rows

module _ (f : ℕ → List Statement) (m : ℕ) where
  -- blocks of a kind, none longer than m
  row_length : (k n : ℕ) → ((i : ℕ) → i < k + n → length (block_bytes (f i)) ≤ m) → length (each block_bytes (map f (from k n))) ≤ n * m
  unfolding each
  row_length k zero h = omega arith
  row_length k (suc n) h =
      let R = each block_bytes (map f (from (suc k) n)) in
      let t = row_length (suc k) n (λ i u. h i (omega arith)) in
      omega (arith, length-append (block_bytes (f k)) R, h k (omega arith), t)

-- ## The laws

module _ (channels : TableHeader) (C : Component) (h : ComponentIn channels C) where
  -- at most 641 statements for a location
  pub location_count : (l : ℕ) → all_quads (location_block C l) ≤ 641
  unfolding location_block
  location_count l =
      let T = trials (location_of C l) l 0 C.arcs in
      omega (arith, quads_join T (take_edge ∷ []), trials_count (sizes_of channels C) (location_of C l) l 0 h.arcs)

  -- at most 16 for an edge
  pub edge_counted : (e : ℕ) → e < length C.arcs → all_quads (edge_block C e) ≤ 16
  unfolding edge_block
  edge_counted e k = edge_count (sizes_of channels C) C.clocks (arc_of C e) h.most_clocks (all_at no_arc h.arcs e k)

  -- the blocks of a node have at most 43,072 bytes
  pub blocks_length : length (each block_bytes (blocks C)) ≤ 43072
  unfolding blocks
  blocks_length =
      let L = map (location_block C) (below (length C.locations)) in
      let E = map (edge_block C) (below (length C.arcs)) in
      let x = row_length (location_block C) 2564 0 (length C.locations) (λ i u. omega (arith, quads_length (location_block C i), location_count i)) in
      let y = row_length (edge_block C) 64 0 (length C.arcs) (λ i u. omega (arith, quads_length (edge_block C i), edge_counted i (omega arith))) in
      omega (arith, ap length (each_join block_bytes L E), length-append (each block_bytes L) (each block_bytes E))

  -- a node has at most 43,174 bytes
  pub node_small : length (node_bytes C) ≤ 43174
  unfolding node_bytes node_body
  node_small =
      let S = start_bytes 0 (blocks C) in
      let B = each block_bytes (blocks C) in
      omega (arith, length-append S B, start_bytes_length 0 (blocks C), blocks_count C, blocks_length)
