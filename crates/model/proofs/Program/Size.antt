-- How long a program is: every edge's trial stands in one location block, that of its source. A program is at most twice as long
-- as its table and 32 bytes more for each edge: at most 24,576 bytes. Assumes nothing.
use mathlib.Core.Path.{◌≡◌, refl, sym, ap, ◌∙◌}
use mathlib.Core.Bool.{Bool, true, false, cond}
use mathlib.Core.Option.{Option, none, some}
use mathlib.Core.List.{List, [], ◌∷◌, ◌++◌, map}
use Prim.Native.Nat.{ℕ, zero, suc, ◌+◌, ◌*◌, ◌≤◌, ◌<◌}
use native.Mathlib.Omega.{arith}
use borrow.Author.Tests.{eqb-true, eqb-false, ne_eqb}
use lib.Dec.{eqb}
use lib.ListN.{length, length-append, length-map}
use Rattle.model.specs.declared.Action.{Action}
use Rattle.model.specs.declared.Action.TheVariants.{Internal, Send, Receive}
use Rattle.model.specs.declared.Location.{Location}
use Rattle.model.specs.declared.ClockGuard.{ClockGuard}
use Rattle.model.specs.declared.DataGuard.{DataGuard}
use Rattle.model.specs.declared.Update.{Update}
use Rattle.model.specs.Lists.{All, empty, more, each, from, below}
use Rattle.model.specs.Table.{TableHeader, header_of, Arc, Component, Read, sizes_of, no_location, no_arc, no_component, size, component_of, location_of}
use Rattle.model.specs.Bytes.{budget_bytes, location_bytes, kind_of, item_count, arc_bytes, body_bytes, component_bytes, band_bytes, table_bytes}
use Rattle.model.specs.Limits.{ArcIn, ComponentIn, InLimits}
use Rattle.model.specs.Places.{items_length}
use Rattle.model.specs.Window.{masked}
use Rattle.model.specs.Program.{Statement, set_to, add_to, done, listen, age, reset, enter, low, high, keep, take_edge, choose, clock_tests, data_tests, budget_test, trial_of, trials, location_block, update_of, work_of, ageing, edge_block_of, edge_block, pair_quad, code, block_bytes, statements, blocks, start_bytes, node_body, node_bytes, program_bytes}
use Rattle.model.proofs.Basics.Walk.{each_length}
use Rattle.model.proofs.Basics.Sums.{total, each_join, each_total, total_sum, total_same, total_most, total_const, total_one, total_map, total_exchange, length_from, by_number}
use Rattle.model.proofs.Reader.ArcPlaces.{head_long, arc-length}
use Rattle.model.proofs.Program.Statement.{quads, coded}

-- ## Statements

-- how many times four bytes statements have
abbrev pub all_quads : List Statement → ℕ
all_quads [] = 0
all_quads (s ∷ b) = quads s + all_quads b

pub quads_length : (b : List Statement) → length (block_bytes b) ≡ 4 * all_quads b
unfolding block_bytes each
quads_length [] = refl
quads_length (s ∷ b) = length-append (code s) (each code b) ∙ omega (arith, (coded s []).0, quads_length b)

-- a block's bytes are whole statements
pub four : (b : List Statement) → length (block_bytes b) ≡ 4 * statements b
unfolding statements
four b = omega (arith, quads_length b)

-- the bytes of two runs of statements
pub block_join : (a b : List Statement) → block_bytes (a ++ b) ≡ block_bytes a ++ block_bytes b
unfolding block_bytes
block_join a b = each_join code a b

pub block_length : (a b : List Statement) → length (block_bytes (a ++ b)) ≡ length (block_bytes a) + length (block_bytes b)
block_length a b = ap length (block_join a b) ∙ length-append (block_bytes a) (block_bytes b)

-- ## Edges

-- what an edge's trial adds to the program, whatever its location and its number
unfoldable pub trial_length : Arc → ℕ
unfolding block_bytes
trial_length a = length (block_bytes (trial_of no_location 0 a))

-- what an edge adds to the program: the start of its block, its trial, and its block
unfoldable pub arc_share : ℕ → Arc → ℕ
unfolding trial_length
arc_share clocks a = 2 + trial_length a + length (block_bytes (edge_block_of clocks a))

pub trial-length : (l : Location) (e : ℕ) (a : Arc) → length (block_bytes (trial_of l e a)) ≡ trial_length a
unfolding trial_length block_bytes each code
trial-length l e a =
    let G = clock_tests a.clock_guards in
    let D = data_tests a.data_guards in
    let B = budget_test a.budget in
    let k = block_length G (D ++ (B ++ (keep e ∷ []))) in
    let k' = block_length D (B ++ (keep e ∷ [])) in
    let k'' = block_length B (keep e ∷ []) in
    let z = block_length G (D ++ (B ++ (keep 0 ∷ []))) in
    let z' = block_length D (B ++ (keep 0 ∷ [])) in
    let z'' = block_length B (keep 0 ∷ []) in
    omega (arith, k, k', k'', z, z', z'')

-- ### Its trial

pub clock_tests_most : (gs : List ClockGuard) → length (block_bytes (clock_tests gs)) ≤ 8 * length gs
unfolding block_bytes each code
clock_tests_most [] = omega arith
clock_tests_most (g ∷ gs) = go (clock_tests_most gs) (eqb g.high 65535)
  where
    go : length (block_bytes (clock_tests gs)) ≤ 8 * length gs → (t : Bool)
        → length (block_bytes (low g.clock g.low ∷ cond t (clock_tests gs) (high g.clock g.high ∷ clock_tests gs))) ≤ 8 * length (g ∷ gs)
    go h true = omega arith
    go h false = omega arith

pub data_tests_length : (gs : List DataGuard) → length (block_bytes (data_tests gs)) ≡ 8 * length gs
unfolding block_bytes each code
data_tests_length [] = refl
data_tests_length (g ∷ gs) = omega (arith, data_tests_length gs)

-- the test of a budget has twice its bytes in the table
pub budget-test : (o : Option ℕ) → length (block_bytes (budget_test o)) ≡ 2 * length (budget_bytes o)
unfolding block_bytes each code
budget-test none = refl
budget-test (some b) = refl

pub budget_test_most : (o : Option ℕ) → length (block_bytes (budget_test o)) ≤ 4
budget_test_most none = omega (arith, budget-test none)
budget_test_most (some b) = omega (arith, budget-test (some b))

-- the trial's parts
pub trial_parts : (a : Arc) → trial_length a ≡ 12 + length (block_bytes (clock_tests a.clock_guards)) + 8 * length a.data_guards + length (block_bytes (budget_test a.budget))
unfolding trial_length block_bytes each code
trial_parts a =
    let D = data_tests a.data_guards in
    let B = budget_test a.budget in
    omega (arith, block_length (clock_tests a.clock_guards) (D ++ (B ++ (keep 0 ∷ []))), block_length D (B ++ (keep 0 ∷ [])), block_length B (keep 0 ∷ []), data_tests_length a.data_guards)

-- ### Its block

-- statements of four bytes each
mapped_length : {A : Type 0} (f : A → Statement) → ((x : A) → length (code (f x)) ≡ 4) → (xs : List A) → length (block_bytes (map f xs)) ≡ 4 * length xs
unfolding block_bytes each
mapped_length f h [] = refl
mapped_length f h (x ∷ xs) = length-append (code (f x)) (block_bytes (map f xs)) ∙ omega (arith, h x, mapped_length f h xs)

pub updates_length : (us : List Update) → length (block_bytes (map update_of us)) ≡ 4 * length us
unfolding code
updates_length us = mapped_length update_of (λ u. go u u.adds) us
  where
    go : (u : Update) (t : Bool) → length (code (cond t (add_to u.variable u.number) (set_to u.variable u.number))) ≡ 4
    go u true = refl
    go u false = refl

pub ageing_length : (mask n : ℕ) → length (block_bytes (map (ageing mask) (below n))) ≡ 4 * n
unfolding code
ageing_length mask n = mapped_length (ageing mask) (λ i. go i (masked mask i)) (below n) ∙ ap (λ (k : ℕ). 4 * k) (length_from 0 n)
  where
    go : (i : ℕ) (t : Bool) → length (code (cond t (reset i) (age i))) ≡ 4
    go i true = refl
    go i false = refl

-- the work's bytes: one statement, and one for each item that is no channel
unfoldable pub work_length : Arc → Action → ℕ
work_length a Internal = 4 * length a.updates + 4
work_length a (Send k) = 4
work_length a Receive = 4 * length a.pairs + 4

pub work-length : (a : Arc) (act : Action) → length (block_bytes (work_of a act)) ≡ work_length a act
unfolding work_length block_bytes each code
work-length a Internal = omega (arith, block_length (map update_of a.updates) (done ∷ []), updates_length a.updates)
work-length a (Send k) = refl
work-length a Receive =
    length-append (code (listen a.pairs)) [] ∙ omega (arith, each_length pair_quad 4 (λ q. refl) a.pairs)

pub edge_block_length : (clocks : ℕ) (a : Arc) → length (block_bytes (edge_block_of clocks a)) ≡ 12 + work_length a a.edge.action + 4 * clocks
unfolding block_bytes each code
edge_block_length clocks a =
    let W = work_of a a.edge.action in
    let M = map (ageing a.edge.mask) (below clocks) in
    let E = enter a.edge.destination ∷ choose ∷ [] in
    omega (arith, block_length W (M ++ E), block_length M E, work-length a a.edge.action, ageing_length a.edge.mask clocks)

-- ### Against the table's bytes

work_most : (a : Arc) (act : Action) → work_length a act ≤ 2 * items_length (kind_of act) (item_count a act) + 4
unfolding work_length
work_most a Internal = omega arith
work_most a (Send k) = omega arith
work_most a Receive = omega arith

arc_bytes_length : (a : Arc) → length (arc_bytes a) ≡ 7 + length (budget_bytes a.budget) + (length a.clock_guards + length a.data_guards) * 5 + items_length (kind_of a.edge.action) (item_count a a.edge.action)
unfolding arc_bytes
arc_bytes_length a = sym (arc-length a []) ∙ omega (arith, head_long a.budget)

-- an edge adds at most twice its bytes, and 32
pub share_most : (clocks : ℕ) (a : Arc) → clocks ≤ 4 → arc_share clocks a ≤ 2 * length (arc_bytes a) + 32
unfolding arc_share
share_most clocks a h =
    omega (arith, trial_parts a, budget-test a.budget, clock_tests_most a.clock_guards, edge_block_length clocks a, work_most a a.edge.action, arc_bytes_length a)

-- ## Components

-- an edge's trial, in the block of location `here`
abbrev share_at : ℕ → Arc → ℕ
share_at here a = cond (eqb a.edge.source here) (trial_length a) 0

trials_length : (l : Location) (here e : ℕ) (as' : List Arc) → length (block_bytes (trials l here e as')) ≡ total (share_at here) as'
unfolding trials total block_bytes each
trials_length l here e [] = refl
trials_length l here e (a ∷ as') = go (trials_length l here (suc e) as') (eqb a.edge.source here)
  where
    go : length (block_bytes (trials l here (suc e) as')) ≡ total (share_at here) as' → (t : Bool)
        → length (block_bytes (cond t (trial_of l e a ++ trials l here (suc e) as') (trials l here (suc e) as'))) ≡ cond t (trial_length a) 0 + total (share_at here) as'
    go h true = block_length (trial_of l e a) (trials l here (suc e) as') ∙ omega (arith, trial-length l e a, h)
    go h false = h ∙ omega arith

-- in no block before its source's
before_source : (a : Arc) (i n : ℕ) → a.edge.source < i → total (λ here. share_at here a) (from i n) ≡ 0
unfolding total
before_source a i zero h = refl
before_source a i (suc n) h =
    let e = ne_eqb a.edge.source i (λ q. omega arith) in
    let t = before_source a (suc i) n (omega arith) in
    rw (e, t)

-- in exactly one of the blocks
once : (a : Arc) (i n : ℕ) → i ≤ a.edge.source → a.edge.source < i + n → total (λ here. share_at here a) (from i n) ≡ trial_length a
unfolding total
once a i zero h k = absurd (omega arith)
once a i (suc n) h k = go (eqb a.edge.source i) refl (λ p. once a (suc i) n p (omega arith))
  where
    go : (t : Bool) → eqb a.edge.source i ≡ t → (suc i ≤ a.edge.source → total (λ here. share_at here a) (from (suc i) n) ≡ trial_length a)
        → cond t (trial_length a) 0 + total (λ here. share_at here a) (from (suc i) n) ≡ trial_length a
    go true e r = omega (arith, before_source a (suc i) n (omega (arith, eqb-true a.edge.source i e)))
    go false e r =
        let d = eqb-false a.edge.source i e in
        let p : suc i ≤ a.edge.source = omega arith in
        omega (arith, r p)

-- the edges leave from locations that there are
abbrev pub Sourced : Component → Type 0
Sourced C = All (λ a. a.edge.source < length C.locations) C.arcs

-- all trials
all_trials : (n : ℕ) {as' : List Arc} → All (λ a. a.edge.source < n) as' → total (λ a. total (λ here. share_at here a) (below n)) as' ≡ total trial_length as'
unfolding total
all_trials n empty = refl
all_trials n (more {x = a} h k) = omega (arith, once a 0 n (omega arith) (omega arith), all_trials n k)

location_length : (C : Component) (here : ℕ) → length (block_bytes (location_block C here)) ≡ total (share_at here) C.arcs + 4
unfolding location_block block_bytes each code
location_length C here =
    let T = trials (location_of C here) here 0 C.arcs in
    block_length T (take_edge ∷ []) ∙ omega (arith, trials_length (location_of C here) here 0 C.arcs)

-- the location blocks
pub location_blocks_length : (C : Component) → Sourced C
    → length (each block_bytes (map (location_block C) (below (length C.locations)))) ≡ total trial_length C.arcs + length C.locations * 4
location_blocks_length C h =
    let n = length C.locations in
    each_total block_bytes (map (location_block C) (below n)) ∙ total_map (λ b. length (block_bytes b)) (location_block C) (below n)
    ∙ total_same (λ here. length (block_bytes (location_block C here))) (λ here. total (share_at here) C.arcs + 4) (location_length C) (below n)
    ∙ total_sum (λ here. total (share_at here) C.arcs) (λ here. 4) (below n)
    ∙ omega (arith, total_exchange share_at (below n) C.arcs, all_trials n h, total_const 4 (below n), length_from 0 n)

-- the edge blocks are those of the edges in their order
pub edge-blocks : (C : Component) → map (edge_block C) (below (length C.arcs)) ≡ map (edge_block_of C.clocks) C.arcs
unfolding edge_block
edge-blocks C = by_number (edge_block_of C.clocks) no_arc C.arcs

pub start_bytes_length : (at : ℕ) (bs : List (List Statement)) → length (start_bytes at bs) ≡ 2 * length bs
unfolding start_bytes
start_bytes_length at [] = refl
start_bytes_length at (b ∷ bs) = omega (arith, start_bytes_length (at + statements b) bs)

pub blocks_count : (C : Component) → length (blocks C) ≡ length C.locations + length C.arcs
unfolding blocks
blocks_count C =
    let L = below (length C.locations) in
    let E = below (length C.arcs) in
    length-append (map (location_block C) L) (map (edge_block C) E)
    ∙ omega (arith, length-map L (location_block C), length-map E (edge_block C), length_from 0 (length C.locations), length_from 0 (length C.arcs))

shares : (clocks : ℕ) (as' : List Arc) → total (arc_share clocks) as' ≡ length as' * 2 + total trial_length as' + total (λ a. length (block_bytes (edge_block_of clocks a))) as'
unfolding arc_share total
shares clocks [] = refl
shares clocks (a ∷ as') = omega (arith, shares clocks as')

edge_blocks_length : (C : Component) → length (each block_bytes (map (edge_block C) (below (length C.arcs)))) ≡ total (λ a. length (block_bytes (edge_block_of C.clocks a))) C.arcs
edge_blocks_length C =
    ap (λ (l : List (List Statement)). length (each block_bytes l)) (edge-blocks C) ∙ each_total block_bytes (map (edge_block_of C.clocks) C.arcs)
    ∙ total_map (λ b. length (block_bytes b)) (edge_block_of C.clocks) C.arcs

blocks_length : (C : Component) → Sourced C
    → length (each block_bytes (blocks C)) ≡ total trial_length C.arcs + length C.locations * 4 + total (λ a. length (block_bytes (edge_block_of C.clocks a))) C.arcs
unfolding blocks
blocks_length C h =
    let L = map (location_block C) (below (length C.locations)) in
    let E = map (edge_block C) (below (length C.arcs)) in
    ap length (each_join block_bytes L E) ∙ length-append (each block_bytes L) (each block_bytes E) ∙ omega (arith, location_blocks_length C h, edge_blocks_length C)

-- how long a node's part is: 6 bytes; a start and a take for each location; each edge's share
pub node_length : (C : Component) → Sourced C → length (node_bytes C) ≡ 6 + length C.locations * 6 + total (arc_share C.clocks) C.arcs
unfolding node_bytes node_body
node_length C h =
    let S = start_bytes 0 (blocks C) in
    let B = each block_bytes (blocks C) in
    omega (arith, length-append S B, start_bytes_length 0 (blocks C), blocks_count C, blocks_length C h, shares C.clocks C.arcs)

pub sourced : (channels : TableHeader) (C : Component) → ComponentIn channels C → Sourced C
sourced channels C h = go h.arcs
  where
    go : {as' : List Arc} → All (ArcIn (sizes_of channels C)) as' → All (λ a. a.edge.source < length C.locations) as'
    go empty = empty
    go (more p a) = more p.source (go a)

shares_most : (clocks : ℕ) → clocks ≤ 4 → (as' : List Arc) → total (arc_share clocks) as' ≤ 2 * total (λ a. length (arc_bytes a)) as' + 32 * length as'
unfolding total
shares_most clocks h [] = omega arith
shares_most clocks h (a ∷ as') = omega (arith, share_most clocks a h, shares_most clocks h as')

-- a node's part is at most twice its component's bytes, and 32 for each edge
pub node_most : (channels : TableHeader) (C : Component) → ComponentIn channels C → length (node_bytes C) ≤ 2 * length (component_bytes C) + 32 * length C.arcs
unfolding component_bytes body_bytes
node_most channels C h =
    let L = each location_bytes C.locations in
    let A = each arc_bytes C.arcs in
    omega (arith, node_length C (sourced channels C h), shares_most C.clocks h.most_clocks C.arcs, length-append L A, each_length location_bytes 3 (λ l. refl) C.locations, each_total arc_bytes C.arcs)

-- ## The program

-- the number of edges
unfoldable pub arc_count : Read → ℕ
unfolding total
arc_count t = total (λ C. length C.arcs) t.table.components

nodes_most : (channels : TableHeader) {Cs : List Component} → All (ComponentIn channels) Cs
    → total (λ C. length (node_bytes C)) Cs ≤ 2 * total (λ C. length (component_bytes C)) Cs + 32 * total (λ C. length C.arcs) Cs
unfolding total
nodes_most channels empty = omega arith
nodes_most channels (more {x = C} h a) = omega (arith, node_most channels C h, nodes_most channels a)

-- a program is at most twice as long as its table, and 32 bytes for each edge
pub program_size : (t : Read) → InLimits t → length (program_bytes t) ≤ 2 * length (table_bytes t) + 32 * arc_count t
unfolding program_bytes table_bytes arc_count
program_size t h =
    let Cs = t.table.components in
    omega (arith, each_total node_bytes Cs, each_total component_bytes Cs, nodes_most (header_of t) h.components, length-append (band_bytes t.version t.table.bands) (each component_bytes Cs))

few_arcs : (t : Read) → InLimits t → arc_count t ≤ 256
unfolding arc_count
few_arcs t h =
    let Cs = t.table.components in
    omega (arith, total_most (λ C. length C.arcs) (λ C. 32) (λ C k. k.most_arcs) h.components, total_const 32 Cs, h.most_components)

pub program_fits : (t : Read) → InLimits t → length (program_bytes t) ≤ 24576
program_fits t h = omega (arith, program_size t h, few_arcs t h, h.bytes)

-- a node's part is shorter than the program
pub node_fits : (t : Read) → InLimits t → (c : ℕ) → c < size t.table → length (node_bytes (component_of t.table c)) + 6 ≤ 24576
unfolding program_bytes
node_fits t h c k =
    let Cs = t.table.components in
    omega (arith, program_fits t h, each_total node_bytes Cs, total_one (λ C. length (node_bytes C)) Cs no_component c k)

-- the blocks' bytes are whole statements
pub blocks_four : (bs : List (List Statement)) → length (each block_bytes bs) ≡ 4 * total statements bs
unfolding each total
blocks_four [] = refl
blocks_four (b ∷ bs) = omega (arith, length-append (block_bytes b) (each block_bytes bs), four b, blocks_four bs)

-- a node has at most 6,142 statements
pub node_statements : (t : Read) → InLimits t → (c : ℕ) → c < size t.table → total statements (blocks (component_of t.table c)) ≤ 6142
unfolding node_bytes node_body
node_statements t h c k =
    let bs = blocks (component_of t.table c) in
    omega (arith, node_fits t h c k, length-append (start_bytes 0 bs) (each block_bytes bs), blocks_four bs)
