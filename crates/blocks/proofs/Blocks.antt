-- The blocks of locations and edges as runs of statements. Assumes nothing.
use mathlib.Core.Path.{◌≡◌, refl, sym, ap, subst, ◌∙◌}
use mathlib.Core.Bool.{Bool, true, false, cond}
use mathlib.Core.List.{List, [], ◌∷◌, ◌++◌, map, append-nil, append_assoc}
use Prim.Native.Nat.{ℕ, suc, ◌+◌, ◌-◌, ◌*◌, ◌/◌, ◌%◌, ◌^◌, ◌≤◌, ◌<◌}
use native.Mathlib.Nat.{pow-suc, div-div-eq-div-mul}
use native.Mathlib.Numerals.{add-one}
use native.Mathlib.Omega.{arith}
use borrow.Author.Tests.{eq-eqb, ne_eqb}
use lib.Dec.{eqb}
use lib.ListN.{length, take, drop, length-append}
use Rattle.model.specs.declared.Action.TheVariants.{Internal, Send, Receive}
use Rattle.model.specs.declared.Edge.{Edge}
use Rattle.model.specs.declared.Location.{Location}
use Rattle.model.specs.Lists.{each, from, below}
use Rattle.model.specs.Table.{Arc}
use Rattle.model.specs.Reader.{byte, word, clock_guard_at, data_guard_at, update_at, pair_at}
use Rattle.model.specs.Places.{list_at, arc_head_length, items_place, arc_length, budget_at, arc_at}
use Rattle.model.specs.Program.{Statement, done, age, reset, enter, keep, take_edge, choose, clock_tests, data_tests, budget_test, trial_of, trials, update_of, work_of, ageing, edge_block_of, quad, pair_quad, code, block_bytes}
use Rattle.model.proofs.Basics.Walk.{list_length}
use Rattle.model.proofs.Program.Size.{block_join}
use Rattle.decoder.proofs.ByAction.{internal_length, internal_updates, receive_length, receive_pairs}
use Rattle.parts.proofs.Skim.{tail}
use Rattle.blocks.specs.declared.Kind.TheVariants.{ClockGuards, DataGuards, Updates, Pairs}
use Rattle.blocks.specs.Put.{Room, Put}
use Rattle.blocks.specs.Made.{all_made}
use Rattle.blocks.specs.FrontEdges.{arcs_at}
use Rattle.blocks.proofs.Runs.{Writing, left_is, put_on, room_is, room_left, room_first, put_all}
use Rattle.blocks.proofs.Arcs.{edge_passed}
use Rattle.blocks.proofs.Parts.{clocks_made, datas_made, updates_made, pairs_made}

-- ## A trial

module _ (l : Location) (e : ℕ) (b : Bool) (h : List ℕ) where
  -- what follows its first statement, its second, its clock bounds, its data bounds
  abbrev pub from_high : List ℕ
  from_high = quad 0x0C l.clock l.bound ++ (all_made ClockGuards (byte h 4) (drop (arc_head_length b) h) ++ (all_made DataGuards (byte h 5) (drop (arc_head_length b + byte h 4 * 5) h) ++ (block_bytes (budget_test (budget_at b h)) ++ quad 0x0F 0 e)))

  abbrev pub from_clocks : List ℕ
  from_clocks = all_made ClockGuards (byte h 4) (drop (arc_head_length b) h) ++ (all_made DataGuards (byte h 5) (drop (arc_head_length b + byte h 4 * 5) h) ++ (block_bytes (budget_test (budget_at b h)) ++ quad 0x0F 0 e))

  abbrev pub from_datas : List ℕ
  from_datas = all_made DataGuards (byte h 5) (drop (arc_head_length b + byte h 4 * 5) h) ++ (block_bytes (budget_test (budget_at b h)) ++ quad 0x0F 0 e)

  abbrev pub from_budget : List ℕ
  from_budget = block_bytes (budget_test (budget_at b h)) ++ quad 0x0F 0 e

  pub trial_made : quad 0x0A 0 0 ++ from_high ≡ block_bytes (trial_of l e (arc_at b h))
  unfolding block_bytes each code arc_at
  trial_made =
      let G = clock_tests (list_at clock_guard_at 5 (byte h 4) (drop (arc_head_length b) h)) in
      let D = data_tests (list_at data_guard_at 5 (byte h 5) (drop (arc_head_length b + byte h 4 * 5) h)) in
      let B = budget_test (budget_at b h) in
      let K = keep e ∷ [] in
      rw (clocks_made (byte h 4) (drop (arc_head_length b) h), datas_made (byte h 5) (drop (arc_head_length b + byte h 4 * 5) h), block_join G (D ++ (B ++ K)), block_join D (B ++ K), block_join B K)

-- its bounds stand in the edge
pub bounds_fit : (b : Bool) (h : List ℕ) → arc_length b h ≤ length h → (arc_head_length b + byte h 4 * 5 ≤ length h) × (arc_head_length b + byte h 4 * 5 + byte h 5 * 5 ≤ length h)
bounds_fit b h f = (omega arith, omega arith)

-- its budget
module _ (b : Bool) (h : List ℕ) where
  pub budget_none : b ≡ false → [] ≡ block_bytes (budget_test (budget_at b h))
  unfolding block_bytes each
  budget_none e = rw e

  pub budget_some : b ≡ true → quad 0x12 0 (word h 7) ≡ block_bytes (budget_test (budget_at b h))
  unfolding block_bytes each code
  budget_some e = rw e

-- ## The edges from a location

module _ (l : Location) (here e : ℕ) where
  -- by the decoded edge
  module _ (b : Bool) (h : List ℕ) (edge : Edge) (is : edge ≡ (arc_at b h).edge) where
    pub skipped : (edge.source ≡ here → ⊥) → [] ≡ block_bytes (trials l here e (arc_at b h ∷ []))
    unfolding trials block_bytes each
    skipped q = rw (ne_eqb (arc_at b h).edge.source here (λ z. q (ap (λ (x : Edge). x.source) is ∙ z)))

    pub tried : edge.source ≡ here → block_bytes (trial_of l e (arc_at b h)) ≡ block_bytes (trials l here e (arc_at b h ∷ []))
    unfolding trials
    tried q = rw (eq-eqb (arc_at b h).edge.source here (sym (ap (λ (x : Edge). x.source) is) ∙ q), append-nil (trial_of l e (arc_at b h)))

  trials_cons : (a : Arc) (as' : List Arc) → trials l here e (a ∷ as') ≡ trials l here e (a ∷ []) ++ trials l here (suc e) as'
  unfolding trials
  trials_cons a as' = go (eqb a.edge.source here)
    where
      go : (t : Bool) → cond t (trial_of l e a ++ trials l here (suc e) as') (trials l here (suc e) as') ≡ cond t (trial_of l e a ++ []) [] ++ trials l here (suc e) as'
      go true = ap (λ (x : List Statement). x ++ trials l here (suc e) as') (sym (append-nil (trial_of l e a)))
      go false = refl

-- the block's bytes from edge e on, of which k are left
abbrev pub block_from : Bool → Location → ℕ → ℕ → ℕ → List ℕ → List ℕ
block_from b l here e k h = block_bytes (trials l here e (arcs_at b k h) ++ (take_edge ∷ []))

module _ (b : Bool) (l : Location) (here e k : ℕ) (h : List ℕ) (more : 0 < k) where
  block_ahead : block_from b l here e k h ≡ block_bytes (trials l here e (arc_at b h ∷ [])) ++ block_from b l here (e + 1) (k - 1) (drop (arc_length b h) h)
  unfolding arcs_at
  block_ahead =
      let q : k ≡ suc (k - 1) = omega arith in
      let R = arcs_at b (k - 1) (drop (arc_length b h) h) in
      ap (λ (i : ℕ). block_from b l here e i h) q
      ∙ ap (λ (x : List Statement). block_bytes (x ++ (take_edge ∷ []))) (trials_cons l here e (arc_at b h) R)
      ∙ ap block_bytes (append_assoc (trials l here e (arc_at b h ∷ [])) (trials l here (suc e) R) (take_edge ∷ []))
      ∙ block_join (trials l here e (arc_at b h ∷ [])) (trials l here (suc e) R ++ (take_edge ∷ []))
      ∙ ap (λ (i : ℕ). block_bytes (trials l here e (arc_at b h ∷ [])) ++ block_from b l here i (k - 1) (drop (arc_length b h) h)) (sym (add-one e))

-- ### The loop over the edges, from place to place in the bytes h

module _ (b : Bool) (l : Location) (here e n : ℕ) (h : List ℕ) (place : ℕ) {o₀ all o : List ℕ} {at₀ at : ℕ}
    (more : e < n) (w : Writing o₀ at₀ all o at (block_from b l here e (n - e) (drop place h))) where
  pub some_left : 0 < n - e
  some_left = omega arith

  -- the trial ahead, and the rest
  ahead : Writing o₀ at₀ all o at (block_bytes (trials l here e (arc_at b (drop place h) ∷ [])) ++ block_from b l here (e + 1) (n - e - 1) (drop (arc_length b (drop place h)) (drop place h)))
  ahead = left_is (block_ahead b l here e (n - e) (drop place h) some_left) w

  -- the trial has room
  pub trial_room : Room o₀ at₀ all → Room o at (block_bytes (trials l here e (arc_at b (take (length h - place) (drop place h)) ∷ [])))
  trial_room r =
      let x = block_bytes (trials l here e (arc_at b (drop place h) ∷ [])) in
      let y = block_from b l here (e + 1) (n - e - 1) (drop (arc_length b (drop place h)) (drop place h)) in
      rw (tail h place) (room_first o at x y (room_left ahead r))

  -- a turn
  module _ (long : ℕ) (q : long ≡ arc_length b (take (length h - place) (drop place h))) where
    fewer : n - e - 1 ≡ n - (e + 1)
    fewer = omega arith

    pub trial_put : {p : List ℕ} {m : ℕ} → Put o at (block_bytes (trials l here e (arc_at b (take (length h - place) (drop place h)) ∷ []))) m p
        → Writing o₀ at₀ all p m (block_from b l here (e + 1) (n - (e + 1)) (drop (place + long) h))
    trial_put {p} {m} k =
        let y = block_from b l here (e + 1) (n - e - 1) (drop (arc_length b (drop place h)) (drop place h)) in
        let t : Put o at (block_bytes (trials l here e (arc_at b (drop place h) ∷ []))) m p =
        subst (λ (s : List ℕ). Put o at (block_bytes (trials l here e (arc_at b s ∷ []))) m p) (tail h place) k in
        rw (← fewer, ← edge_passed b h place long q) (put_on y ahead t)

-- the last statement is left
pub take_left : (b : Bool) (l : Location) (here e n : ℕ) (h : List ℕ) {o₀ all o : List ℕ} {at₀ at : ℕ} → n ≤ e → Writing o₀ at₀ all o at (block_from b l here e (n - e) h)
    → Writing o₀ at₀ all o at (quad 0x10 0 0 ++ [])
unfolding arcs_at trials block_bytes each code
take_left b l here e n h {o₀} {all} {o} {at₀} {at} q w =
    let z : n - e ≡ 0 = omega arith in
    subst (λ (i : ℕ). Writing o₀ at₀ all o at (block_from b l here e i h)) z w

-- ## Work

module _ (b : Bool) (h : List ℕ) where
  -- the work's bytes
  abbrev pub work_bytes : List ℕ
  work_bytes = block_bytes (work_of (arc_at b h) (arc_at b h).edge.action)

  module _ (e : Internal ≡ (arc_at b h).edge.action) where
    pub internal_work : all_made Updates (byte h 6) (drop (items_place b h) h) ++ quad 0x03 0 0 ≡ work_bytes
    unfolding block_bytes each code
    internal_work =
        rw (← e, internal_updates b h e, updates_made (byte h 6) (drop (items_place b h) h))
        (sym (block_join (map update_of (list_at update_at 4 (byte h 6) (drop (items_place b h) h))) (done ∷ [])))

    -- the items stand in the edge
    pub updates_stand : arc_length b h ≤ length h → items_place b h + byte h 6 * 4 ≤ length h
    updates_stand f = omega (arith, f, internal_length b h e)

  pub send_work : (channel : ℕ) → Send channel ≡ (arc_at b h).edge.action → quad 0x04 channel 0 ≡ work_bytes
  unfolding block_bytes each code
  send_work channel e = rw (← e)

  module _ (e : Receive ≡ (arc_at b h).edge.action) where
    pub receive_work : quad 0x05 (byte h 6) 0 ++ all_made Pairs (byte h 6) (drop (items_place b h) h) ≡ work_bytes
    unfolding block_bytes each code
    receive_work =
        let ps = list_at pair_at 2 (byte h 6) (drop (items_place b h) h) in
        rw (← e, receive_pairs b h e, pairs_made (byte h 6) (drop (items_place b h) h), list_length pair_at 2 (byte h 6) (drop (items_place b h) h))
        (sym (append-nil (quad 0x05 (byte h 6) 0 ++ each pair_quad ps)))

    pub pairs_stand : arc_length b h ≤ length h → items_place b h + byte h 6 * 2 ≤ length h
    pairs_stand f = omega (arith, f, receive_length b h e)

-- ## Clocks

module _ (bits i : ℕ) where
  pub zeroed : bits % 2 ≡ 1 → quad 0x08 i 0 ≡ block_bytes (cond (eqb (bits % 2) 1) (reset i) (age i) ∷ [])
  unfolding block_bytes each code
  zeroed q = rw (eq-eqb (bits % 2) 1 q)

  pub grown : (bits % 2 ≡ 1 → ⊥) → quad 0x07 i 0 ≡ block_bytes (cond (eqb (bits % 2) 1) (reset i) (age i) ∷ [])
  unfolding block_bytes each code
  grown q = rw (ne_eqb (bits % 2) 1 q)

clock_four : (t : Bool) (i : ℕ) → length (block_bytes (cond t (reset i) (age i) ∷ [])) ≡ 4
unfolding block_bytes each code
clock_four true i = refl
clock_four false i = refl

-- the bytes of the clocks from number i on, of which k are left
abbrev pub clocks_from : ℕ → ℕ → ℕ → List ℕ
clocks_from mask i k = block_bytes (map (ageing mask) (from i k))

-- one bit on
pub halved : (mask bits i : ℕ) → bits ≡ mask / 2 ^ i → bits / 2 ≡ mask / 2 ^ (i + 1)
halved mask bits i e = rw (e, add-one i, pow-suc 2 i) (div-div-eq-div-mul mask (2 ^ i) 2)

module _ (mask bits i n : ℕ) {o₀ all o : List ℕ} {at₀ at : ℕ}
    (more : i < n) (e : bits ≡ mask / 2 ^ i) (w : Writing o₀ at₀ all o at (clocks_from mask i (n - i))) where
  clock_ahead : clocks_from mask i (n - i) ≡ block_bytes (cond (eqb (bits % 2) 1) (reset i) (age i) ∷ []) ++ clocks_from mask (i + 1) (n - (i + 1))
  clock_ahead =
      let q : n - i ≡ suc (n - (i + 1)) = omega arith in
      rw (q, e, add-one i) (block_join (ageing mask i ∷ []) (map (ageing mask) (from (suc i) (n - suc i))))

  pub clock_asked : Room o₀ at₀ all → at + 4 ≤ length o
  clock_asked r =
      let room = room_is o at clock_ahead (room_left w r) in
      omega (arith, length-append (block_bytes (cond (eqb (bits % 2) 1) (reset i) (age i) ∷ [])) (clocks_from mask (i + 1) (n - (i + 1))), clock_four (eqb (bits % 2) 1) i)

  pub clock_put : {p : List ℕ} {m : ℕ} → Put o at (block_bytes (cond (eqb (bits % 2) 1) (reset i) (age i) ∷ [])) m p → Writing o₀ at₀ all p m (clocks_from mask (i + 1) (n - (i + 1)))
  clock_put k = put_on (clocks_from mask (i + 1) (n - (i + 1))) (left_is clock_ahead w) k

-- none left
pub clocks_done : (mask i n : ℕ) {o₀ all o : List ℕ} {at₀ at : ℕ} → n ≤ i → Writing o₀ at₀ all o at (clocks_from mask i (n - i)) → Put o₀ at₀ all at o
unfolding block_bytes each
clocks_done mask i n {o₀} {all} {o} {at₀} {at} q w =
    let z : n - i ≡ 0 = omega arith in
    put_all (subst (λ (k : ℕ). Writing o₀ at₀ all o at (clocks_from mask i k)) z w)

-- ## An edge's block

-- by the decoded edge
module _ (clocks : ℕ) (b : Bool) (h : List ℕ) (edge : Edge) where
  -- what follows its first statement, its work, its clocks
  abbrev pub from_enter : List ℕ
  from_enter = quad 0x09 0 edge.destination ++ quad 0x11 0 0

  abbrev pub from_ages : List ℕ
  from_ages = block_bytes (map (ageing edge.mask) (below clocks)) ++ (quad 0x09 0 edge.destination ++ quad 0x11 0 0)

  abbrev pub from_work : List ℕ
  from_work = work_bytes b h ++ (block_bytes (map (ageing edge.mask) (below clocks)) ++ (quad 0x09 0 edge.destination ++ quad 0x11 0 0))

  pub edge_made : edge ≡ (arc_at b h).edge → quad 0x00 0 0 ++ from_work ≡ block_bytes (edge_block_of clocks (arc_at b h))
  unfolding block_bytes each code
  edge_made e =
      let W = work_of (arc_at b h) (arc_at b h).edge.action in
      let M = map (ageing (arc_at b h).edge.mask) (below clocks) in
      let E = enter (arc_at b h).edge.destination ∷ choose ∷ [] in
      rw (e, block_join W (M ++ E), block_join M E)
