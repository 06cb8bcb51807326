-- What all nodes together have yet to do falls with each choice of a node. Assumes nothing.
use mathlib.Core.Path.{◌≡◌, refl, sym, ap, subst, ◌∙◌}
use mathlib.Core.Logic.{◌⊎◌, inl, inr}
use mathlib.Core.Bool.{Bool, true, false, cond, ◌&&◌, not}
use mathlib.Core.List.{List, [], ◌∷◌}
use Prim.Native.Nat.{ℕ, zero, suc, ◌+◌, ◌≤◌, ◌<◌}
use native.Mathlib.Omega.{arith}
use borrow.Author.Tests.{eqb-true, eqb-false, ltb-true, lt-ltb, ne_eqb}
use lib.Dec.{eqb, leb, ltb}
use lib.IntN.{◌+ℤ◌}
use lib.ListN.{length, get_or, set, length-set}
use lib.Seq.{get_or-set_same, get_or-set_other}
use Rattle.model.specs.Lists.{is_none, below, ◌∈◌, here}
use Rattle.model.specs.Table.{Read, size}
use Rattle.model.specs.Window.{in_range, value_at}
use Rattle.model.specs.Schedule.{Passage, own}
use Rattle.model.specs.Program.{program_bytes}
use Rattle.model.specs.Machine.{Node, part_bytes}
use Rattle.model.specs.Run.{Setting, setting_at, Run, no_node, node_of, Stand, sleeping, sending, listening, finishing, adding, working, taking, elsewhere, nowhere, stand_of, window_end, own_tick, awake, began, names, hears, listeners, takes_message, Outcome, forbidden, on, finished, sent, finishes, choose1}
use Rattle.model.proofs.Basics.Bools.{clash, and_is}
use Rattle.model.proofs.Basics.Members.{only_is}
use Rattle.model.proofs.Run.Tied.{Given, Tied}
use Rattle.model.proofs.Progress.Weight.{toil}
use Rattle.model.proofs.Progress.Node.{node_falls}

-- ## Sums

-- the sum of the first so many
abbrev pub total : ℕ → (ℕ → ℕ) → ℕ
total zero f = 0
total (suc n) f = f n + total n f

-- none is more: the sum is not
pub total_least : (n : ℕ) (f g : ℕ → ℕ) → ((d : ℕ) → d < n → g d ≤ f d) → total n g ≤ total n f
total_least zero f g h = omega arith
total_least (suc n) f g h = omega (arith, h n (omega arith), total_least n f g (λ d i. h d (omega arith)))

-- and one is less: the sum is less
pub total_falls : (n : ℕ) (f g : ℕ → ℕ) → ((d : ℕ) → d < n → g d ≤ f d) → (c : ℕ) → c < n → g c < f c → total n g < total n f
total_falls zero f g h c l e = absurd (omega arith)
total_falls (suc n) f g h c l e = go (eqb c n) refl (λ i. total_falls n f g (λ d i. h d (omega arith)) c i e)
  where
    rest : total n g ≤ total n f
    rest = total_least n f g (λ d i. h d (omega arith))

    go : (x : Bool) → eqb c n ≡ x → (c < n → total n g < total n f) → g n + total n g < f n + total n f
    go true q ih = let s : g n < f n = subst (λ (i : ℕ). g i < f i) (eqb-true c n q) e in omega (arith, rest)
    go false q ih = omega (arith, h n (omega arith), ih (omega (arith, eqb-false c n q)))

-- ## The nodes after a choice

-- what a choice does to the nodes: one moved, or a sender and its listener
pub data Moves (g : Setting) (s : Run) (c : ℕ) (u : Run) : Type 0 where
  moves : u.nodes ≡ set s.nodes c (finished g s c) → Moves g s c u
  speaks : (i k : ℕ) → names k (stand_of (node_of s i)) ≡ true
      → u.nodes ≡ set (set s.nodes c (finished g s c)) i (takes_message (part_bytes g.program i) k (node_of s i)) → Moves g s c u

-- at a take
abbrev is_take : Stand → Bool
is_take sleeping = false
is_take (sending k) = false
is_take (listening qs) = false
is_take finishing = false
is_take (adding v z) = false
is_take working = false
is_take taking = true
is_take elsewhere = false
is_take nowhere = false

-- a choice carried out: the nodes, and something was kept at a take
pub record Carried (g : Setting) (s : Run) (c : ℕ) (u : Run) : Type 0 where
  pub nodes : Moves g s c u
  pub kept : stand_of (node_of s c) ≡ taking → is_none (node_of s c).kept ≡ false

module _ (g : Setting) (s : Run) (c : ℕ) (u : Run) where
  -- not allowed is not carried out
  never : {A : Type 0} → forbidden ≡ on u → A
  never e = absurd (let z : ◌≡◌ {A = ℕ} 0 1 = cc in omega arith)

  -- the state after it
  same_nodes : (v : Run) → on v ≡ on u → u.nodes ≡ v.nodes
  same_nodes v e = let z : u ≡ v = cc in ap (λ (x : Run). x.nodes) z

  -- where a test allows it
  test_nodes : (x : Bool) (v : Run) → cond x (on v) forbidden ≡ on u → u.nodes ≡ v.nodes
  test_nodes true v e = same_nodes v e
  test_nodes false v e = never e

  -- where a test forbids it
  test_not : (x : Bool) (v : Run) → cond x forbidden (on v) ≡ on u → (x ≡ false) × (u.nodes ≡ v.nodes)
  test_not true v e = never e
  test_not false v e = (refl, same_nodes v e)

  -- a send
  sent_nodes : (k : ℕ) (l : List ℕ) → ((i : ℕ) → i ∈ l → names k (stand_of (node_of s i)) ≡ true) → sent g s c k l ≡ on u → Moves g s c u
  sent_nodes k [] h e = never e
  sent_nodes k (i ∷ is) h e = speaks i k (h i (here refl)) (same_nodes _ e)

  -- a listener stands at a listen that names the channel
  named : (k i : ℕ) → i ∈ listeners g s c k → names k (stand_of (node_of s i)) ≡ true
  named k i m =
      let a = (only_is (λ i. not (eqb i c) && hears g k (began g c (node_of s c)) i (node_of s i)) (below (length s.nodes))).0 m in
      let b = (and_is (not (eqb i c)) (hears g k (began g c (node_of s c)) i (node_of s i))).0 a.1 in
      let d = (and_is (names k (stand_of (node_of s i)) && is_none (node_of s i).goes) (leb (began g i (node_of s i)) (began g c (node_of s c)))).0 b.1 in
      ((and_is (names k (stand_of (node_of s i))) (is_none (node_of s i).goes)).0 d.0).0

  -- elsewhere than at a take nothing need be kept
  other : {x : Stand} {A : Type 0} → stand_of (node_of s c) ≡ x → stand_of (node_of s c) ≡ taking → is_take x ≡ false → A
  other q f n = clash (sym n ∙ (ap is_take (sym q) ∙ ap is_take f))

  -- by what the node stands at
  finishes_carried : (x : Stand) → stand_of (node_of s c) ≡ x → finishes g s c x ≡ on u → Carried g s c u
  finishes_carried sleeping q e = record { nodes = moves (test_nodes (eqb (own_tick g c s.tick) (node_of s c).t) _ e); kept = λ f. other q f refl }
  finishes_carried (sending k) q e = record { nodes = sent_nodes k (listeners g s c k) (named k) e; kept = λ f. other q f refl }
  finishes_carried (listening qs) q e = record { nodes = moves (test_nodes (eqb (own_tick g c s.tick) (window_end (node_of s c))) _ e); kept = λ f. other q f refl }
  finishes_carried finishing q e = record { nodes = moves (same_nodes _ e); kept = λ f. other q f refl }
  finishes_carried (adding v z) q e = record { nodes = moves (test_nodes (in_range (value_at (node_of s c).values v +ℤ z)) _ e); kept = λ f. other q f refl }
  finishes_carried working q e = record { nodes = moves (same_nodes _ e); kept = λ f. other q f refl }
  finishes_carried taking q e = let r = test_not (is_none (node_of s c).kept) _ e in record { nodes = moves r.1; kept = λ f. r.0 }
  finishes_carried elsewhere q e = record { nodes = moves (same_nodes _ e); kept = λ f. other q f refl }
  finishes_carried nowhere q e = never e

-- ## All nodes

-- what holds of node d, with node i changed
put_at : (P : Node → Type 0) (l : List Node) (i : ℕ) (q : Node) (d : ℕ) → d < length l → (d ≡ i → P q) → P (get_or l d no_node) → P (get_or (set l i q) d no_node)
put_at P l i q d h f o = go (eqb d i) refl
  where
    go : (x : Bool) → eqb d i ≡ x → P (get_or (set l i q) d no_node)
    go true e =
        let w = eqb-true d i e in
        subst (λ (j : ℕ). P (get_or (set l i q) j no_node)) (sym w) (subst P (sym (get_or-set_same l i q no_node (omega arith))) (f w))
    go false e = subst P (sym (get_or-set_other l i d q no_node (eqb-false d i e))) o

-- what node d has yet to do
abbrev pub toil_at : List Passage → Run → ℕ → ℕ
toil_at S s d = toil (length (own d S)) (node_of s d)

-- what all have yet to do
abbrev pub toil_of : Read → List Passage → Run → ℕ
toil_of t S s = total (size t.table) (toil_at S s)

module _ {t : Read} {H : ℕ} {S : List Passage} {offs : List ℕ} (G : Given t H S offs) {s : Run} (k : Tied G s) where
  -- the nodes of a choice carried out
  pub carried : (c : ℕ) → c < size t.table → (u : Run) → choose1 (setting_at t H S offs) s c ≡ on u → Carried (setting_at t H S offs) s c u
  unfolding choose1
  carried c h u e =
      finishes_carried (setting_at t H S offs) s c u (stand_of (node_of s c)) refl
      (chosen (awake (setting_at t H S offs) c s.tick)
      (rw (ne_eqb c 255 (λ i. omega (arith, G.limits.most_components)), lt-ltb c (length s.nodes) (omega (arith, k.full))) at e))
    where
      chosen : (x : Bool) → cond (true && x) (finishes (setting_at t H S offs) s c (stand_of (node_of s c))) forbidden ≡ on u → finishes (setting_at t H S offs) s c (stand_of (node_of s c)) ≡ on u
      chosen true f = f
      chosen false f = absurd (let z : ◌≡◌ {A = ℕ} 0 1 = cc in omega arith)

  -- a choice carried out is a tick or a node
  pub whose : (b : ℕ) (u : Run) → choose1 (setting_at t H S offs) s b ≡ on u → (b ≡ 255) ⊎ (b < size t.table)
  unfolding choose1
  whose b u e = go (eqb b 255) refl (ltb b (length s.nodes)) refl (awake (setting_at t H S offs) b s.tick) _ _ e
    where
      go : (x : Bool) → eqb b 255 ≡ x → (y : Bool) → ltb b (length s.nodes) ≡ y → (w : Bool) (tick node : Outcome) → cond x tick (cond (y && w) node forbidden) ≡ on u
          → (b ≡ 255) ⊎ (b < size t.table)
      go true p y q w tick node f = inl (eqb-true b 255 p)
      go false p true q w tick node f = inr (omega (arith, ltb-true b (length s.nodes) q, k.full))
      go false p false q w tick node f = never (setting_at t H S offs) s b u f

  -- a node that finished its statement has less to do
  less : (d : ℕ) → d < size t.table → (stand_of (node_of s d) ≡ taking → is_none (node_of s d).kept ≡ false) → toil (length (own d S)) (finished (setting_at t H S offs) s d) < toil_at S s d
  less d h kept = node_falls G h (k.ties d h) kept

  -- so has node d, if that is the node
  less_at : (c d : ℕ) → d < size t.table → (stand_of (node_of s c) ≡ taking → is_none (node_of s c).kept ≡ false) → d ≡ c
      → toil (length (own d S)) (finished (setting_at t H S offs) s c) < toil_at S s d
  less_at c d h kept e =
      subst (λ (j : ℕ). toil (length (own j S)) (finished (setting_at t H S offs) s c) < toil_at S s j) (sym e) (less c (subst (λ (j : ℕ). j < size t.table) e h) kept)

  -- a node at a listen is not at a take
  no_take : (a i : ℕ) → names a (stand_of (node_of s i)) ≡ true → stand_of (node_of s i) ≡ taking → is_none (node_of s i).kept ≡ false
  no_take a i n e = clash (ap (names a) (sym e) ∙ n)

  -- what all nodes have yet to do falls with each choice of a node
  pub choice_falls : (c : ℕ) → c < size t.table → (u : Run) → choose1 (setting_at t H S offs) s c ≡ on u → toil_of t S u < toil_of t S s
  choice_falls c h u e = go (carried c h u e).nodes
    where
      kept : stand_of (node_of s c) ≡ taking → is_none (node_of s c).kept ≡ false
      kept = (carried c h u e).kept

      one : List Node
      one = set s.nodes c (finished (setting_at t H S offs) s c)

      there : (d : ℕ) → d < size t.table → d < length s.nodes
      there d b = omega (arith, k.full)

      there' : (d : ℕ) → d < size t.table → d < length one
      there' d b = omega (arith, k.full, length-set s.nodes c (finished (setting_at t H S offs) s c))

      one_least : (d : ℕ) → d < size t.table → toil (length (own d S)) (get_or one d no_node) ≤ toil_at S s d
      one_least d b =
          put_at (λ (x : Node). toil (length (own d S)) x ≤ toil_at S s d) s.nodes c (finished (setting_at t H S offs) s c) d (there d b)
          (λ q. let f = less_at c d b kept q in omega arith)
          (omega arith)

      one_falls : toil (length (own c S)) (get_or one c no_node) < toil_at S s c
      one_falls =
          subst (λ (x : Node). toil (length (own c S)) x < toil_at S s c) (sym (get_or-set_same s.nodes c (finished (setting_at t H S offs) s c) no_node (there c h))) (less c h kept)

      all_fall : (l : List Node) → u.nodes ≡ l → ((d : ℕ) → d < size t.table → toil (length (own d S)) (get_or l d no_node) ≤ toil_at S s d)
          → toil (length (own c S)) (get_or l c no_node) < toil_at S s c → toil_of t S u < toil_of t S s
      all_fall l q f b =
          total_falls (size t.table) (toil_at S s) (toil_at S u)
          (λ d i. subst (λ (x : List Node). toil (length (own d S)) (get_or x d no_node) ≤ toil_at S s d) (sym q) (f d i))
          c
          h
          (subst (λ (x : List Node). toil (length (own c S)) (get_or x c no_node) < toil_at S s c) (sym q) b)

      go : Moves (setting_at t H S offs) s c u → toil_of t S u < toil_of t S s
      go (moves q) = all_fall one q one_least one_falls
      go (speaks i a n q) =
          let m = takes_message (part_bytes (program_bytes t) i) a (node_of s i) in
          all_fall (set one i m) q
          (λ d b. put_at (λ (x : Node). toil (length (own d S)) x ≤ toil_at S s d) one i m d (there' d b)
          (λ f. let g = less_at i d b (no_take a i n) f in omega arith)
          (one_least d b))
          (put_at (λ (x : Node). toil (length (own c S)) x < toil_at S s c) one i m c (there' c h) (less_at i c h (no_take a i n)) one_falls)
