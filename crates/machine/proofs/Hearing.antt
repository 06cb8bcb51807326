-- Who hears a send: the test of one node, and the first of those of which it holds. Assumes nothing.
use mathlib.Core.Path.{◌≡◌, refl, sym, ap, ap₂, subst, ◌∙◌}
use mathlib.Core.Bool.{Bool, true, false, ◌&&◌, not}
use mathlib.Core.List.{List, [], map}
use Prim.Native.Nat.{ℕ, ◌+◌, ◌≤◌, ◌<◌}
use native.Mathlib.Omega.{arith}
use borrow.Author.Tests.{eqb-true, eqb-false, le-leb, lt-leb, eq-eqb, ne_eqb}
use lib.Dec.{leb, eqb}
use lib.IntN.{ℤ}
use lib.ListN.{length, drop, get_or}
use Rattle.std.specs.Prelude.{Option, None, Some}
use Rattle.std.specs.Option.{ForSome}
use Rattle.model.specs.Lists.{is_none, below}
use Rattle.model.specs.Machine.{Node}
use Rattle.model.specs.Run.{Setting, Run, no_node, node_of, stand_at, stand_of, names, began, hears, listeners}
use Rattle.model.proofs.Basics.Bools.{and_is}
use Rattle.node.specs.Views.{rest_at, op_in}
use Rattle.registers.specs.Words.{word_in, part_in, wake_tick_in}
use Rattle.machine.specs.Running.{view_in}
use Rattle.machine.specs.Chosen.{IsFirst}
use Rattle.machine.proofs.Numbered.{length_below, at_below, none_first, one_first}
use Rattle.machine.proofs.Lent.{lent, lent_is}
use Rattle.machine.proofs.Ops.{stands_listening}

and_false : (a : Bool) → a && false ≡ false
and_false true = refl
and_false false = refl

module _ (program l : List ℕ) (v : List ℤ) (k t i : ℕ) where
  -- node i hears a send on channel k of a node that has been at it since tick t
  abbrev pub hears_in : Bool
  hears_in = names k (stand_of (view_in program l v i)) && is_none (view_in program l v i).goes && leb (word_in l i 1 + word_in l i 28) t

  -- it has not listened for so long
  pub deaf_late : t < word_in l i 1 + word_in l i 28 → false ≡ hears_in
  deaf_late h = rw (lt-leb (word_in l i 1 + word_in l i 28) t h) (sym (and_false (names k (stand_of (view_in program l v i)) && is_none (view_in program l v i).goes)))

  -- it has taken a message
  pub deaf_taken : word_in l i 10 ≡ 1 → false ≡ hears_in
  deaf_taken h = rw (eq-eqb (word_in l i 10) 1 h, and_false (names k (stand_of (view_in program l v i))))

  -- else what it stands at decides
  pub heard : (base size at : ℕ) (r : Bool) → base ≡ word_in l i 21 → size ≡ word_in l i 22 → at ≡ word_in l i 0
      → r ≡ names k (stand_at (rest_at (lent program base size) at)) → word_in l i 1 + word_in l i 28 ≤ t → (word_in l i 10 ≡ 1 → ⊥) → r ≡ hears_in
  heard base size at r b e a s h n =
      s ∙ (ap₂ (λ (p : List ℕ) (m : ℕ). names k (stand_at (rest_at p m))) (lent_is program l i base size b e) a ∙ sym (kept (names k (stand_of (view_in program l v i)))))
    where
      kept : (x : Bool) → x && is_none (view_in program l v i).goes && leb (word_in l i 1 + word_in l i 28) t ≡ x
      kept true = rw (le-leb (word_in l i 1 + word_in l i 28) t h, ne_eqb (word_in l i 10) 1 n)
      kept false = refl

-- ## The first

module _ (program l : List ℕ) (v : List ℤ) (count : ℕ) (s : Run) (nodes : s.nodes ≡ map (view_in program l v) (below count)) where
  -- node i of the run
  pub node_at : (i : ℕ) → i < count → node_of s i ≡ view_in program l v i
  node_at i h = ap (λ (ns : List Node). get_or ns i no_node) nodes ∙ at_below (view_in program l v) no_node count i h

  -- as many as there are
  pub all_nodes : length s.nodes ≡ count
  all_nodes = ap length nodes ∙ length_below (view_in program l v) count

module _ (program l : List ℕ) (v : List ℤ) (k count c : ℕ) (g : Setting) (s : Run) (m : c < count) (offsets : g.offsets ≡ map (wake_tick_in l) (below count)) (nodes : s.nodes ≡ map (view_in program l v) (below count)) where
  abbrev test : ℕ → Bool
  test i = not (eqb i c) && hears g k (began g c (node_of s c)) i (node_of s i)

  -- the common tick at which the window of node i began
  since_at : (i : ℕ) → i < count → began g i (node_of s i) ≡ word_in l i 1 + word_in l i 28
  since_at i h =
      ap₂ (λ (x : Node) (o : ℕ). x.t + o) (node_at program l v count s nodes i h)
      (ap (λ (os : List ℕ). get_or os i 0) offsets ∙ at_below (wake_tick_in l) 0 count i h)

  test_is : (i : ℕ) → i < count → test i ≡ not (eqb i c) && hears_in program l v k (word_in l c 1 + word_in l c 28) i
  test_is i h =
      ap (λ (x : Node). not (eqb i c) && (names k (stand_of x) && is_none x.goes && leb (began g i (node_of s i)) (began g c (node_of s c)))) (node_at program l v count s nodes i h)
      ∙ ap₂ (λ (x y : ℕ). not (eqb i c) && (names k (stand_of (view_in program l v i)) && is_none (view_in program l v i).goes && leb x y)) (since_at i h) (since_at c m)

  fails : (i : ℕ) → i < count → ((i ≡ c → ⊥) → hears_in program l v k (word_in l c 1 + word_in l c 28) i ≡ false) → test i ≡ false
  fails i h f = test_is i h ∙ go (eqb i c) refl
    where
      go : (x : Bool) → eqb i c ≡ x → not x && hears_in program l v k (word_in l c 1 + word_in l c 28) i ≡ false
      go true e = refl
      go false e = f (eqb-false i c e)

  -- no node hears it
  pub no_listener : ((i : ℕ) → i < count → (i ≡ c → ⊥) → hears_in program l v k (word_in l c 1 + word_in l c 28) i ≡ false) → IsFirst (listeners g s c k) None
  no_listener f = rw (all_nodes program l v count s nodes) (none_first test count (λ i h. fails i h (f i h)))

  -- node i is the first
  pub first_listener : (i : ℕ) → i < count → (i ≡ c → ⊥) → ((j : ℕ) → j < i → (j ≡ c → ⊥) → hears_in program l v k (word_in l c 1 + word_in l c 28) j ≡ false)
      → hears_in program l v k (word_in l c 1 + word_in l c 28) i ≡ true → IsFirst (listeners g s c k) (Some i)
  first_listener i h n f e =
      rw (all_nodes program l v count s nodes)
      (one_first test count i (λ j q. fails j (omega arith) (f j q)) h (test_is i h ∙ rw (ne_eqb i c n) e))

-- one that hears stands at a listen
pub listens : (program l : List ℕ) (v : List ℤ) (k t i : ℕ) → hears_in program l v k t i ≡ true → op_in (drop (word_in l i 0) (part_in program l i)) ≡ 5
listens program l v k t i e =
    let a = (and_is (names k (stand_of (view_in program l v i)) && is_none (view_in program l v i).goes) (leb (word_in l i 1 + word_in l i 28) t)).0 e in
    let b = (and_is (names k (stand_of (view_in program l v i))) (is_none (view_in program l v i).goes)).0 a.0 in
    stands_listening (part_in program l i) (word_in l i 0) k b.0

-- ## A turn of the search

-- of the nodes below i none hears it, node c aside
abbrev pub NoneYet : List ℕ → List ℕ → ℕ → ℕ → ℕ → ℕ → Type 0
NoneYet program l k t c i = (v : List ℤ) (j : ℕ) → j < i → (j ≡ c → ⊥) → hears_in program l v k t j ≡ false

-- nor does node i
pub one_more : (program l : List ℕ) (k t c i : ℕ) → NoneYet program l k t c i → ((v : List ℤ) → (i ≡ c → ⊥) → hears_in program l v k t i ≡ false) → NoneYet program l k t c (i + 1)
one_more program l k t c i f h v j m n = go (eqb j i) refl
  where
    go : (x : Bool) → eqb j i ≡ x → hears_in program l v k t j ≡ false
    go true e =
        let q = eqb-true j i e in
        subst (λ (a : ℕ). hears_in program l v k t a ≡ false) (sym q) (h v (λ z. n (q ∙ z)))
    go false e = let q = eqb-false j i e in f v j (omega arith) n

-- what is said of the node found
abbrev pub Found : List ℕ → List ℕ → ℕ → ℕ → ℕ → Option ℕ → Type 0
Found program l k count c r = record {
  first : (v : List ℤ) (g : Setting) (s : Run) → g.offsets ≡ map (wake_tick_in l) (below count) → s.nodes ≡ map (view_in program l v) (below count) → IsFirst (listeners g s c k) r;
  stands : ForSome r (λ i. (i < count) × (i ≡ c → ⊥) × (op_in (drop (word_in l i 0) (part_in program l i)) ≡ 5));
}

module _ (program l : List ℕ) (k t count c i : ℕ) (m : c < count) (since : t ≡ word_in l c 1 + word_in l c 28) (none : NoneYet program l k t c i) where
  -- node i hears it
  pub found : i < count → (i ≡ c → ⊥) → (r : Bool) → r ≡ true → ((v : List ℤ) → r ≡ hears_in program l v k t i) → Found program l k count c (Some i)
  found h n r e f = record {
    first = λ v g s o q. first_listener program l v k count c g s m o q i h n (λ j a b. rw (← since) (none v j a b)) (rw (← since) (sym (f v) ∙ e));
    stands = λ j q. let is : i ≡ j = cc in rw (← is) (h, n, listens program l [] k t i (sym (f []) ∙ e));
  }

  -- none is left
  pub not_found : count ≤ i → Found program l k count c None
  not_found h = record {
    first = λ v g s o q. no_listener program l v k count c g s m o q (λ j a b. rw (← since) (none v j (omega arith) b));
    stands = λ j e. absurd (cc);
  }
