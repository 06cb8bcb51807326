-- What a word written, and the registers of one node put back, leave as they were. Assumes nothing.
use mathlib.Core.Path.{◌≡◌, refl, ◌∙◌}
use mathlib.Core.List.{List}
use Prim.Native.Nat.{ℕ, ◌+◌, ◌*◌, ◌≤◌, ◌<◌}
use native.Mathlib.Omega.{arith}
use lib.IntN.{ℤ}
use lib.ListN.{length, set, length-set}
use lib.Seq.{get_or-set_same, get_or-set_other}
use Rattle.node.specs.declared.Node.{Node}
use Rattle.registers.specs.Words.{word_in, value_in, node_in, part_in, held_in, Eight, SameNode, Stored}

-- ## A node that stays

-- a node's registers are its words 0 to 20 and its variables
pub node_alike : (l l' : List ℕ) (v v' : List ℤ) (i : ℕ) → ((k : ℕ) → k < 21 → word_in l' i k ≡ word_in l i k)
    → ((k : ℕ) → k < 4 → value_in v' i k ≡ value_in v i k) → node_in l' v' i ≡ node_in l v i
node_alike l l' v v' i w x =
    rw (
      w 0 (omega arith),
      w 1 (omega arith),
      w 2 (omega arith),
      w 3 (omega arith),
      w 4 (omega arith),
      w 5 (omega arith),
      w 6 (omega arith),
      w 7 (omega arith),
      w 8 (omega arith),
      w 9 (omega arith),
      w 10 (omega arith),
      w 11 (omega arith),
      w 12 (omega arith),
      w 13 (omega arith),
      w 14 (omega arith),
      w 15 (omega arith),
      w 16 (omega arith),
      w 17 (omega arith),
      w 18 (omega arith),
      w 19 (omega arith),
      w 20 (omega arith),
      x 0 (omega arith),
      x 1 (omega arith),
      x 2 (omega arith),
      x 3 (omega arith),
    )

-- where its part stands, words 21 and 22; what it holds, words 23 and 24
pub part_alike : (program l l' : List ℕ) (i : ℕ) → ((k : ℕ) → 21 ≤ k → k < 25 → word_in l' i k ≡ word_in l i k) → part_in program l' i ≡ part_in program l i
part_alike program l l' i w = rw (w 21 (omega arith) (omega arith), w 22 (omega arith) (omega arith))

pub held_alike : (l l' : List ℕ) (i : ℕ) → ((k : ℕ) → 21 ≤ k → k < 25 → word_in l' i k ≡ word_in l i k) → held_in l' i ≡ held_in l i
held_alike l l' i w = rw (w 23 (omega arith) (omega arith), w 24 (omega arith) (omega arith))

module _ {l : List ℕ} {v : List ℤ} {l' : List ℕ} {v' : List ℤ} {i : ℕ} (s : SameNode l v l' v' i) where
  pub same_node : node_in l' v' i ≡ node_in l v i
  same_node = node_alike l l' v v' i (λ k h. s.words k (omega arith)) s.values

  pub same_part : (program : List ℕ) → part_in program l' i ≡ part_in program l i
  same_part program = part_alike program l l' i (λ k h b. s.words k (omega arith))

  pub same_held : held_in l' i ≡ held_in l i
  same_held = held_alike l l' i (λ k h b. s.words k (omega arith))

pub same_refl : {l : List ℕ} {v : List ℤ} {i : ℕ} → SameNode l v l v i
same_refl = record { words = λ k h. refl; values = λ k h. refl }

pub same_trans : {l l' l'' : List ℕ} {v v' v'' : List ℤ} {i : ℕ} → SameNode l v l' v' i → SameNode l' v' l'' v'' i → SameNode l v l'' v'' i
same_trans s t = record { words = λ k h. t.words k h ∙ s.words k h; values = λ k h. t.values k h ∙ s.values k h }

-- ## A word written

-- two words of two nodes stand at two places
apart : (i c j k : ℕ) → (i ≡ c → ⊥) → j < 32 → k < 32 → i * 32 + j ≡ c * 32 + k → ⊥
apart i c j k d a b e = d (omega arith)

-- word k of node c
module _ (l : List ℕ) (c k x : ℕ) {l' : List ℕ} (e : l' ≡ set l (c * 32 + k) x) where
  pub put_there : 256 ≤ length l → c < 8 → k < 32 → word_in l' c k ≡ x
  put_there h a b = rw e (get_or-set_same l (c * 32 + k) x 0 (omega arith))

  pub put_beside : (j : ℕ) → (j ≡ k → ⊥) → word_in l' c j ≡ word_in l c j
  put_beside j d = rw e (get_or-set_other l (c * 32 + k) (c * 32 + j) x 0 (λ p. d (omega arith)))

  pub put_length : length l' ≡ length l
  put_length = rw e (length-set l (c * 32 + k) x)

  module _ (v : List ℤ) where
    pub put_node : 21 ≤ k → node_in l' v c ≡ node_in l v c
    put_node h = node_alike l l' v v c (λ j b. put_beside j (λ p. omega arith)) (λ j b. refl)

    pub put_others : (i : ℕ) → (i ≡ c → ⊥) → k < 32 → SameNode l v l' v i
    put_others i d b =
        record {
          words = λ j h. rw e (get_or-set_other l (c * 32 + k) (i * 32 + j) x 0 (apart i c j k d h b));
          values = λ j h. refl;
        }

    pub put_eight : Eight l v → Eight l' v
    put_eight g = record { words = omega (arith, put_length, g.words); values = g.values }

-- ## Registers put back

module _ {l : List ℕ} {v : List ℤ} {c : ℕ} {r : Node} {l' : List ℕ} {v' : List ℤ} (s : Stored l v c r l' v') where
  pub stored_eight : Eight l v → Eight l' v'
  stored_eight g = record { words = omega (arith, s.length_l, g.words); values = omega (arith, s.length_v, g.values) }

  pub stored_part : (program : List ℕ) → part_in program l' c ≡ part_in program l c
  stored_part program = part_alike program l l' c (λ k h b. s.beside k h (omega arith))

  pub stored_held : held_in l' c ≡ held_in l c
  stored_held = held_alike l l' c (λ k h b. s.beside k h (omega arith))
