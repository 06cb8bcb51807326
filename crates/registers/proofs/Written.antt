-- A node's registers after all were written. Assumes nothing.
use mathlib.Core.Path.{◌≡◌, refl, sym, ◌∙◌}
use mathlib.Core.Logic.{◌⊎◌, inl, inr, ⊎_elim}
use mathlib.Core.Bool.{Bool, true, false}
use mathlib.Core.List.{List, [], ◌∷◌, ◌++◌}
use Prim.Native.Nat.{ℕ, ◌+◌, ◌*◌, ◌%◌, ◌≤◌, ◌<◌}
use native.Mathlib.Omega.{arith}
use borrow.Author.Tests.{ltb-true, ltb-false}
use lib.Dec.{ltb, eqb}
use lib.IntN.{ℤ, pos}
use lib.ListN.{length, get_or, set, length-set}
use lib.Seq.{sets, length-sets}
use Rattle.node.specs.declared.Node.{Node}
use Rattle.registers.specs.Words.{word_in, value_in, flag_of, clocks_in, values_in, trial_in, kept_in, node_in, time_words, place_words, trial_words, kept_words, four_of, Eight, SameNode, Stored}
use Rattle.registers.proofs.Runs.{before_run, after_run, in_run, four, two}

-- what the registers' types say
pub record Sized (r : Node) : Type 0 where
  pub location : r.location < 256
  pub n : r.n < 65536
  pub d : r.d < 65536
  pub edge : r.edge < 256
  pub goes : r.goes < 256
  pub tried_ready : r.tried.ready < 65536
  pub tried_end : r.tried.end < 65536
  pub kept_edge : r.kept.edge < 256
  pub kept_ready : r.kept.ready < 65536
  pub kept_end : r.kept.end < 65536
  pub clocks : length r.clocks ≡ 4
  pub values : length r.values ≡ 4

-- words 0 to 20
abbrev words_of : Node → List ℕ
words_of r =
    time_words r.pc r.t r.clocks ++ place_words r.n r.d r.location r.edge r.taken r.goes
    ++ trial_words r.tried ++ kept_words r.kept ++ r.sleeps ∷ []

pub flag_is : (b : Bool) → eqb (flag_of b) 1 ≡ b
flag_is true = refl
flag_is false = refl

-- a place of another node is before or after
pub words_outside : (i c k n : ℕ) → (i ≡ c → ⊥) → k < 32 → n ≤ 32 → (i * 32 + k < c * 32) ⊎ (c * 32 + n ≤ i * 32 + k)
words_outside i c k n d h b = go (ltb i c) refl
  where
    go : (t : Bool) → ltb i c ≡ t → (i * 32 + k < c * 32) ⊎ (c * 32 + n ≤ i * 32 + k)
    go true e = inl (omega (arith, ltb-true i c e))
    go false e = let p : c < i = omega (arith, ltb-false i c e) in inr (omega arith)

values_outside : (i c k : ℕ) → (i ≡ c → ⊥) → k < 4 → (i * 4 + k < c * 4) ⊎ (c * 4 + 4 ≤ i * 4 + k)
values_outside i c k d h = go (ltb i c) refl
  where
    go : (t : Bool) → ltb i c ≡ t → (i * 4 + k < c * 4) ⊎ (c * 4 + 4 ≤ i * 4 + k)
    go true e = inl (omega (arith, ltb-true i c e))
    go false e = let p : c < i = omega (arith, ltb-false i c e) in inr (omega arith)

module _ (l : List ℕ) (v : List ℤ) (c : ℕ) (r : Node) (l' : List ℕ) (v' : List ℤ) (g : Eight l v) (there : c < 8) (z : Sized r)
    (is-l : l' ≡ sets l (c * 32) (words_of r)) (is_v : v' ≡ sets v (c * 4) (four_of r.values)) where
  word_is : (k : ℕ) → k < 21 → word_in l' c k ≡ get_or (words_of r) k 0
  word_is k h = rw is-l (in_run 0 (words_of r) l (c * 32) k (omega (arith, g.words)) h)

  value_is : (k : ℕ) → k < 4 → value_in v' c k ≡ get_or (four_of r.values) k (pos 0)
  value_is k h = rw is_v (in_run (pos 0) (four_of r.values) v (c * 4) k (omega (arith, g.values)) h)

  byte_is : (k : ℕ) → k < 21 → get_or (words_of r) k 0 < 256 → word_in l' c k % 256 ≡ get_or (words_of r) k 0
  byte_is k h b = rw (word_is k h) (omega arith)

  half_is : (k : ℕ) → k < 21 → get_or (words_of r) k 0 < 65536 → word_in l' c k % 65536 ≡ get_or (words_of r) k 0
  half_is k h b = rw (word_is k h) (omega arith)

  told_is : (k : ℕ) (b : Bool) → k < 21 → get_or (words_of r) k 0 ≡ flag_of b → eqb (word_in l' c k) 1 ≡ b
  told_is k b h e = rw (word_is k h, e) (flag_is b)

  clocks_are : clocks_in l' c ≡ r.clocks
  clocks_are = rw (word_is 2 (omega arith), word_is 3 (omega arith), word_is 4 (omega arith), word_is 5 (omega arith)) (sym (four 0 r.clocks z.clocks))

  values_are : values_in v' c ≡ r.values
  values_are = rw (value_is 0 (omega arith), value_is 1 (omega arith), value_is 2 (omega arith), value_is 3 (omega arith)) (sym (four (pos 0) r.values z.values))

  trial_is : trial_in l' c ≡ r.tried
  trial_is =
      rw (
        half_is 12 (omega arith) z.tried_ready,
        told_is 13 r.tried.ended (omega arith) refl,
        half_is 14 (omega arith) z.tried_end,
        told_is 15 r.tried.good (omega arith) refl,
      )

  kept_is : kept_in l' c ≡ r.kept
  kept_is =
      rw (
        told_is 16 r.kept.some (omega arith) refl,
        byte_is 17 (omega arith) z.kept_edge,
        half_is 18 (omega arith) z.kept_ready,
        half_is 19 (omega arith) z.kept_end,
      )

  node_is : node_in l' v' c ≡ r
  node_is =
      rw (
        clocks_are,
        values_are,
        trial_is,
        kept_is,
        word_is 0 (omega arith),
        word_is 1 (omega arith),
        half_is 6 (omega arith) z.n,
        half_is 7 (omega arith) z.d,
        byte_is 8 (omega arith) z.location,
        byte_is 9 (omega arith) z.edge,
        told_is 10 r.taken (omega arith) refl,
        byte_is 11 (omega arith) z.goes,
        word_is 20 (omega arith),
      )

  others_stay : (i : ℕ) → (i ≡ c → ⊥) → SameNode l v l' v' i
  others_stay i d =
      record {
        words = λ k h. rw is-l (⊎_elim (before_run 0 (words_of r) l (c * 32) (i * 32 + k)) (after_run 0 (words_of r) l (c * 32) (i * 32 + k)) (words_outside i c k 21 d h (omega arith)));
        values = λ k h. rw is_v (⊎_elim (before_run (pos 0) (four_of r.values) v (c * 4) (i * 4 + k)) (after_run (pos 0) (four_of r.values) v (c * 4) (i * 4 + k)) (values_outside i c k d h));
      }

  all_stored : Stored l v c r l' v'
  all_stored =
      record {
        node = node_is;
        beside = λ k h b. rw is-l (after_run 0 (words_of r) l (c * 32) (c * 32 + k) (omega arith));
        others = others_stay;
        length_l = rw is-l (length-sets l (c * 32) (words_of r));
        length_v = rw is_v (length-sets v (c * 4) (four_of r.values));
      }

-- five runs of stores, each where the one before ended
five : (l a b c d e : List ℕ) (i j k m n : ℕ) → j ≡ i + length a → k ≡ j + length b → m ≡ k + length c → n ≡ m + length d
    → sets (sets (sets (sets (sets l i a) j b) k c) m d) n e ≡ sets l i (a ++ (b ++ (c ++ (d ++ e))))
five l a b c d e i j k m n p q s t =
    two d e (sets (sets (sets l i a) j b) k c) m n t ∙ two c (d ++ e) (sets (sets l i a) j b) k m s ∙ two b (c ++ (d ++ e)) (sets l i a) j k q
    ∙ two a (b ++ (c ++ (d ++ e))) l i j p

-- the runs one by one, as the code leaves them
pub written : (l : List ℕ) (v : List ℤ) (c : ℕ) (r : Node) (l₁ l₂ l₃ l₄ : List ℕ) (v' : List ℤ) → Eight l v → c < 8 → Sized r
    → l₁ ≡ sets l (c * 32) (time_words r.pc r.t r.clocks)
    → l₂ ≡ sets l₁ (c * 32 + 6) (place_words r.n r.d r.location r.edge r.taken r.goes)
    → l₃ ≡ sets l₂ (c * 32 + 12) (trial_words r.tried) → l₄ ≡ sets l₃ (c * 32 + 16) (kept_words r.kept)
    → v' ≡ sets v (c * 4) (four_of r.values) → Stored l v c r (set l₄ (c * 32 + 20) r.sleeps) v'
written l v c r l₁ l₂ l₃ l₄ v' g there z e₁ e₂ e₃ e₄ ev = all_stored l v c r (set l₄ (c * 32 + 20) r.sleeps) v' g there z all ev
  where
    all : set l₄ (c * 32 + 20) r.sleeps ≡ sets l (c * 32) (words_of r)
    all =
        rw (e₄, e₃, e₂, e₁)
        (five l (time_words r.pc r.t r.clocks) (place_words r.n r.d r.location r.edge r.taken r.goes)
        (trial_words r.tried) (kept_words r.kept) (r.sleeps ∷ []) (c * 32) (c * 32 + 6) (c * 32 + 12) (c * 32 + 16) (c * 32 + 20)
        refl (omega arith) (omega arith) (omega arith))

pub still_long : (l l₁ l₂ l₃ l₄ : List ℕ) (i x : ℕ) → length l₁ ≡ length l → length l₂ ≡ length l₁ → length l₃ ≡ length l₂ → length l₄ ≡ length l₃
    → length (set l₄ i x) ≡ length l
still_long l l₁ l₂ l₃ l₄ i x a b c d = length-set l₄ i x ∙ d ∙ c ∙ b ∙ a
