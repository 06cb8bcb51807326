-- The offsets of the nodes, one after the other. Assumes nothing.
use mathlib.Core.Path.{◌≡◌, refl, sym, ap, ◌∙◌}
use mathlib.Core.Bool.{Bool, true, false}
use mathlib.Core.List.{List, [], ◌++◌, map, append_assoc, append-nil}
use Prim.Native.Nat.{ℕ, zero, suc, ◌+◌, ◌-◌, ◌≤◌, ◌<◌}
use native.Mathlib.Numerals.{add-one}
use native.Mathlib.Omega.{arith}
use lib.ListN.{take}
use Rattle.model.specs.Lists.{each, from, below}
use Rattle.model.specs.Run.{offset_in}
use Rattle.model.specs.Calls.{offsets_fine}
use Rattle.model.proofs.Run.CallsApart.{offsets-fine}
use Rattle.text.specs.Words.{ascii, decimal, field, Added}
use Rattle.text.proofs.Appended.{next, same_words}
use Rattle.run_text.specs.RunText.{listed, offsets_text}

-- ## Whether all are 0

module _ (nodes : ℕ) (offsets : List ℕ) where
  pub all_together : ((c : ℕ) → c < nodes → offset_in offsets c ≤ 0) → true ≡ offsets_fine 0 nodes offsets
  all_together h = sym ((offsets-fine 0 nodes offsets).1 h)

  pub one_apart : (c : ℕ) → c < nodes → 0 < offset_in offsets c → false ≡ offsets_fine 0 nodes offsets
  one_apart c h k = go (offsets_fine 0 nodes offsets) refl
    where
      go : (t : Bool) → offsets_fine 0 nodes offsets ≡ t → false ≡ t
      go true e = absurd (omega (arith, (offsets-fine 0 nodes offsets).0 e c h))
      go false e = refl

  -- then there is a node
  pub some_node : (t : Bool) → t ≡ offsets_fine 0 nodes offsets → t ≡ false → 0 < nodes
  unfolding offsets_fine
  some_node t e f = go nodes (sym e ∙ f)
    where
      go : (n : ℕ) → offsets_fine 0 n offsets ≡ false → 0 < n
      go zero q = absurd (let z : ◌≡◌ {A = ℕ} 0 1 = cc in omega arith)
      go (suc n) q = omega arith

-- ## Their words

module _ (offset : ℕ → ℕ) (n : ℕ) where
  -- those of node c and of the nodes behind it
  unfoldable pub rest : ℕ → List ℕ
  unfolding each decimal
  rest c = each (field ", ") (map offset (from c (n - c)))

  pub rest_turn : (out out' text : List ℕ) (at at' c number : ℕ) → c < n → number ≡ offset c → Added out at (field ", " number) out' at'
      → take at out ++ rest c ≡ text → take at' out' ++ rest (c + 1) ≡ text
  unfolding rest each
  rest_turn out out' text at at' c number h k added e =
      let more : n - c ≡ suc (n - (c + 1)) = omega arith in
      let here = same_words (field ", " (offset c)) added (ap (λ (m : ℕ). field ", " m) k) in
      let split : rest c ≡ field ", " (offset c) ++ rest (c + 1) = rw (more, add-one c) in
      ap (λ (l : List ℕ). l ++ rest (c + 1)) here.text ∙ append_assoc (take at out) (field ", " (offset c)) (rest (c + 1))
      ∙ ap (λ (l : List ℕ). take at out ++ l) (sym split)
      ∙ e

  pub rest_done : (out text : List ℕ) (at c : ℕ) → n ≤ c → take at out ++ rest c ≡ text → take at out ≡ text
  unfolding rest each
  rest_done out text at c h e =
      let none : n - c ≡ 0 = omega arith in
      sym (append-nil (take at out)) ∙ ap (λ (m : ℕ). take at out ++ each (field ", ") (map offset (from c m))) (sym none) ∙ e

  -- after the first
  pub all_listed : {before between after : List ℕ} {at middle end : ℕ} (first : ℕ) → 0 < n → first ≡ offset 0
      → Added before at (field "offsets: " first) between middle
      → take end after ≡ take middle between ++ rest 1
      → Added before at (ascii "offsets: " ++ listed (map offset (below n))) after end
  unfolding rest each
  all_listed first h k added e =
      let one = same_words (field "offsets: " (offset 0)) added (ap (λ (m : ℕ). field "offsets: " m) k) in
      let some : n ≡ suc (n - 1) = omega arith in
      let whole : listed (map offset (below n)) ≡ decimal (offset 0) ++ rest 1 = ap (λ (m : ℕ). listed (map offset (from 0 m))) some in
      same_words (ascii "offsets: " ++ listed (map offset (below n))) (next one (record { text = e }))
      (append_assoc (ascii "offsets: ") (decimal (offset 0)) (rest 1) ∙ ap (λ (l : List ℕ). ascii "offsets: " ++ l) (sym whole))

-- ## The line

module _ (nodes : ℕ) (offsets : List ℕ) (t : Bool) (e : t ≡ offsets_fine 0 nodes offsets) where
  pub no_line : t ≡ true → offsets_text nodes offsets ≡ []
  unfolding offsets_text
  no_line q = rw (sym e ∙ q)

  pub with_line : t ≡ false
      → ascii "offsets: " ++ listed (map (offset_in offsets) (below nodes)) ++ ascii " (a node's tick is by its own clock, which starts at its offset)\n"
      ≡ offsets_text nodes offsets
  unfolding offsets_text
  with_line q = sym (rw (sym e ∙ q))
