-- The lines of a listing one after the other. Assumes nothing.
use mathlib.Core.Path.{◌≡◌, refl, sym, ap, ◌∙◌}
use mathlib.Core.Bool.{Bool, cond}
use mathlib.Core.List.{List, [], ◌++◌, append-nil}
use Prim.Native.Nat.{ℕ, suc, ◌+◌, ◌-◌, ◌≤◌, ◌<◌}
use native.Mathlib.Numerals.{add-one}
use native.Mathlib.Omega.{arith}
use borrow.Author.Tests.{lt-ltb, le-ltb}
use lib.Dec.{ltb}
use lib.ListN.{length, take, drop, length-take, length-drop}
use Rattle.model.specs.Reader.{byte}
use Rattle.text.specs.Words.{Added}
use Rattle.blocks.specs.Put.{Put}
use Rattle.blocks.proofs.Runs.{put_is, put_join}
use Rattle.listing_text.specs.ListingText.{code_at, statements_of, start_of, end_of, blocks_of, place_text, statements_text, block_head, behind, blocks_text, node_head, node_text, part_in, nodes_text, program_head, listing_text}

-- a line is put: what stands at its front is the text
pub line_put : {o p line₀ line text : List ℕ} {at n m : ℕ} → Added line₀ 0 text line n → Put o at (take n line) m p → Put o at text m p
line_put a h = put_is a.text h

-- one more is left
pub one_left : (place end : ℕ) → place < end → end - place ≡ suc (end - (place + 1))
one_left place end h = omega arith

none_left : (place end : ℕ) → end ≤ place → end - place ≡ 0
none_left place end h = omega arith

-- ## Statements

module _ (part : List ℕ) (place end : ℕ) where
  statements_left : place < end → statements_text part place (end - place)
      ≡ place_text part place ++ cond (ltb place (statements_of part)) (statements_text part (suc place) (end - (place + 1))) []
  unfolding statements_text
  statements_left h = ap (λ (n : ℕ). statements_text part place n) (one_left place end h)

  -- it lies inside: the rest follows
  pub inside_left : place < end → place < statements_of part → statements_text part place (end - place) ≡ place_text part place ++ statements_text part (place + 1) (end - (place + 1))
  inside_left h k = statements_left h ∙ rw (lt-ltb place (statements_of part) k, add-one) refl

  -- it is the last
  pub last_left : place < end → statements_of part ≤ place → statements_text part place (end - place) ≡ place_text part place ++ []
  last_left h k = statements_left h ∙ rw (le-ltb place (statements_of part) k) refl

  pub statements_done : end ≤ place → statements_text part place (end - place) ≡ []
  unfolding statements_text
  statements_done h = ap (λ (n : ℕ). statements_text part place n) (none_left place end h)

-- ## Blocks

-- a block with its statements
abbrev pub whole_block : List ℕ → ℕ → List ℕ
whole_block part block = block_head part block ++ statements_text part (start_of part block) (end_of part block - start_of part block)

-- its statements are put behind its head
pub block_put : (part : List ℕ) (block : ℕ) {start end at m n : ℕ} {o p q : List ℕ} → start ≡ start_of part block → end ≡ end_of part block
    → Put o at (block_head part block) m p → Put p m (statements_text part start (end - start)) n q → Put o at (whole_block part block) n q
block_put part block {start} {end} e f h k =
    put_join h
    (put_is
    (ap (λ (s : ℕ). statements_text part s (end - s)) e ∙ ap (λ (x : ℕ). statements_text part (start_of part block) (x - start_of part block)) f)
    k)

module _ (part : List ℕ) (block blocks : ℕ) where
  pub block_left : block < blocks → blocks_text part block (blocks - block) ≡ whole_block part block ++ blocks_text part (block + 1) (blocks - (block + 1))
  unfolding blocks_text
  block_left h =
      ap (λ (n : ℕ). blocks_text part block n) (one_left block blocks h)
      ∙ ap (λ (k : ℕ). whole_block part block ++ blocks_text part k (blocks - (block + 1))) (sym (add-one block))

  pub blocks_done : blocks ≤ block → blocks_text part block (blocks - block) ≡ behind part ++ []
  unfolding blocks_text
  blocks_done h = ap (λ (n : ℕ). blocks_text part block n) (none_left block blocks h) ∙ sym (append-nil (behind part))

-- ## Nodes

-- a part of fewer than 6 bytes does not hold its starts
pub no_counts : (part : List ℕ) → length part < 6 → length part < code_at part
no_counts part h = omega arith

module _ (node : ℕ) (part : List ℕ) where
  -- the starts lie outside: the head is all
  pub node_short : length part < code_at part → node_head node part ≡ node_text node part
  node_short h = rw (lt-ltb (length part) (code_at part) h) (sym (append-nil (node_head node part)))

  pub node_long : code_at part ≤ length part → node_head node part ++ blocks_text part 0 (blocks_of part) ≡ node_text node part
  node_long h = rw (le-ltb (length part) (code_at part) h) refl

-- a part is no longer than the program
pub no_longer : (long start : ℕ) {part : List ℕ} (program : List ℕ) → part ≡ take long (drop start program) → length program ≤ 65536 → length part ≤ 65536
no_longer long start {part} program e h =
    let k : length part ≡ length (take long (drop start program)) = ap length e in
    omega (arith, k, length-take long (drop start program), length-drop start program)

module _ (program : List ℕ) (node nodes : ℕ) where
  pub node_left : node < nodes → nodes_text program node (nodes - node) ≡ node_text node (part_in program node) ++ nodes_text program (node + 1) (nodes - (node + 1))
  unfolding nodes_text
  node_left h = ap (λ (n : ℕ). nodes_text program node n) (one_left node nodes h) ∙ rw add-one refl

  pub nodes_done : nodes ≤ node → nodes_text program node (nodes - node) ≡ []
  unfolding nodes_text
  nodes_done h = ap (λ (n : ℕ). nodes_text program node n) (none_left node nodes h)

-- ## The program

module _ (program : List ℕ) where
  -- the header lies outside: that is all
  pub listing_short : length program < 6 → program_head program ≡ listing_text program
  unfolding listing_text
  listing_short h =
      sym (append-nil (program_head program))
      ∙ ap (λ (b : Bool). program_head program ++ cond b [] (nodes_text program 0 (byte program 3))) (sym (lt-ltb (length program) 6 h))

  pub listing_long : 6 ≤ length program → program_head program ++ nodes_text program 0 (byte program 3) ≡ listing_text program
  unfolding listing_text
  listing_long h = rw (le-ltb (length program) 6 h) refl
