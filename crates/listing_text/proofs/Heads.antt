-- The lines of nodes and blocks, by what is there and what is missing. Assumes nothing.
use mathlib.Core.Path.{◌≡◌, refl, sym, ap, ap₂, ◌∙◌}
use mathlib.Core.Bool.{Bool, cond}
use mathlib.Core.List.{List, [], ◌++◌, append_assoc, append-nil}
use Prim.Native.Nat.{ℕ, ◌+◌, ◌*◌, ◌-◌, ◌%◌, ◌≤◌, ◌<◌}
use borrow.Author.Tests.{lt-ltb, le-ltb, eq-eqb, ne_eqb}
use lib.Dec.{ltb}
use lib.ListN.{length}
use Rattle.model.specs.Reader.{byte, word}
use Rattle.text.specs.Words.{ascii, decimal, field, Added}
use Rattle.text.proofs.Appended.{same_words}
use Rattle.listing_text.specs.StatementText.{statement_line}
use Rattle.listing_text.specs.ListingText.{blocks_of, code_at, statements_of, start_of, end_of, outside, place_text, block_name, empty_block, block_head, behind, counts, no_part, no_starts, node_head, header, other_length, no_header, program_head}

-- a text and a number that is another
pub same_field : (words : List ℕ) (n : ℕ) {m : ℕ} {before after : List ℕ} {at end : ℕ} → m ≡ n → Added before at (words ++ decimal m) after end
    → Added before at (words ++ decimal n) after end
same_field words n e added = same_words (words ++ decimal n) added (ap (λ (k : ℕ). words ++ decimal k) e)

-- ## Statements

module _ (part : List ℕ) (place statements : ℕ) (e : statements ≡ statements_of part) where
  -- the text by whether the part reaches so far
  abbrev chosen : Bool → List ℕ
  chosen b = cond b (statement_line place part (code_at part + 4 * place)) outside

  pub place_there : (code : ℕ) → code ≡ code_at part → place < statements → statement_line place part (code + 4 * place) ≡ place_text part place
  place_there code f h =
      ap (λ (c : ℕ). statement_line place part (c + 4 * place)) f ∙ ap chosen (sym (ap (ltb place) (sym e) ∙ lt-ltb place statements h))

  pub place_outside : statements ≤ place → outside ≡ place_text part place
  place_outside h = ap chosen (sym (ap (ltb place) (sym e) ∙ le-ltb place statements h))

-- ## Blocks

-- where a block ends, and its name, from numbers that were read
module _ (part : List ℕ) (block n : ℕ) where
  pub end_next : n ≡ blocks_of part → block + 1 < n → start_of part (block + 1) ≡ end_of part block
  end_next e h =
      ap (λ (b : Bool). cond b (start_of part (block + 1)) (statements_of part)) (sym (ap (ltb (block + 1)) (sym e) ∙ lt-ltb (block + 1) n h))

  pub end_last : n ≡ blocks_of part → n ≤ block + 1 → statements_of part ≡ end_of part block
  end_last e h =
      ap (λ (b : Bool). cond b (start_of part (block + 1)) (statements_of part)) (sym (ap (ltb (block + 1)) (sym e) ∙ le-ltb (block + 1) n h))

  pub name_location : n ≡ byte part 2 → block < n → field "  location " block ≡ block_name part block
  name_location e h =
      ap (λ (b : Bool). cond b (field "  location " block) (field "  edge " (block - byte part 2))) (sym (ap (ltb block) (sym e) ∙ lt-ltb block n h))

  pub name_edge : n ≡ byte part 2 → n ≤ block → field "  edge " (block - n) ≡ block_name part block
  name_edge e h =
      ap (λ (k : ℕ). field "  edge " (block - k)) e
      ∙ ap (λ (b : Bool). cond b (field "  location " block) (field "  edge " (block - byte part 2))) (sym (ap (ltb block) (sym e) ∙ le-ltb block n h))

module _ (part : List ℕ) (block : ℕ) where
  -- its name and where it starts
  abbrev pub named : ℕ → List ℕ
  named start = block_name part block ++ field ", from statement " start ++ ascii "\n"

  pub block_filled : (start end : ℕ) → start ≡ start_of part block → end ≡ end_of part block → start < end → named start ≡ block_head part block
  unfolding block_head
  block_filled start end e f h =
      ap named e ∙ sym (append-nil (named (start_of part block)))
      ∙ ap (λ (b : Bool). named (start_of part block) ++ cond b [] empty_block) (sym (ap₂ ltb (sym e) (sym f) ∙ lt-ltb start end h))

  pub block_empty : (start end : ℕ) → start ≡ start_of part block → end ≡ end_of part block → end ≤ start → named start ++ empty_block ≡ block_head part block
  unfolding block_head
  block_empty start end e f h =
      ap (λ (n : ℕ). named n ++ empty_block) e
      ∙ ap (λ (b : Bool). named (start_of part block) ++ cond b [] empty_block) (sym (ap₂ ltb (sym e) (sym f) ∙ le-ltb start end h))

-- the bytes that are no whole statement: as many as n
module _ (part : List ℕ) (n : ℕ) (e : n ≡ (length part - code_at part) % 4) where
  pub none_behind : n ≡ 0 → [] ≡ behind part
  unfolding behind
  none_behind z = rw (eq-eqb ((length part - code_at part) % 4) 0 (sym e ∙ z)) refl

  pub some_behind : (n ≡ 0 → ⊥) → field "  bytes behind the last whole statement: " n ++ ascii "\n" ≡ behind part
  unfolding behind
  some_behind z =
      rw (ne_eqb ((length part - code_at part) % 4) 0 (λ q. z (e ∙ q)))
      (ap (λ (k : ℕ). field "  bytes behind the last whole statement: " k ++ ascii "\n") e)

-- ## Nodes

module _ (node : ℕ) (part : List ℕ) where
  pub node_short : length part < 6 → field "node " node ++ no_part ≡ node_head node part
  unfolding node_head
  node_short h = rw (lt-ltb (length part) 6 h) refl

  pub node_startless : 6 ≤ length part → length part < code_at part → field "node " node ++ counts part ++ no_starts ≡ node_head node part
  unfolding node_head
  node_startless h k =
      rw (le-ltb (length part) 6 h, lt-ltb (length part) (code_at part) k) (append_assoc (field "node " node) (counts part) no_starts)

  pub node_whole : 6 ≤ length part → code_at part ≤ length part → field "node " node ++ counts part ≡ node_head node part
  unfolding node_head
  node_whole h k =
      rw (le-ltb (length part) 6 h, le-ltb (length part) (code_at part) k)
      (ap (λ (l : List ℕ). field "node " node ++ l) (sym (append-nil (counts part))))

-- ## The program

module _ (program : List ℕ) where
  pub length_right : (n : ℕ) → n ≡ word program 1 → n ≡ length program → [] ≡ other_length program
  length_right n e h = rw (eq-eqb (word program 1) (length program) (sym e ∙ h)) refl

  pub length_other : (n : ℕ) → n ≡ word program 1 → (n ≡ length program → ⊥)
      → field "the length is not that of the bytes read: " (length program) ++ ascii "\n" ≡ other_length program
  length_other n e h = rw (ne_eqb (word program 1) (length program) (λ q. h (e ∙ q))) refl

  pub program_short : length program < 6 → no_header ≡ program_head program
  unfolding program_head
  program_short h = rw (lt-ltb (length program) 6 h) refl

  pub program_headed : 6 ≤ length program → header program ++ other_length program ≡ program_head program
  unfolding program_head
  program_headed h = rw (le-ltb (length program) 6 h) refl
