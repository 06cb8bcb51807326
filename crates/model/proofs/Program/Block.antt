-- A block of a program: decoding its bytes gives its statements; where each block of a row of blocks stands. Assumes nothing.
use mathlib.Core.Path.{◌≡◌, ap, subst, ◌∙◌}
use mathlib.Core.Bool.{true, false}
use mathlib.Core.List.{List, [], ◌∷◌, ◌++◌, append_assoc}
use mathlib.Core.Option.{some}
use Prim.Native.Nat.{ℕ, zero, suc, ◌+◌, ◌*◌, ◌≤◌, ◌<◌}
use native.Mathlib.Omega.{arith}
use lib.ListN.{length, get_or, drop}
use lib.Seq.{drop_at}
use Rattle.model.specs.Lists.{All, empty, more, each}
use Rattle.model.specs.Reader.{word}
use Rattle.model.specs.Program.{Statement, code, block_bytes, statements, start_bytes}
use Rattle.model.specs.Machine.{statement_at, decode_block}
use Rattle.model.proofs.Basics.Words.{word_back}
use Rattle.model.proofs.Basics.Walk.{Stands, stands_first, stands_second, stands_at, stands_says}
use Rattle.model.proofs.Program.Statement.{Fitting, quads, ends, coded, statement_back}
use Rattle.model.proofs.Program.Size.{all_quads, quads_length, four}
use Rattle.model.proofs.Program.Size.{block_join as bytes-join}

-- ## One block

-- a statement inside a block: its numbers fit, and it does not end the block
pub record Inside (s : Statement) : Type 0 where
  pub fits : Fitting s
  pub onward : ends s ≡ false

-- a block: statements inside it, then one that ends it
pub data Block : List Statement → Type 0 where
  last : {s : Statement} → Fitting s → ends s ≡ true → Block (s ∷ [])
  after : {s : Statement} {b : List Statement} → Inside s → Block b → Block (s ∷ b)

-- statements inside a block before a block are a block
pub block_join : {xs b : List Statement} → All Inside xs → Block b → Block (xs ++ b)
block_join empty k = k
block_join (more h a) k = after h (block_join a k)

module _ (s : Statement) (r : List ℕ) (most : ℕ) (h : Fitting s) where
  -- a statement that ends its block is decoded alone
  decode_last : ends s ≡ true → decode_block (suc most) (code s ++ r) ≡ s ∷ []
  unfolding decode_block
  decode_last e = rw (statement_back s r h, (coded s r).2 ∙ e)

  -- after another statement, decoding goes on behind it
  decode_more : ends s ≡ false → decode_block (suc most) (code s ++ r) ≡ s ∷ decode_block most r
  unfolding decode_block
  decode_more e = rw (statement_back s r h, (coded s r).2 ∙ e, (coded s r).1, drop_at (code s) r (quads s * 4) (coded s r).0)

-- decoding a block's bytes gives the block, whatever stands behind it
pub decode_back : {b : List Statement} → Block b → (most : ℕ) → length b ≤ most → (r : List ℕ) → decode_block most (block_bytes b ++ r) ≡ b
unfolding block_bytes each
decode_back (last h e) zero k r = absurd (omega arith)
decode_back (last {s} h e) (suc most) k r = rw append_assoc (decode_last s r most h e)
decode_back (after h b) zero k r = absurd (omega arith)
decode_back (after {s} {b} h t) (suc most) k r =
    let rest = each code b ++ r in
    rw (append_assoc (code s) (each code b) r) (decode_more s rest most h.fits h.onward ∙ ap (λ l. s ∷ l) (decode_back t most (omega arith) r))

-- ## Lengths

-- a block has no more statements than bytes
pub block_fuel : (b : List Statement) → length b ≤ length (block_bytes b)
block_fuel b = omega (arith, quads_length b, go b)
  where
    go : (l : List Statement) → length l ≤ all_quads l
    go [] = omega arith
    go (s ∷ l) = omega (arith, go l)

-- ## A row of blocks

-- where block i starts, counted in statements
abbrev pub start_at : List (List Statement) → ℕ → ℕ
start_at [] i = 0
start_at (b ∷ bs) zero = 0
start_at (b ∷ bs) (suc i) = statements b + start_at bs i

-- number i of the table of starts is where block i starts
pub start_back : (at : ℕ) (bs : List (List Statement)) (r : List ℕ) (i : ℕ) → i < length bs → word (start_bytes at bs ++ r) (i * 2) ≡ at + start_at bs i
unfolding start_bytes
start_back at [] r i h = absurd (omega arith)
start_back at (b ∷ bs) r zero h = word_back at ∙ omega arith
start_back at (b ∷ bs) r (suc i) h =
    let e : suc i * 2 ≡ suc (suc (i * 2)) = omega arith in
    rw e (start_back (at + statements b) bs r i (omega arith) ∙ omega arith)

-- block i stands at its start
pub blocks_stand : (bs : List (List Statement)) (w : List ℕ) (p : ℕ) → Stands w p (each block_bytes bs) → (i : ℕ) → i < length bs
    → Stands w (p + start_at bs i * 4) (block_bytes (get_or bs i []))
unfolding each
blocks_stand [] w p h i k = absurd (omega arith)
blocks_stand (b ∷ bs) w p h zero k =
    let e : p ≡ p + 0 * 4 = omega arith in
    stands_at e (stands_first w p (block_bytes b) (each block_bytes bs) h)
blocks_stand (b ∷ bs) w p h (suc i) k =
    let e : p + length (block_bytes b) + start_at bs i * 4 ≡ p + (statements b + start_at bs i) * 4 = omega (arith, four b) in
    stands_at e (blocks_stand bs w (p + length (block_bytes b)) (stands_second w p (block_bytes b) (each block_bytes bs) h) i (omega arith))

-- a block that stands somewhere is decoded there
pub block_stands : {w : List ℕ} {p : ℕ} {b : List Statement} → Block b → Stands w p (block_bytes b) → decode_block (length w) (drop p w) ≡ b
block_stands {w} {p} {b} k h = stands_says (decode_block (length w)) (λ r. decode_back k (length w) (omega (arith, block_fuel b, h.fits)) r) h

-- ## Inside a block that stands somewhere

module _ (w : List ℕ) (p : ℕ) where
  -- behind the first statements the others stand
  pub rest_stands : (a b : List Statement) → Stands w p (block_bytes (a ++ b)) → Stands w (p + all_quads a * 4) (block_bytes b)
  rest_stands a b h =
      let e : p + length (block_bytes a) ≡ p + all_quads a * 4 = omega (arith, quads_length a) in
      stands_at e (stands_second w p (block_bytes a) (block_bytes b) (subst (Stands w p) (bytes-join a b) h))

  -- the first statement is decoded there
  pub statement_stands : (s : Statement) (b : List Statement) → Fitting s → Stands w p (block_bytes (s ∷ b)) → statement_at (drop p w) ≡ some s
  unfolding block_bytes each
  statement_stands s b h k = stands_says statement_at (λ r. statement_back s r h) (stands_first w p (code s) (each code b) k)
