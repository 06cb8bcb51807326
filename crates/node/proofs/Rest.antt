-- What a program counter stands for: the statement at its place, then what stands behind that one. Assumes nothing.
use mathlib.Core.Path.{◌≡◌, refl, sym, ◌∙◌}
use mathlib.Core.Bool.{Bool, true, false, cond}
use mathlib.Core.List.{List, []}
use mathlib.Core.Option.{none}
use Prim.Native.Nat.{ℕ, zero, suc, ◌+◌, ◌-◌, ◌*◌, ◌≤◌, ◌<◌}
use native.Mathlib.Omega.{arith}
use borrow.Author.Tests.{leb-true, leb-false, lt-leb}
use lib.Dec.{leb, eqb}
use lib.ListN.{length, drop, length-drop, drop_of_length-le}
use lib.Seq.{drop-drop}
use Rattle.model.specs.Reader.{byte}
use Rattle.model.specs.Machine.{statement_at, statement_length, ends_block, followed, decode_block, block_place, block_at}
use Rattle.node.specs.Views.{rest_at}

-- ## How many statements are decoded at most does not matter where there are bytes enough for them

-- a statement has four bytes or more
pub four : (bs : List ℕ) → 4 ≤ statement_length bs
four bs = go (eqb (byte bs 0) 5)
  where
    go : (t : Bool) → 4 ≤ cond t (4 + byte bs 1 * 4) 4
    go true = omega arith
    go false = omega arith

-- fewer bytes are no statement
pub short : (bs : List ℕ) → length bs < 4 → statement_at bs ≡ none
unfolding statement_at
short bs h = rw (lt-leb 4 (length bs) h)

-- and no block
cut : (m : ℕ) (bs : List ℕ) → length bs < 4 → decode_block m bs ≡ []
unfolding decode_block
cut zero bs h = refl
cut (suc m) bs h = rw (short bs h)

pub fuel : (m n : ℕ) (bs : List ℕ) → length bs ≤ m → length bs ≤ n → decode_block m bs ≡ decode_block n bs
unfolding decode_block
fuel zero n bs h k = sym (cut n bs (omega arith))
fuel (suc m) zero bs h k = cut (suc m) bs (omega arith)
fuel (suc m) (suc n) bs h k = go (leb 4 (length bs)) refl (λ a b. fuel m n (drop (statement_length bs) bs) a b)
  where
    after : List ℕ
    after = drop (statement_length bs) bs

    go : (t : Bool) → leb 4 (length bs) ≡ t → (length after ≤ m → length after ≤ n → decode_block m after ≡ decode_block n after)
        → decode_block (suc m) bs ≡ decode_block (suc n) bs
    go false e on = let l : length bs < 4 = leb-false 4 (length bs) e in cut (suc m) bs l ∙ sym (cut (suc n) bs l)
    go true e on =
        let l : 4 ≤ length bs = leb-true 4 (length bs) e in
        let left : length after ≡ length bs - statement_length bs = simp length-drop in
        let f = four bs in
        rw (on (omega arith) (omega arith))

-- ## The rest of a block from a place on

-- one statement decoded
opened : (m : ℕ) (bs : List ℕ) → length bs ≤ m → decode_block m bs ≡ followed (statement_at bs) (cond (ends_block bs) [] (decode_block m (drop (statement_length bs) bs)))
unfolding decode_block
opened m bs h = fuel m (suc m) bs h (omega arith)

-- the statement there, and behind it the rest from its end on
pub rest_is : (p : List ℕ) (at : ℕ) → rest_at p at ≡ followed (statement_at (drop at p)) (cond (ends_block (drop at p)) [] (rest_at p (at + statement_length (drop at p))))
unfolding rest_at
rest_is p at = rw (← drop-drop (statement_length (drop at p)) at p) (opened (length p) (drop at p) (simp length-drop (omega arith)))

-- nothing from the end on
pub rest_past : (p : List ℕ) (at : ℕ) → length p ≤ at → rest_at p at ≡ []
unfolding rest_at
rest_past p at h = rw (drop_of_length-le p h) (cut (length p) [] (omega arith))

-- the rest from a block's place on is the block
pub rest_block : (p : List ℕ) (i : ℕ) → rest_at p (block_place p i) ≡ block_at p i
unfolding rest_at block_at
rest_block p i = refl
