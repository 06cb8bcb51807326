-- From the op at a place to the statement there, to the rest of its block, and to what a node stands at there. Assumes nothing.
use mathlib.Core.Path.{◌≡◌, refl, sym, ap, ◌∙◌}
use mathlib.Core.Bool.{Bool, true, false, cond}
use mathlib.Core.List.{List, [], ◌∷◌}
use mathlib.Core.Option.{Option, none, some}
use Prim.Native.Nat.{ℕ, ◌+◌, ◌≤◌, ◌<◌}
use native.Mathlib.Omega.{arith}
use borrow.Author.Tests.{leb-true, ltb-true, ltb-false, eqb-true, eqb-false, le-leb, lt-leb, lt-ltb, le-ltb, ne_eqb}
use lib.Dec.{leb, ltb, eqb}
use lib.ListN.{length, drop, get_or, length-drop, get_or-eq_default}
use Rattle.model.specs.Reader.{byte}
use Rattle.model.specs.Program.{Statement}
use Rattle.model.specs.Machine.{decodings, statement_at, statement_length, ends_block, followed}
use Rattle.model.specs.Run.{Stand, nowhere, stand, stand_at}
use Rattle.parts.proofs.Skim.{first_of}
use Rattle.node.specs.Views.{rest_at, op_in}
use Rattle.node.proofs.Rest.{rest_is}

-- ## The op

-- the op is k: four bytes or more, the first one k
pub record Opens (bs : List ℕ) (k : ℕ) : Type 0 where
  pub fits : 4 ≤ length bs
  pub first : byte bs 0 ≡ k
  pub low : k < 19
  pub pairless : k ≡ 6 → ⊥

-- an op is there exactly if it is not 255
pub data Op (bs : List ℕ) : Type 0 where
  absent : op_in bs ≡ 255 → statement_at bs ≡ none → Op bs
  present : Opens bs (byte bs 0) → op_in bs ≡ byte bs 0 → Op bs

-- one of the two, always
pub op_is : (bs : List ℕ) → Op bs
unfolding statement_at
op_is bs = go (leb 4 (length bs)) refl (ltb (byte bs 0) 19) refl (eqb (byte bs 0) 6) refl
  where
    go : (t : Bool) → leb 4 (length bs) ≡ t → (u : Bool) → ltb (byte bs 0) 19 ≡ u → (v : Bool) → eqb (byte bs 0) 6 ≡ v → Op bs
    go false e u f v g = absent (rw e) (rw e)
    go true e false f v g = absent (rw (e, f)) (rw e (get_or-eq_default (decodings bs) none (ltb-false (byte bs 0) 19 f)))
    go true e true f true g = absent (rw (e, f, g)) (rw (e, eqb-true (byte bs 0) 6 g))
    go true e true f false g =
        present (record { fits = leb-true 4 (length bs) e; first = refl; low = ltb-true (byte bs 0) 19 f; pairless = eqb-false (byte bs 0) 6 g }) (rw (e, f, g))

-- the op that is known, in bytes
pub opens : (bs : List ℕ) (k : ℕ) → op_in bs ≡ k → (k ≡ 255 → ⊥) → Opens bs k
opens bs k e n = go (op_is bs)
  where
    go : Op bs → Opens bs k
    go (absent a s) = absurd (n (sym e ∙ a))
    go (present o f) = rw (sym f ∙ e) at o

-- and back
pub op-of : (bs : List ℕ) (k : ℕ) → Opens bs k → op_in bs ≡ k
op-of bs k o =
    rw (le-leb 4 (length bs) o.fits, o.first, lt-ltb k 19 o.low, ne_eqb k 6 o.pairless)

either_way : (t : Bool) (n : ℕ) → cond t n n ≡ n
either_way true n = refl
either_way false n = refl

-- the op at a place, by what stands there
module _ (p : List ℕ) (at : ℕ) where
  pub op_short : length p < at + 4 → op_in (drop at p) ≡ 255
  op_short h = rw (lt-leb 4 (length (drop at p)) (simp length-drop (omega arith)))

  pub op_pair : get_or p at 0 ≡ 6 → op_in (drop at p) ≡ 255
  op_pair e = rw (first_of p at, e) (either_way (leb 4 (length (drop at p))) 255)

  pub op_high : 19 ≤ get_or p at 0 → op_in (drop at p) ≡ 255
  op_high h = rw (first_of p at, le-ltb (get_or p at 0) 19 h) (either_way (leb 4 (length (drop at p))) 255)

  pub op_here : at + 4 ≤ length p → (get_or p at 0 ≡ 6 → ⊥) → get_or p at 0 < 19 → op_in (drop at p) ≡ get_or p at 0
  op_here h n l =
      op-of (drop at p) (get_or p at 0) (record { fits = simp length-drop (omega arith); first = first_of p at; low = l; pairless = n })

-- ## The statement

-- the op that is known says which
pub op_says : (bs : List ℕ) (k : ℕ) → Opens bs k → statement_at bs ≡ get_or (decodings bs) k none
unfolding statement_at
op_says bs k o = rw (le-leb 4 (length bs) o.fits, o.first)

-- The statement is the one that the list has for the op, none for 255. With `op_in bs ≡ 4` it computes: `statement_op bs 4 e : statement_at bs ≡ some (send (byte bs 1))`.
pub statement_is : (bs : List ℕ) → statement_at bs ≡ get_or (decodings bs) (op_in bs) none
statement_is bs = go (op_is bs)
  where
    go : Op bs → statement_at bs ≡ get_or (decodings bs) (op_in bs) none
    go (absent a s) = rw a s
    go (present o f) = rw f (op_says bs (byte bs 0) o)

pub statement_op : (bs : List ℕ) (k : ℕ) → op_in bs ≡ k → statement_at bs ≡ get_or (decodings bs) k none
statement_op bs k e = statement_is bs ∙ ap (λ (n : ℕ). get_or (decodings bs) n none) e

-- ## What stands behind it

-- an op that is neither take nor choose does not end its block
pub onward : (bs : List ℕ) (k : ℕ) → Opens bs k → (k ≡ 16 → ⊥) → (k ≡ 17 → ⊥) → ends_block bs ≡ false
onward bs k o a c =
    let n : byte bs 0 ≡ k = o.first in
    rw (ne_eqb (byte bs 0) 16 (λ e. a (sym n ∙ e)), ne_eqb (byte bs 0) 17 (λ e. c (sym n ∙ e)))

module _ (p : List ℕ) (at : ℕ) where
  -- no statement, no rest
  pub rest_none : statement_at (drop at p) ≡ none → rest_at p at ≡ []
  rest_none e = rest_is p at ∙ rw e

  -- a statement, and what stands behind it if it does not end its block
  pub rest_some : {s : Statement} → statement_at (drop at p) ≡ some s
      → rest_at p at ≡ s ∷ cond (ends_block (drop at p)) [] (rest_at p (at + statement_length (drop at p)))
  rest_some e = rest_is p at ∙ rw e

  pub rest_on : (k : ℕ) {s : Statement} → op_in (drop at p) ≡ k → k < 19 → (k ≡ 16 → ⊥) → (k ≡ 17 → ⊥) → statement_at (drop at p) ≡ some s
      → rest_at p at ≡ s ∷ rest_at p (at + statement_length (drop at p))
  rest_on k {s} o h a c e = rest_some e ∙ rw (onward (drop at p) k (opens (drop at p) k o (λ q. omega arith)) a c)

-- ## What a node stands at

abbrev pub stood : Option Statement → Stand
stood none = nowhere
stood (some s) = stand s

-- the first statement says what a node stands at
stand_first : (m : Option Statement) (ss : List Statement) → stand_at (followed m ss) ≡ stood m
stand_first none ss = refl
stand_first (some s) ss = refl

pub stand_said : (p : List ℕ) (at : ℕ) → stand_at (rest_at p at) ≡ stood (statement_at (drop at p))
stand_said p at = ap stand_at (rest_is p at) ∙ stand_first (statement_at (drop at p)) (cond (ends_block (drop at p)) [] (rest_at p (at + statement_length (drop at p))))

-- By the op; with an op that is known it computes: `stand_op p at 4 e : stand_at (rest_at p at) ≡ sending (byte (drop at p) 1)`, and `nowhere` for 255.
pub stand_op : (p : List ℕ) (at k : ℕ) → op_in (drop at p) ≡ k → stand_at (rest_at p at) ≡ stood (get_or (decodings (drop at p)) k none)
stand_op p at k e = stand_said p at ∙ ap stood (statement_op (drop at p) k e)

-- the op of any place
pub stand_any : (p : List ℕ) (at : ℕ) → stand_at (rest_at p at) ≡ stood (get_or (decodings (drop at p)) (op_in (drop at p)) none)
stand_any p at = stand_op p at (op_in (drop at p)) refl
