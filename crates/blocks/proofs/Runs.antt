-- Runs of bytes put one after the other, and a loop that puts them. Assumes nothing.
use mathlib.Core.Path.{◌≡◌, refl, sym, ap, subst, ◌∙◌}
use mathlib.Core.List.{List, [], ◌∷◌, ◌++◌}
use Prim.Native.Nat.{ℕ, suc, ◌+◌}
use native.Mathlib.Nat.{add-zero, add-suc, suc-add}
use native.Mathlib.Omega.{arith}
use lib.ListN.{length, set, length-append}
use lib.Seq.{sets, length-sets}
use Rattle.blocks.specs.Put.{Room, Put}

-- a run of stores after a run of stores
pub sets_append : (xs ys l : List ℕ) (i : ℕ) → sets l i (xs ++ ys) ≡ sets (sets l i xs) (i + length xs) ys
sets_append [] ys l i = rw add-zero
sets_append (x ∷ xs) ys l i = rw (add-suc, ← suc-add) (sets_append xs ys (set l i x) (suc i))

-- nothing is put
pub put_none : (o : List ℕ) (at : ℕ) → Put o at [] at o
put_none o at = record { next = omega arith; same = refl }

-- the same bytes
pub put_is : {o p x y : List ℕ} {at n : ℕ} → x ≡ y → Put o at x n p → Put o at y n p
put_is {o} {p} {at = at} {n = n} e h = subst (λ (l : List ℕ). Put o at l n p) e h

module _ {o p x : List ℕ} {at m : ℕ} (h : Put o at x m p) where
  -- a run after a run
  pub put_join : {q y : List ℕ} {n : ℕ} → Put p m y n q → Put o at (x ++ y) n q
  put_join {q} {y} {n} k =
      record {
        next = omega (arith, h.next, k.next, length-append x y);
        same = k.same ∙ rw (h.next, h.same) (sym (sets_append x y o at));
      }

  pub put_long : length p ≡ length o
  put_long = ap length h.same ∙ length-sets o at x

  -- the second run has room
  pub room_next : (y : List ℕ) → Room o at (x ++ y) → Room p m y
  room_next y r = omega (arith, put_long, h.next, length-append x y)

-- the same bytes have room
pub room_is : (o : List ℕ) (at : ℕ) {x y : List ℕ} → x ≡ y → Room o at x → Room o at y
room_is o at e r = subst (λ (l : List ℕ). Room o at l) e r

-- the first run has room
pub room_first : (o : List ℕ) (at : ℕ) (x y : List ℕ) → Room o at (x ++ y) → Room o at x
room_first o at x y r = omega (arith, length-append x y)

-- ## A loop

-- what is left to put, from this place on, makes the whole
pub record Writing (o₀ : List ℕ) (at₀ : ℕ) (all o : List ℕ) (at : ℕ) (rest : List ℕ) : Type 0 where
  pub same : sets o at rest ≡ sets o₀ at₀ all
  pub ends : at + length rest ≡ at₀ + length all

pub begin : (o : List ℕ) (at : ℕ) (all : List ℕ) → Writing o at all o at all
begin o at all = record { same = refl; ends = refl }

module _ {o₀ all o : List ℕ} {at₀ at : ℕ} where
  -- what is left, seen otherwise
  pub left_is : {x y : List ℕ} → x ≡ y → Writing o₀ at₀ all o at x → Writing o₀ at₀ all o at y
  left_is e h = subst (λ (l : List ℕ). Writing o₀ at₀ all o at l) e h

  -- a turn: the first of what is left is put
  pub put_on : {x p : List ℕ} {n : ℕ} (y : List ℕ) → Writing o₀ at₀ all o at (x ++ y) → Put o at x n p → Writing o₀ at₀ all p n y
  put_on {x} y h k =
      record {
        same = rw (k.next, k.same) (sym (sets_append x y o at) ∙ h.same);
        ends = omega (arith, h.ends, k.next, length-append x y);
      }

  -- what is left has room
  pub room_left : {rest : List ℕ} → Writing o₀ at₀ all o at rest → Room o₀ at₀ all → Room o at rest
  room_left {rest} h r = omega (arith, h.ends, ap length h.same, length-sets o at rest, length-sets o₀ at₀ all)

  -- nothing is left
  pub put_all : Writing o₀ at₀ all o at [] → Put o₀ at₀ all at o
  put_all h = record { next = omega (arith, h.ends); same = h.same }

  -- the buffer is as long as it was
  pub writing_long : {rest : List ℕ} → Writing o₀ at₀ all o at rest → length o ≡ length o₀
  writing_long {rest} h = sym (length-sets o at rest) ∙ ap length h.same ∙ length-sets o₀ at₀ all

  -- and still so after one run more
  pub same_end : {rest x p : List ℕ} {n : ℕ} → Writing o₀ at₀ all o at rest → Put o at x n p → length p ≡ length o₀
  same_end h k = put_long k ∙ writing_long h
