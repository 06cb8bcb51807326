-- The nodes looked at one after the other: whether any is due, and which is the first late one. Assumes nothing.
use mathlib.Core.Path.{◌≡◌, sym}
use mathlib.Core.Bool.{Bool, true, false}
use mathlib.Core.List.{List, ◌∷◌}
use mathlib.Core.Logic.{by_cases}
use Prim.Native.Nat.{ℕ, suc, ◌+◌, ◌-◌, ◌≤◌, ◌<◌}
use native.Mathlib.Omega.{arith}
use native.Mathlib.Decide.{ℕ_discrete}
use native.Mathlib.Numerals.{add-one}
use Rattle.model.specs.Lists.{any, from, below}
use Rattle.registers.specs.Words.{word_in}

-- at first all are left
pub looked_none : (p : ℕ → Bool) (n : ℕ) → any p (from 0 (n - 0)) ≡ any p (below n)
looked_none p n = let e : n - 0 ≡ n = omega arith in rw e

module _ (p : ℕ → Bool) (c n : ℕ) where
  -- the rest, one more first
  one_more : c < n → from c (n - c) ≡ c ∷ from (c + 1) (n - (c + 1))
  one_more h =
      let e : n - c ≡ suc (n - (c + 1)) = omega arith in
      rw (e, add-one c)

  -- the one looked at is not it: the rest decides
  pub looked_on : (x : Bool) → c < n → p c ≡ false → any p (from c (n - c)) ≡ x → any p (from (c + 1) (n - (c + 1))) ≡ x
  looked_on x h e k = let k' : any p (c ∷ from (c + 1) (n - (c + 1))) ≡ x = rw (one_more h) at k in rw e at k'

  -- it is
  pub looked_found : (x : Bool) → c < n → p c ≡ true → any p (from c (n - c)) ≡ x → x ≡ true
  looked_found x h e k = let k' : any p (c ∷ from (c + 1) (n - (c + 1))) ≡ x = rw (one_more h) at k in sym (rw e at k')

  -- none is left
  pub looked_all : (x : Bool) → n ≤ c → any p (from c (n - c)) ≡ x → x ≡ false
  looked_all x h k = let e : n - c ≡ 0 = omega arith in sym (rw e at k)

-- one more that is not late
pub one_more_timely : (l : List ℕ) (c tick : ℕ) → ((i : ℕ) → i < c → tick ≤ word_in l i 27) → tick ≤ word_in l c 27 → (i : ℕ) → i < c + 1 → tick ≤ word_in l i 27
one_more_timely l c tick f h i k = by_cases (ℕ_discrete i c) (λ e. rw e h) (λ n. f i (omega arith))
