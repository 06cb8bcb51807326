-- Lists by the numbers below their length, and the first number of which a test holds. Assumes nothing.
use mathlib.Core.Path.{◌≡◌, refl, sym, ap, ◌∙◌}
use mathlib.Core.Bool.{Bool, true, false, cond}
use mathlib.Core.List.{List, [], ◌∷◌, map}
use Prim.Native.Nat.{ℕ, zero, suc, ◌+◌, ◌≤◌, ◌<◌}
use native.Mathlib.Omega.{arith}
use borrow.Author.Tests.{eqb-true, eqb-false}
use lib.Dec.{eqb}
use lib.ListN.{length, get_or, set, length-map, length-set}
use lib.Seq.{ext_get_or, get_or-set_same, get_or-set_other}
use Rattle.std.specs.Prelude.{None, Some}
use Rattle.model.specs.Lists.{only, from, below}
use Rattle.model.proofs.Basics.Bools.{clash}
use Rattle.model.proofs.Basics.Sums.{length_from}
use Rattle.machine.specs.Chosen.{IsFirst}

module _ {A : Type 0} where
  -- as many as the numbers
  pub length_below : (f : ℕ → A) (n : ℕ) → length (map f (below n)) ≡ n
  length_below f n = length-map (below n) f ∙ length_from 0 n

  at_from : (f : ℕ → A) (d : A) (i n c : ℕ) → c < n → get_or (map f (from i n)) c d ≡ f (i + c)
  at_from f d i zero c h = absurd (omega arith)
  at_from f d i (suc n) zero h = let e : i ≡ i + 0 = omega arith in ap f e
  at_from f d i (suc n) (suc c) h = let e : suc i + c ≡ i + suc c = omega arith in at_from f d (suc i) n c (omega arith) ∙ ap f e

  -- what stands at a number
  pub at_below : (f : ℕ → A) (d : A) (n c : ℕ) → c < n → get_or (map f (below n)) c d ≡ f c
  at_below f d n c h = at_from f d 0 n c h ∙ (let e : 0 + c ≡ c = omega arith in ap f e)

  -- two functions that agree below n
  pub same_below : (f g : ℕ → A) (n : ℕ) → ((i : ℕ) → i < n → f i ≡ g i) → map f (below n) ≡ map g (below n)
  same_below f g zero h = refl
  same_below f g (suc n) h =
      ext_get_or (f 0) (map f (below (suc n))) (map g (below (suc n))) (length_below f (suc n) ∙ sym (length_below g (suc n)))
      (λ i k. let l : i < suc n = omega (arith, length_below f (suc n)) in at_below f (f 0) (suc n) i l ∙ (h i l ∙ sym (at_below g (f 0) (suc n) i l)))

  -- one of them changed
  pub set_below : (f g : ℕ → A) (n c : ℕ) → ((i : ℕ) → i < n → (i ≡ c → ⊥) → g i ≡ f i) → set (map f (below n)) c (g c) ≡ map g (below n)
  set_below f g n c h =
      ext_get_or (g c) (set (map f (below n)) c (g c)) (map g (below n)) (length-set (map f (below n)) c (g c) ∙ (length_below f n ∙ sym (length_below g n)))
      (λ i k. let l : i < n = omega (arith, length-set (map f (below n)) c (g c), length_below f n) in go i l (eqb i c) refl ∙ sym (at_below g (g c) n i l))
    where
      go : (i : ℕ) → i < n → (t : Bool) → eqb i c ≡ t → get_or (set (map f (below n)) c (g c)) i (g c) ≡ g i
      go i l true e =
          let q = eqb-true i c e in
          rw q (get_or-set_same (map f (below n)) c (g c) (g c) (omega (arith, length_below f n)))
      go i l false e =
          let q = eqb-false i c e in
          get_or-set_other (map f (below n)) c i (g c) (g c) q ∙ (at_below f (g c) n i l ∙ sym (h i l q))

-- ## The first of which a test holds

module _ (p : ℕ → Bool) where
  none_from : (a n : ℕ) → ((j : ℕ) → j < a + n → p j ≡ false) → only p (from a n) ≡ []
  none_from a zero h = refl
  none_from a (suc n) h = rw (h a (omega arith)) (none_from (suc a) n (λ j k. h j (omega arith)))

  -- none
  pub none_first : (n : ℕ) → ((j : ℕ) → j < n → p j ≡ false) → IsFirst (only p (below n)) None
  none_first n h = rw (none_from 0 n (λ j k. h j (omega arith))) refl

  first-from : (a n i : ℕ) → ((j : ℕ) → j < i → p j ≡ false) → a ≤ i → i < a + n → p i ≡ true → IsFirst (only p (from a n)) (Some i)
  first-from a zero i h k l t = absurd (omega arith)
  first-from a (suc n) i h k l t = go (first-from (suc a) n i h) (p a) refl
    where
      go : (suc a ≤ i → i < suc a + n → p i ≡ true → IsFirst (only p (from (suc a) n)) (Some i)) → (x : Bool) → p a ≡ x
          → IsFirst (cond x (a ∷ only p (from (suc a) n)) (only p (from (suc a) n))) (Some i)
      go ih true e =
          let no : a < i → ⊥ = (λ m. clash (sym (h a m) ∙ e)) in
          let e : i ≡ a = omega (arith, no) in
          ap (λ (x : ℕ). Some x) e
      go ih false e =
          let no : i ≡ a → ⊥ = (λ m. clash (sym e ∙ (ap p (sym m) ∙ t))) in
          ih (omega (arith, no)) (omega arith) t

  -- that one
  pub one_first : (n i : ℕ) → ((j : ℕ) → j < i → p j ≡ false) → i < n → p i ≡ true → IsFirst (only p (below n)) (Some i)
  one_first n i h l t = first-from 0 n i h (omega arith) (omega arith) t

-- ## What the first one says of them all

-- no first one: there is none
pub first_none : (xs : List ℕ) → IsFirst xs None → xs ≡ []
first_none [] e = refl
first_none (x ∷ xs) e = absurd (cc)

-- the first of them
pub first_some : (xs : List ℕ) (i : ℕ) → IsFirst xs (Some i) → (is : List ℕ) × (xs ≡ i ∷ is)
first_some [] i e = absurd (cc)
first_some (x ∷ xs) i e = (xs, cc)
