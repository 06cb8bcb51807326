-- Sums over lists, and lists of numbers one after the other. Assumes nothing.
use mathlib.Core.Path.{◌≡◌, refl, ap, ◌∙◌}
use mathlib.Core.List.{List, [], ◌∷◌, ◌++◌, map, append_assoc}
use Prim.Native.Nat.{ℕ, zero, suc, ◌+◌, ◌*◌, ◌≤◌, ◌<◌}
use native.Mathlib.Omega.{arith}
use lib.ListN.{length, get_or, length-append}
use Rattle.model.specs.Lists.{All, empty, more, each, from, below}

-- ## Sums over lists

module _ {A : Type 0} where
  -- the sum of f over a list
  unfoldable pub total : (A → ℕ) → List A → ℕ
  total f [] = 0
  total f (x ∷ xs) = f x + total f xs

  -- the bytes of two lists, one after the other
  pub each_join : (f : A → List ℕ) (xs ys : List A) → each f (xs ++ ys) ≡ each f xs ++ each f ys
  unfolding each
  each_join f [] ys = refl
  each_join f (x ∷ xs) ys = rw (append_assoc, ← each_join f xs ys)

  pub each_total : (f : A → List ℕ) (xs : List A) → length (each f xs) ≡ total (λ x. length (f x)) xs
  unfolding each total
  each_total f [] = refl
  each_total f (x ∷ xs) = length-append (f x) (each f xs) ∙ ap (λ (n : ℕ). length (f x) + n) (each_total f xs)

  pub total_sum : (f g : A → ℕ) (xs : List A) → total (λ x. f x + g x) xs ≡ total f xs + total g xs
  unfolding total
  total_sum f g [] = refl
  total_sum f g (x ∷ xs) = omega (arith, total_sum f g xs)

  pub total_same : (f g : A → ℕ) → ((x : A) → f x ≡ g x) → (xs : List A) → total f xs ≡ total g xs
  unfolding total
  total_same f g e [] = refl
  total_same f g e (x ∷ xs) = omega (arith, e x, total_same f g e xs)

  pub total_most : {P : A → Type 0} (f g : A → ℕ) → ((x : A) → P x → f x ≤ g x) → {xs : List A} → All P xs → total f xs ≤ total g xs
  unfolding total
  total_most f g h empty = omega arith
  total_most f g h (more {x = x} p a) = omega (arith, h x p, total_most f g h a)

  pub total_const : (n : ℕ) (xs : List A) → total (λ x. n) xs ≡ length xs * n
  unfolding total
  total_const n [] = omega arith
  total_const n (x ∷ xs) = omega (arith, total_const n xs)

  -- one of them is at most the sum
  pub total_one : (f : A → ℕ) (xs : List A) (d : A) (i : ℕ) → i < length xs → f (get_or xs i d) ≤ total f xs
  unfolding total
  total_one f [] d i h = absurd (omega arith)
  total_one f (x ∷ xs) d zero h = omega arith
  total_one f (x ∷ xs) d (suc i) h = omega (arith, total_one f xs d i (omega arith))

-- the sum over the images
pub total_map : {A B : Type 0} (f : B → ℕ) (g : A → B) (xs : List A) → total f (map g xs) ≡ total (λ x. f (g x)) xs
unfolding total
total_map f g [] = refl
total_map f g (x ∷ xs) = ap (λ (n : ℕ). f (g x) + n) (total_map f g xs)

-- two sums, one in the other, exchanged
pub total_exchange : {A B : Type 0} (f : A → B → ℕ) (xs : List A) (ys : List B) → total (λ x. total (f x) ys) xs ≡ total (λ y. total (λ x. f x y) xs) ys
unfolding total
total_exchange f xs [] = total_const 0 xs ∙ omega arith
total_exchange f xs (y ∷ ys) =
    total_sum (λ x. f x y) (λ x. total (f x) ys) xs ∙ ap (λ (n : ℕ). total (λ x. f x y) xs + n) (total_exchange f xs ys)

-- ## Numbered lists

pub length_from : (i n : ℕ) → length (from i n) ≡ n
length_from i zero = refl
length_from i (suc n) = ap suc (length_from (suc i) n)

map_from : {B : Type 0} (f : ℕ → B) (i n : ℕ) → map f (from (suc i) n) ≡ map (λ k. f (suc k)) (from i n)
map_from f i zero = refl
map_from {B} f i (suc n) = ap (λ (l : List B). f (suc i) ∷ l) (map_from f (suc i) n)

-- what is made of the numbers from k on, by number
pub at_from : {A : Type 0} (f : ℕ → A) (d : A) (k n i : ℕ) → i < n → get_or (map f (from k n)) i d ≡ f (k + i)
at_from f d k zero i h = absurd (omega arith)
at_from f d k (suc n) zero h = let e : k ≡ k + 0 = omega arith in ap f e
at_from f d k (suc n) (suc i) h = let e : suc k + i ≡ k + suc i = omega arith in at_from f d (suc k) n i (omega arith) ∙ ap f e

-- what is made of each by its number is made of each
pub by_number : {A B : Type 0} (g : A → B) (d : A) (xs : List A) → map (λ i. g (get_or xs i d)) (below (length xs)) ≡ map g xs
by_number g d [] = refl
by_number {A} {B} g d (x ∷ xs) = ap (λ (l : List B). g x ∷ l) (map_from (λ i. g (get_or (x ∷ xs) i d)) 0 (length xs) ∙ by_number g d xs)
