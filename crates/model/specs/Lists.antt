-- Words on lists and answers. Nothing of document 01 is here.
use Rattle.std.specs.Prelude.{◌≡◌, Bool, true, false, cond, ◌&&◌, ◌||◌, List, [], ◌∷◌, ◌++◌, ℕ, zero, suc, ◌/◌, ◌%◌, ◌<◌}
use Rattle.std.proofs.Math.Option.{Option, none, some}

module _ {A : Type 0} where
  abbrev pub all : (A → Bool) → List A → Bool
  all p [] = true
  all p (x ∷ xs) = p x && all p xs

  abbrev pub any : (A → Bool) → List A → Bool
  any p [] = false
  any p (x ∷ xs) = p x || any p xs

  -- those of which p holds, in order
  abbrev pub only : (A → Bool) → List A → List A
  only p [] = []
  only p (x ∷ xs) = cond (p x) (x ∷ only p xs) (only p xs)

  -- the first of which p holds
  abbrev pub first : (A → Bool) → List A → Option A
  first p [] = none
  first p (x ∷ xs) = cond (p x) (some x) (first p xs)

  -- the number of the first of which p holds; their count where there is none
  abbrev pub place_of : (A → Bool) → List A → ℕ
  place_of p [] = 0
  place_of p (x ∷ xs) = cond (p x) 0 (suc (place_of p xs))

  abbrev pub snoc : List A → A → List A
  snoc xs x = xs ++ (x ∷ [])

  abbrev pub is_none : Option A → Bool
  is_none none = true
  is_none (some a) = false

  abbrev pub or_else : Option A → A → A
  or_else none d = d
  or_else (some a) d = a

  -- x is one of them
  pub data ◌∈◌ (x : A) : List A → Type 0 where
    here : {y : A} {xs : List A} → x ≡ y → x ∈ (y ∷ xs)
    there : {y : A} {xs : List A} → x ∈ xs → x ∈ (y ∷ xs)

  infix 4 ◌∈◌
  -- P holds of each
  pub data All (P : A → Type 0) : List A → Type 0 where
    empty : All P []
    more : {x : A} {xs : List A} → P x → All P xs → All P (x ∷ xs)

  -- the bytes of each, one after the other
  unfoldable pub each : (A → List ℕ) → List A → List ℕ
  each f [] = []
  each f (x ∷ xs) = f x ++ each f xs

-- the numbers from i on, so many; and those below n
abbrev pub from : ℕ → ℕ → List ℕ
from i zero = []
from i (suc n) = i ∷ from (suc i) n

abbrev pub below : ℕ → List ℕ
below n = from 0 n

-- a list of bytes
abbrev pub Bytes : List ℕ → Type 0
Bytes bs = All (λ b. b < 256) bs

-- "big-endian", two bytes
abbrev pub be16 : ℕ → List ℕ
be16 n = n / 256 ∷ n % 256 ∷ []

-- accepted with a value, or refused with the number of the question and the component concerned
pub data Answer (A : Type 0) : Type 0 where
  accepted : A → Answer A
  refused : ℕ → ℕ → Answer A

abbrev pub ◌after◌ : {A B : Type 0} → Answer A → (A → Answer B) → Answer B
◌after◌ (accepted a) f = f a
◌after◌ (refused n c) f = refused n c

infixl 5 ◌after◌
