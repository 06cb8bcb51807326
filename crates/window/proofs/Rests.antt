-- The parts of one width that are left to a loop that goes over them. Assumes nothing.
use mathlib.Core.Path.{◌≡◌, refl, ap, ◌∙◌}
use mathlib.Core.Bool.{Bool, true, false, not}
use mathlib.Core.List.{List, [], ◌∷◌}
use Prim.Native.Nat.{ℕ, zero, suc, ◌+◌, ◌-◌, ◌≤◌, ◌<◌}
use native.Mathlib.Omega.{arith}
use lib.ListN.{length, take, drop, length-drop}
use lib.Seq.{drop-drop}
use Rattle.model.specs.Lists.{place_of, All, empty, more}
use Rattle.model.specs.Places.{list_at}
use Rattle.parts.proofs.Skim.{tail}

counted : (k : ℕ) → 0 < k → k ≡ suc (k - 1)
counted k e = omega arith

-- how many are left to a loop that has passed so many of n: at first all, then one fewer
pub all_left : (n : ℕ) → n - 0 ≡ n
all_left n = omega arith

pub one_fewer : (n passed : ℕ) → n - (passed + 1) ≡ n - passed - 1
one_fewer n passed = omega arith

module _ {A : Type 0} (value : List ℕ → A) (w : ℕ) where
  -- the part at a place, and those after it
  pub next : (h : List ℕ) (at k : ℕ) → 0 < k → list_at value w k (drop at h) ≡ value (drop at h) ∷ list_at value w (k - 1) (drop (at + w) h)
  unfolding list_at
  next h at k e = ap (λ (i : ℕ). list_at value w i (drop at h)) (counted k e) ∙ rw (drop-drop w at h)

  pub no_more : (h : List ℕ) (k : ℕ) → k ≤ 0 → list_at value w k h ≡ []
  unfolding list_at
  no_more h zero e = refl
  no_more h (suc k) e = absurd (omega arith)

-- what is decoded from a part of a slice stands at its place
pub at_place : {A : Type 0} (value : List ℕ → A) (h : List ℕ) (at : ℕ) {x : A} → x ≡ value (take (length h - at) (drop at h)) → x ≡ value (drop at h)
at_place value h at e = e ∙ ap value (tail h at)

pub all_as : {A : Type 0} {P Q : A → Type 0} {xs : List A} → ((x : A) → P x → Q x) → All P xs → All Q xs
all_as f empty = empty
all_as f (more {x = x} p a) = more (f x p) (all_as f a)

module _ {A : Type 0} {P : A → Type 0} where
  first_of : {x : A} {xs : List A} → All P (x ∷ xs) → P x
  first_of (more p a) = p

  rest_of : {x : A} {xs : List A} → All P (x ∷ xs) → All P xs
  rest_of (more p a) = a

  -- what holds of each holds of the part at the place, and of each after it
  pub all_first : (value : List ℕ → A) (w : ℕ) (h : List ℕ) (at k : ℕ) → 0 < k → All P (list_at value w k (drop at h)) → P (value (drop at h))
  all_first value w h at k e a = first_of (rw (next value w h at k e) at a)

  pub all_rest : (value : List ℕ → A) (w : ℕ) (h : List ℕ) (at k : ℕ) → 0 < k → All P (list_at value w k (drop at h))
      → All P (list_at value w (k - 1) (drop (at + w) h))
  all_rest value w h at k e a = rest_of (rw (next value w h at k e) at a)

-- the first that fails a test, in a loop that stops there; so many came before
module _ {A : Type 0} (p : A → Bool) (value : List ℕ → A) (w : ℕ) (h : List ℕ) (at k before x : ℕ) (i : before + place_of (λ a. not (p a)) (list_at value w k (drop at h)) ≡ x) where
  pub fails_stop : 0 < k → p (value (drop at h)) ≡ false → before ≡ x
  fails_stop e f = let j = rw (next value w h at k e, f) at i in omega arith

  pub fails_turn : 0 < k → p (value (drop at h)) ≡ true → before + 1 + place_of (λ a. not (p a)) (list_at value w (k - 1) (drop (at + w) h)) ≡ x
  fails_turn e f = let j = rw (next value w h at k e, f) at i in omega arith

  pub fails_done : k ≤ 0 → before ≡ x
  fails_done e = let j = rw (no_more value w (drop at h) k e) at i in omega arith

-- a part of a slice is as long as what is left there
pub tail_long : (h : List ℕ) (at n : ℕ) → at + n ≤ length h → n ≤ length (take (length h - at) (drop at h))
tail_long h at n l = rw (tail h at) (simp length-drop (omega arith))
