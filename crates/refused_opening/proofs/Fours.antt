-- Four numbers of which the first k are there. Assumes nothing.
use mathlib.Core.Path.{◌≡◌, refl}
use mathlib.Core.Bool.{cond}
use mathlib.Core.List.{List, [], ◌∷◌}
use Prim.Native.Nat.{ℕ, zero, suc}
use native.Mathlib.Omega.{arith}
use borrow.Author.Tests.{lt-ltb}
use lib.Dec.{ltb}
use lib.ListN.{length, take, get_or}
use Rattle.model.specs.Run.{four}

pub first_four : {A : Type 0} (z d e f g : A) (k : ℕ) (xs : List A) → length xs ≡ 4
    → four z (take k xs) ≡ cond (ltb 0 k) (get_or xs 0 d) z ∷ cond (ltb 1 k) (get_or xs 1 e) z ∷ cond (ltb 2 k) (get_or xs 2 f) z ∷ cond (ltb 3 k) (get_or xs 3 g) z ∷ []
first_four z _ _ _ _ k (a ∷ b ∷ c ∷ e ∷ []) l = go k
  where
    go : (k : ℕ) → four z (take k (a ∷ b ∷ c ∷ e ∷ [])) ≡ cond (ltb 0 k) a z ∷ cond (ltb 1 k) b z ∷ cond (ltb 2 k) c z ∷ cond (ltb 3 k) e z ∷ []
    go zero = refl
    go (suc zero) = refl
    go (suc (suc zero)) = refl
    go (suc (suc (suc zero))) = refl
    go (suc (suc (suc (suc k)))) =
        let m = suc (suc (suc (suc k))) in
        rw (lt-ltb 0 m (omega arith), lt-ltb 1 m (omega arith), lt-ltb 2 m (omega arith), lt-ltb 3 m (omega arith))
first_four z _ _ _ _ k [] l = absurd (omega arith)
first_four z _ _ _ _ k (a ∷ []) l = absurd (omega arith)
first_four z _ _ _ _ k (a ∷ b ∷ []) l = absurd (omega arith)
first_four z _ _ _ _ k (a ∷ b ∷ c ∷ []) l = absurd (omega arith)
first_four z _ _ _ _ k (a ∷ b ∷ c ∷ e ∷ g ∷ xs) l = absurd (omega arith)
