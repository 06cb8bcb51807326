-- The lengths of observations' bytes. Assumes nothing.
use mathlib.Core.Path.{◌≡◌, refl}
use mathlib.Core.List.{List, [], ◌∷◌}
use Prim.Native.Nat.{ℕ, ◌*◌}
use native.Mathlib.Omega.{arith}
use lib.IntN.{ℤ, pos}
use lib.ListN.{length, length-append}
use Rattle.model.specs.Lists.{each, be16}
use Rattle.model.specs.Bytes.{unsigned}
use Rattle.model.specs.Network.{Observation}
use Rattle.model.specs.Run.{be32, four, observation_bytes, observation_width, Written, written_bytes}
use Rattle.model.proofs.Basics.Walk.{each_length}

four_long : {A : Type 0} (z : A) (xs : List A) → length (four z xs) ≡ 4
four_long z [] = refl
four_long z (a ∷ []) = refl
four_long z (a ∷ b ∷ []) = refl
four_long z (a ∷ b ∷ c ∷ []) = refl
four_long z (a ∷ b ∷ c ∷ d ∷ ds) = refl

-- four clocks
pub clocks_long : (xs : List ℕ) → length (each be32 (four 0 xs)) ≡ 16
clocks_long xs = omega (arith, each_length be32 4 (λ x. refl) (four 0 xs), four_long 0 xs)

-- four variables
pub values_long : (zs : List ℤ) → length (each (λ z. be16 (unsigned z)) (four (pos 0) zs)) ≡ 8
values_long zs = omega (arith, each_length (λ (z : ℤ). be16 (unsigned z)) 2 (λ z. refl) (four (pos 0) zs), four_long (pos 0) zs)

-- an observation
pub observation_long : (o : Observation) → length (observation_bytes o) ≡ 32
unfolding observation_bytes
observation_long o =
    let grown = each be32 (four 0 o.clocks) in
    let kept = each (λ (z : ℤ). be16 (unsigned z)) (four (pos 0) o.values) in
    omega (arith, length-append grown kept, clocks_long o.clocks, values_long o.values)

-- an observation as it is written, with its tick
pub written_long : (w : Written) → length (written_bytes w) ≡ observation_width
written_long w = omega (arith, length-append (observation_bytes w.observation) (be32 w.previous), observation_long w.observation)

-- all that is written, one after the other
pub all_long : (ws : List Written) → length (each written_bytes ws) ≡ length ws * observation_width
all_long ws = each_length written_bytes observation_width written_long ws
