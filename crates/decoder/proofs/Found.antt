-- What a part of an edge says, read from its place on. Assumes nothing.
use mathlib.Core.Path.{◌≡◌, ap, ◌∙◌}
use mathlib.Core.List.{List}
use Prim.Native.Nat.{ℕ, ◌-◌}
use lib.ListN.{length, take, drop}
use Rattle.parts.proofs.Skim.{tail}

-- what is found in a part of the bytes is found from its place on
pub found : {A : Type 0} (f : List ℕ → A) (h : List ℕ) (at k : ℕ) {x : A} → at ≡ k → x ≡ f (take (length h - at) (drop at h)) → x ≡ f (drop k h)
found f h at k e p = p ∙ ap f (tail h at ∙ ap (λ (n : ℕ). drop n h) e)
