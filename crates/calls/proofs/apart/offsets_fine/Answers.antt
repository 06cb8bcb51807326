-- `calls::apart::offsets_fine` meets its contract. Assumes nothing.
use mathlib.Core.Path.{◌≡◌, refl, sym, ap, ◌∙◌}
use mathlib.Core.Bool.{Bool, true, false, ◌&&◌}
use mathlib.Core.List.{List, [], ◌∷◌}
use Prim.Native.Nat.{ℕ, zero, suc, ◌≤◌, ◌<◌, min}
use borrow.Author.Rules.{rules}
use native.Mathlib.Omega.{arith}
use lib.Dec.{leb}
use lib.ListN.{take, length, get_or}
use Rattle.std.specs.Prelude.{IsTrue, ◌↔◌, EachIndex, slice_index}
use Rattle.model.proofs.Basics.Bools.{clash, and_is}
use Rattle.model.specs.Calls.{offsets_fine}
use borrow.Author.Tests.{leb-true, le-leb}
use Rattle.calls.proofs.apart.offsets_fine.Goals as goal

-- fine, if each of those that belong to a node is at most the spread
fine_if : (G n : ℕ) (os : List ℕ) → ((k : ℕ) → k < length (take n os) → get_or (take n os) k 0 ≤ G) → offsets_fine G n os ≡ true
unfolding offsets_fine
fine_if G zero os h = refl
fine_if G (suc n) [] h = refl
fine_if G (suc n) (o ∷ os) h = rw (le-leb o G (h 0 (omega arith))) (fine_if G n os (λ k l. h (suc k) (omega arith)))

-- and only then
each_if : (G n : ℕ) (os : List ℕ) → offsets_fine G n os ≡ true → (k : ℕ) → k < length (take n os) → get_or (take n os) k 0 ≤ G
unfolding offsets_fine
each_if G zero os e k l = absurd (omega arith)
each_if G (suc n) [] e k l = absurd (omega arith)
each_if G (suc n) (o ∷ os) e zero l = leb-true o G (((and_is (leb o G) (offsets_fine G n os)).0 e).0)
each_if G (suc n) (o ∷ os) e (suc k) l = each_if G n os (((and_is (leb o G) (offsets_fine G n os)).0 e).1) k (omega arith)

-- those that are handed are enough
fine_handed : (G m n : ℕ) (os : List ℕ) → m ≡ min n (length os) → offsets_fine G m os ≡ offsets_fine G n os
unfolding offsets_fine
fine_handed G zero zero os e = refl
fine_handed G (suc m) zero os e = absurd (omega arith)
fine_handed G zero (suc n) [] e = refl
fine_handed G (suc m) (suc n) [] e = refl
fine_handed G zero (suc n) (o ∷ os) e = absurd (omega arith)
fine_handed G (suc m) (suc n) (o ∷ os) e = ap (λ b. leb o G && b) (fine_handed G m n os (omega arith))

-- two tests that hold of the same
same_test : (b d : Bool) → (IsTrue b → d ≡ true) → (d ≡ true → IsTrue b) → b ≡ d
same_test true d f g = sym (f refl)
same_test false true f g = clash (g refl)
same_test false false f g = refl

pub returns : goal.returns
returns c =
    let a = c.args in
    let m = c.min.result in
    let list = take m a.offsets.now in
    let each : IsTrue c.all.result ↔ EachIndex list (λ k. slice_index list k ≤ a.spread) = search rules in
    same_test c.all.result (offsets_fine a.spread m a.offsets.now) (λ t. fine_if a.spread m a.offsets.now (each.0 t)) (λ e. each.1 (each_if a.spread m a.offsets.now e))
    ∙ fine_handed a.spread m a.nodes a.offsets.now c.min.ensures
