-- One clock or variable read from the slices. Assumes nothing.
use mathlib.Core.Path.{◌≡◌, refl, sym, ◌∙◌}
use mathlib.Core.List.{List}
use Prim.Native.Nat.{ℕ, zero, suc, ◌+◌, ◌≤◌, ◌<◌}
use native.Mathlib.Omega.{arith}
use lib.IntN.{ℤ, pos}
use lib.ListN.{get_or, take}
use lib.Seq.{get_or-take}
use Rattle.model.specs.Window.{clock_at, value_at}
use Rattle.node.proofs.Held.{past}
use Rattle.registers.specs.Words.{word_in, value_in, clocks_in, values_in}

-- ## One clock or variable read

clock_word : (l : List ℕ) (c a : ℕ) → a < 4 → word_in l c (2 + a) ≡ get_or (clocks_in l c) a 0
clock_word l c zero b = refl
clock_word l c (suc zero) b = refl
clock_word l c (suc (suc zero)) b = refl
clock_word l c (suc (suc (suc zero))) b = refl
clock_word l c (suc (suc (suc (suc a)))) b = absurd (omega arith)

value_word : (v : List ℤ) (c a : ℕ) → a < 4 → value_in v c a ≡ get_or (values_in v c) a (pos 0)
value_word v c zero b = refl
value_word v c (suc zero) b = refl
value_word v c (suc (suc zero)) b = refl
value_word v c (suc (suc (suc zero))) b = refl
value_word v c (suc (suc (suc (suc a)))) b = absurd (omega arith)

pub clock_read : (l : List ℕ) (c n a : ℕ) → n ≤ 4 → a < n → word_in l c (2 + a) ≡ clock_at (take n (clocks_in l c)) a
clock_read l c n a h b = clock_word l c a (omega arith) ∙ sym (get_or-take n (clocks_in l c) a 0 b)

pub clock_none : (l : List ℕ) (c n a : ℕ) → n ≤ a → 0 ≡ clock_at (take n (clocks_in l c)) a
clock_none l c n a h = sym (past n (clocks_in l c) a 0 h)

pub value_read : (v : List ℤ) (c n a : ℕ) → n ≤ 4 → a < n → value_in v c a ≡ value_at (take n (values_in v c)) a
value_read v c n a h b = value_word v c a (omega arith) ∙ sym (get_or-take n (values_in v c) a (pos 0) b)

pub value_none : (v : List ℤ) (c n a : ℕ) → n ≤ a → pos 0 ≡ value_at (take n (values_in v c)) a
value_none v c n a h = sym (past n (values_in v c) a (pos 0) h)
