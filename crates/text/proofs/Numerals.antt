-- The fewest decimal digits of a number are its numeral. Assumes nothing.
use mathlib.Core.Path.{◌≡◌, refl, ap, ap₂, subst, subst⁻¹, ◌∙◌}
use mathlib.Core.Bool.{Bool, true, false}
use mathlib.Core.List.{[], ◌∷◌, ◌++◌}
use Prim.Native.Nat.{ℕ, zero, suc, ◌+◌, ◌*◌, ◌-◌, ◌/◌, ◌%◌, ◌^◌, ◌≤◌, ◌<◌}
use native.Mathlib.Nat.{pow-suc, not-suc-le-zero, le_refl, add-zero, add-suc}
use native.Mathlib.Omega.{arith}
use borrow.Author.Tests.{lt-ltb, le-ltb, leb-true, leb-false}
use lib.Dec.{leb}
use Rattle.io.specs.Digits.{hex_digit_ascii, last_digits, IsDigitCount}
use Rattle.text.specs.Words.{digit, numeral, decimal}

-- a digit below 10
glyph_is : (d : ℕ) → d < 10 → hex_digit_ascii d ∷ [] ≡ digit d
glyph_is d h = rw (lt-ltb d 10 h) refl

-- powers of ten
small : (k : ℕ) → 1 ≤ 10 ^ k
small zero = omega arith
small (suc k) = rw pow-suc (omega (arith, small k))

grows : (j i : ℕ) → 10 ^ j ≤ 10 ^ (j + i)
grows j zero = rw add-zero (le_refl (10 ^ j))
grows j (suc i) = rw (add-suc, pow-suc) (omega (arith, grows j i))

-- a number below 10,000,000,000, as every one of 33 bits is, has at most ten digits
pub at_most_ten : (n k : ℕ) → n < 10000000000 → IsDigitCount 10 1 n k → k ≤ 10
at_most_ten n k small f = pick (leb k 10) refl
  where
    pick : (t : Bool) → leb k 10 ≡ t → k ≤ 10
    pick true e = leb-true k 10 e
    pick false e =
        let far : 10 < k = leb-false k 10 e in
        let p : k - 1 ≡ 10 + (k - 11) = omega arith in
        let g : 10 ^ 10 ≤ 10 ^ (k - 1) = rw p (grows 10 (k - 11)) in
        let l : 10 ^ (k - 1) ≤ n = f.2 (omega arith) in
        omega (arith, g, l)

pub numeral_is : (room k n : ℕ) → k ≤ room → IsDigitCount 10 1 n k → last_digits 10 k n ≡ numeral room n
unfolding numeral
numeral_is room zero n h (one, below, least) = absurd (not-suc-le-zero one)
numeral_is zero (suc k) n h f = absurd (not-suc-le-zero h)
numeral_is (suc room) (suc zero) n h (one, below, least) =
    let few : n < 10 = omega (arith, below) in
    let same : n % 10 ≡ n = omega arith in
    rw (lt-ltb n 10 few, same) (glyph_is n few)
numeral_is (suc room) (suc (suc k)) n h (one, below, least) =
    let above : suc (suc k) - 1 ≡ suc k = omega arith in
    let much : 10 ^ suc k ≤ n = subst (λ (m : ℕ). 10 ^ m ≤ n) above (least (omega arith)) in
    let top : 10 ^ suc (suc k) ≡ 10 ^ suc k * 10 = pow-suc 10 (suc k) in
    let bottom : 10 ^ suc k ≡ 10 ^ k * 10 = pow-suc 10 k in
    let lower : suc k - 1 ≡ k = omega arith in
    let many : 10 ≤ n = omega (arith, much, bottom, small k) in
    let rest : IsDigitCount 10 1 (n / 10) (suc k) = (omega arith, omega (arith, below, top), λ _. subst⁻¹ (λ (m : ℕ). 10 ^ m ≤ n / 10) lower (omega (arith, much, bottom))) in
    rw (le-ltb n 10 many)
    (ap₂ ◌++◌ (numeral_is room (suc k) (n / 10) (omega arith) rest) (glyph_is (n % 10) (omega arith)))

pub decimal_is : (n k : ℕ) → n < 10000000000 → IsDigitCount 10 1 n k → last_digits 10 k n ≡ decimal n
unfolding decimal
decimal_is n k h f = let few : k ≤ 10 = at_most_ten n k h f in numeral_is 20 k n (omega (arith, few)) f

-- what `io::decimal` answers of a number that is so much
pub written : (n : ℕ) {m k : ℕ} → m ≡ n → n < 10000000000 → IsDigitCount 10 1 m k → (k ≤ 10) × (last_digits 10 k m ≡ decimal n)
written n {m} {k} e h f =
    let count = subst (λ (x : ℕ). IsDigitCount 10 1 x k) e f in
    (at_most_ten n k h count, ap (last_digits 10 k) e ∙ decimal_is n k h count)
