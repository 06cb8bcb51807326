-- The digits of a number, read again. Assumes nothing.
use mathlib.Core.Path.{◌≡◌, refl, sym, ap, subst, ◌∙◌}
use mathlib.Core.Bool.{Bool, true, false, cond, ◌&&◌, ◌||◌}
use mathlib.Core.List.{List, [], ◌∷◌, ◌++◌}
use Prim.Native.Nat.{ℕ, zero, suc, ◌+◌, ◌-◌, ◌*◌, ◌/◌, ◌%◌, ◌^◌, ◌≤◌, ◌<◌}
use native.Mathlib.Nat.{pow-suc}
use native.Mathlib.Omega.{arith}
use borrow.Author.Tests.{ltb-true, ltb-false}
use lib.Dec.{ltb}
use Rattle.model.specs.Lists.{All, empty, more}
use Rattle.model.proofs.Basics.Words.{all_join}
use Rattle.words.specs.Words.{digit, numeral, decimal}
use Rattle.uppaal.specs.XtaTokens.{is_digit, is_letter, is_blank}
use Rattle.uppaal.specs.XtaGrammar.{is_reserved}
use Rattle.uppaal.specs.XtaReading.{value}

pub record Digit (b : ℕ) : Type 0 where
  pub number : ℕ
  pub below : number < 10
  pub same : b ≡ 48 + number

abbrev pub Digits : List ℕ → Type 0
Digits bs = All Digit bs

pub numeral_digits : (room n : ℕ) → Digits (numeral room n)
unfolding numeral
numeral_digits zero n = empty
numeral_digits (suc room) n = go (ltb n 10) refl (numeral_digits room (n / 10))
  where
    go : (b : Bool) → ltb n 10 ≡ b → Digits (numeral room (n / 10)) → Digits (cond b (digit n) (numeral room (n / 10) ++ digit (n % 10)))
    go true e a = more (record { number = n; below = ltb-true n 10 e; same = refl }) empty
    go false e a = all_join a (more (record { number = n % 10; below = omega arith; same = refl }) empty)

pub decimal_digits : (n : ℕ) → Digits (decimal n)
unfolding decimal
decimal_digits n = numeral_digits 20 n

value_snoc : (a d : ℕ) (bs : List ℕ) → value a (bs ++ ((48 + d) ∷ [])) ≡ value a bs * 10 + d
value_snoc a d [] = omega arith
value_snoc a d (b ∷ bs) = value_snoc (a * 10 + (b - 48)) d bs

numeral_value : (room n : ℕ) → n < 10 ^ room → value 0 (numeral room n) ≡ n
unfolding numeral
numeral_value zero n h = omega (arith, h)
numeral_value (suc room) n h = go (ltb n 10) refl (numeral_value room (n / 10) (omega (arith, h, pow-suc 10 room)))
  where
    go : (b : Bool) → ltb n 10 ≡ b → value 0 (numeral room (n / 10)) ≡ n / 10 → value 0 (cond b (digit n) (numeral room (n / 10) ++ digit (n % 10))) ≡ n
    go true e i = omega arith
    go false e i = value_snoc 0 (n % 10) (numeral room (n / 10)) ∙ ap (λ (x : ℕ). x * 10 + n % 10) i ∙ omega arith

-- a number of the tool
abbrev pub Nat32 : ℕ → Type 0
Nat32 n = n < 2147483648

pub decimal_value : (n : ℕ) → Nat32 n → value 0 (decimal n) ≡ n
unfolding decimal
decimal_value n h = let f : n < 100000000000000000000 = omega arith in numeral_value 20 n f

pub decimal_same : (n m : ℕ) → Nat32 n → Nat32 m → decimal n ≡ decimal m → n ≡ m
decimal_same n m h k e = sym (decimal_value n h) ∙ ap (value 0) e ∙ decimal_value m k

-- there is one
pub record Begun (bs : List ℕ) : Type 0 where
  pub first : ℕ
  pub others : List ℕ
  pub below : first < 10
  pub same : bs ≡ (48 + first) ∷ others

begun_append : (a b : List ℕ) → Begun a → Begun (a ++ b)
begun_append a b i = record { first = i.first; others = i.others ++ b; below = i.below; same = ap (λ (l : List ℕ). l ++ b) i.same }

numeral_begun : (room n : ℕ) → n < 10 ^ suc room → Begun (numeral (suc room) n)
unfolding numeral
numeral_begun zero n h = go (ltb n 10) refl
  where
    go : (b : Bool) → ltb n 10 ≡ b → Begun (cond b (digit n) ([] ++ digit (n % 10)))
    go true e = record { first = n; others = []; below = ltb-true n 10 e; same = refl }
    go false e = record { first = n % 10; others = []; below = omega arith; same = refl }
numeral_begun (suc room) n h = go (ltb n 10) refl (numeral_begun room (n / 10) (omega (arith, h, pow-suc 10 (suc room))))
  where
    go : (b : Bool) → ltb n 10 ≡ b → Begun (numeral (suc room) (n / 10)) → Begun (cond b (digit n) (numeral (suc room) (n / 10) ++ digit (n % 10)))
    go true e i = record { first = n; others = []; below = ltb-true n 10 e; same = refl }
    go false e i = begun_append (numeral (suc room) (n / 10)) (digit (n % 10)) i

pub decimal_begun : (n : ℕ) → Nat32 n → Begun (decimal n)
unfolding decimal
decimal_begun n h = let f : n < 100000000000000000000 = omega arith in numeral_begun 19 n f

-- ## Its bytes

pub digit_class : (k : ℕ) → k < 10 → (is_letter (48 + k) ≡ false) × (is_digit (48 + k) ≡ true) × (is_blank (48 + k) ≡ false)
digit_class zero h = (refl, refl, refl)
digit_class (suc zero) h = (refl, refl, refl)
digit_class (suc (suc zero)) h = (refl, refl, refl)
digit_class (suc (suc (suc zero))) h = (refl, refl, refl)
digit_class (suc (suc (suc (suc zero)))) h = (refl, refl, refl)
digit_class (suc (suc (suc (suc (suc zero))))) h = (refl, refl, refl)
digit_class (suc (suc (suc (suc (suc (suc zero)))))) h = (refl, refl, refl)
digit_class (suc (suc (suc (suc (suc (suc (suc zero))))))) h = (refl, refl, refl)
digit_class (suc (suc (suc (suc (suc (suc (suc (suc zero)))))))) h = (refl, refl, refl)
digit_class (suc (suc (suc (suc (suc (suc (suc (suc (suc zero))))))))) h = (refl, refl, refl)
digit_class (suc (suc (suc (suc (suc (suc (suc (suc (suc (suc k)))))))))) h = absurd (omega arith)

-- a letter and a digit are no word of the tool
free_x : (k : ℕ) → k < 10 → (bs : List ℕ) → is_reserved (120 ∷ (48 + k) ∷ bs) ≡ false
unfolding is_reserved
free_x zero h bs = refl
free_x (suc zero) h bs = refl
free_x (suc (suc zero)) h bs = refl
free_x (suc (suc (suc zero))) h bs = refl
free_x (suc (suc (suc (suc zero)))) h bs = refl
free_x (suc (suc (suc (suc (suc zero))))) h bs = refl
free_x (suc (suc (suc (suc (suc (suc zero)))))) h bs = refl
free_x (suc (suc (suc (suc (suc (suc (suc zero))))))) h bs = refl
free_x (suc (suc (suc (suc (suc (suc (suc (suc zero)))))))) h bs = refl
free_x (suc (suc (suc (suc (suc (suc (suc (suc (suc zero))))))))) h bs = refl
free_x (suc (suc (suc (suc (suc (suc (suc (suc (suc (suc k)))))))))) h bs = absurd (omega arith)

free_v : (k : ℕ) → k < 10 → (bs : List ℕ) → is_reserved (118 ∷ (48 + k) ∷ bs) ≡ false
unfolding is_reserved
free_v zero h bs = refl
free_v (suc zero) h bs = refl
free_v (suc (suc zero)) h bs = refl
free_v (suc (suc (suc zero))) h bs = refl
free_v (suc (suc (suc (suc zero)))) h bs = refl
free_v (suc (suc (suc (suc (suc zero))))) h bs = refl
free_v (suc (suc (suc (suc (suc (suc zero)))))) h bs = refl
free_v (suc (suc (suc (suc (suc (suc (suc zero))))))) h bs = refl
free_v (suc (suc (suc (suc (suc (suc (suc (suc zero)))))))) h bs = refl
free_v (suc (suc (suc (suc (suc (suc (suc (suc (suc zero))))))))) h bs = refl
free_v (suc (suc (suc (suc (suc (suc (suc (suc (suc (suc k)))))))))) h bs = absurd (omega arith)

free_c : (k : ℕ) → k < 10 → (bs : List ℕ) → is_reserved (99 ∷ (48 + k) ∷ bs) ≡ false
unfolding is_reserved
free_c zero h bs = refl
free_c (suc zero) h bs = refl
free_c (suc (suc zero)) h bs = refl
free_c (suc (suc (suc zero))) h bs = refl
free_c (suc (suc (suc (suc zero)))) h bs = refl
free_c (suc (suc (suc (suc (suc zero))))) h bs = refl
free_c (suc (suc (suc (suc (suc (suc zero)))))) h bs = refl
free_c (suc (suc (suc (suc (suc (suc (suc zero))))))) h bs = refl
free_c (suc (suc (suc (suc (suc (suc (suc (suc zero)))))))) h bs = refl
free_c (suc (suc (suc (suc (suc (suc (suc (suc (suc zero))))))))) h bs = refl
free_c (suc (suc (suc (suc (suc (suc (suc (suc (suc (suc k)))))))))) h bs = absurd (omega arith)

pub x_free : (n : ℕ) → Nat32 n → is_reserved (120 ∷ decimal n) ≡ false
x_free n h = let b = decimal_begun n h in ap (λ (l : List ℕ). is_reserved (120 ∷ l)) b.same ∙ free_x b.first b.below b.others

pub v_free : (n : ℕ) → Nat32 n → is_reserved (118 ∷ decimal n) ≡ false
v_free n h = let b = decimal_begun n h in ap (λ (l : List ℕ). is_reserved (118 ∷ l)) b.same ∙ free_v b.first b.below b.others

pub c_free : (n : ℕ) → Nat32 n → is_reserved (99 ∷ decimal n) ≡ false
c_free n h = let b = decimal_begun n h in ap (λ (l : List ℕ). is_reserved (99 ∷ l)) b.same ∙ free_c b.first b.below b.others
