-- Digits read one after the other; the digits that are written of a number are read as that number. Assumes nothing.
use mathlib.Core.Path.{◌≡◌, refl, sym, ap, ◌∙◌}
use mathlib.Core.Bool.{Bool, true, false, cond}
use mathlib.Core.List.{List, [], ◌∷◌, ◌++◌}
use Rattle.std.proofs.Common.{None, Some}
use Prim.Native.Nat.{ℕ, zero, suc, ◌+◌, ◌*◌, ◌-◌, ◌/◌, ◌%◌, ◌^◌, ◌≤◌, ◌<◌}
use native.Mathlib.Nat.{pow-suc}
use native.Mathlib.Numerals.{add-one}
use native.Mathlib.Omega.{arith}
use borrow.Author.Tests.{lt-ltb, le-ltb, le-leb, ltb-true}
use lib.Dec.{ltb}
use lib.ListN.{length, get_or, drop, length-append, length-drop}
use lib.Seq.{drop-cons}
use Rattle.text.specs.Words.{digit, numeral, decimal}
use Rattle.std.specs.Char.{is_ascii_digit}
use Rattle.text.specs.Numbers.{worth, fitting, read_on, number_of}

-- ## A byte more

-- what is too large stays so
over : (v : ℕ) → 4294967296 ≤ v → (bs : List ℕ) → read_on v bs ≡ None
unfolding worth
over v h [] = rw (le-ltb v 4294967296 h)
over v h (b ∷ bs) = go (is_ascii_digit b) (over (v * 10 + (b - 48)) (omega arith) bs)
  where
    go : (t : Bool) → read_on (v * 10 + (b - 48)) bs ≡ None → fitting (cond t (worth (v * 10 + (b - 48)) bs) None) ≡ None
    go true e = e
    go false e = refl

module _ (v b : ℕ) (rest : List ℕ) where
  -- it is no digit
  pub no_digit : is_ascii_digit b ≡ false → read_on v (b ∷ rest) ≡ None
  unfolding worth
  no_digit e = ap (λ (t : Bool). fitting (cond t (worth (v * 10 + (b - 48)) rest) None)) e

  -- it is
  pub by_digit : is_ascii_digit b ≡ true → read_on v (b ∷ rest) ≡ read_on (v * 10 + (b - 48)) rest
  unfolding worth
  by_digit e = ap (λ (t : Bool). fitting (cond t (worth (v * 10 + (b - 48)) rest) None)) e

  pub past_all : is_ascii_digit b ≡ true → 4294967296 ≤ v * 10 + (b - 48) → read_on v (b ∷ rest) ≡ None
  past_all e k = by_digit e ∙ over (v * 10 + (b - 48)) k rest

-- ## The whole word

pub some_bytes : (word : List ℕ) → (length word ≡ 0 → ⊥) → read_on 0 word ≡ number_of word
unfolding worth number_of
some_bytes [] h = absurd (h refl)
some_bytes (b ∷ bs) h = refl

pub no_bytes : (word : List ℕ) → length word ≡ 0 → None ≡ number_of word
unfolding number_of
no_bytes [] h = refl
no_bytes (b ∷ bs) h = absurd (omega arith)

none_left : (bs : List ℕ) → length bs ≡ 0 → (v : ℕ) → read_on v bs ≡ fitting (Some v)
unfolding worth
none_left [] e v = refl
none_left (b ∷ bs) e v = absurd (omega arith)

module _ (word : List ℕ) (i : ℕ) (h : i < length word) where
  pub one_more : (v : ℕ) → read_on v (drop i word) ≡ read_on v (get_or word i 0 ∷ drop (i + 1) word)
  one_more v = ap (read_on v) (drop-cons word i 0 h) ∙ ap (λ (n : ℕ). read_on v (get_or word i 0 ∷ drop n word)) (sym (add-one i))

pub all_read : (word : List ℕ) (i v : ℕ) → length word ≤ i → v < 4294967296 → read_on v (drop i word) ≡ Some v
all_read word i v h k = none_left (drop i word) (omega (arith, length-drop i word)) v ∙ rw (lt-ltb v 4294967296 k)

-- ## What is written is read

worth_last : (xs : List ℕ) (v d : ℕ) {n : ℕ} → d < 10 → worth v xs ≡ Some n → worth v (xs ++ digit d) ≡ Some (n * 10 + d)
unfolding worth
worth_last [] v d {n} h e =
    let same : v ≡ n = cc in
    let is : v * 10 + (48 + d - 48) ≡ n * 10 + d = omega (arith, same) in
    rw (le-leb 48 (48 + d) (omega arith), le-leb (48 + d) 57 (omega arith)) (ap Some is)
worth_last (b ∷ xs) v d {n} h e = go (is_ascii_digit b) (worth_last xs (v * 10 + (b - 48)) d h) e
  where
    go : (t : Bool) → (worth (v * 10 + (b - 48)) xs ≡ Some n → worth (v * 10 + (b - 48)) (xs ++ digit d) ≡ Some (n * 10 + d))
        → cond t (worth (v * 10 + (b - 48)) xs) None ≡ Some n
        → cond t (worth (v * 10 + (b - 48)) (xs ++ digit d)) None ≡ Some (n * 10 + d)
    go true on q = on q
    go false on q = absurd (let z : ◌≡◌ {A = ℕ} 0 1 = cc in omega arith)

numeral_worth : (room n : ℕ) → n < 10 ^ room → worth 0 (numeral room n) ≡ Some n
unfolding worth numeral
numeral_worth zero n h = let z : 0 ≡ n = omega arith in ap Some z
numeral_worth (suc room) n h = go (ltb n 10) refl (numeral_worth room (n / 10) (let few : n / 10 < 10 ^ room = omega (arith, pow-suc 10 room) in few))
  where
    whole : n / 10 * 10 + n % 10 ≡ n
    whole = omega arith

    alone : 0 * 10 + n ≡ n
    alone = omega arith

    go : (t : Bool) → ltb n 10 ≡ t → worth 0 (numeral room (n / 10)) ≡ Some (n / 10) → worth 0 (cond t (digit n) (numeral room (n / 10) ++ digit (n % 10))) ≡ Some n
    go true e tenth = worth_last [] 0 n (ltb-true n 10 e) refl ∙ ap Some alone
    go false e tenth = worth_last (numeral room (n / 10)) 0 (n % 10) (omega arith) tenth ∙ ap Some whole

numeral_some : (room n : ℕ) → length (numeral (suc room) n) ≡ 0 → ⊥
unfolding numeral
numeral_some room n = go (ltb n 10)
  where
    go : (t : Bool) → length (cond t (digit n) (numeral room (n / 10) ++ digit (n % 10))) ≡ 0 → ⊥
    go true e = omega arith
    go false e = omega (arith, length-append (numeral room (n / 10)) (digit (n % 10)))

pub read_back : (n : ℕ) → n < 4294967296 → number_of (decimal n) ≡ Some n
unfolding decimal
read_back n h =
    sym (some_bytes (numeral 20 n) (numeral_some 19 n)) ∙ ap fitting (numeral_worth 20 n (omega arith)) ∙ rw (lt-ltb n 4294967296 h)
