-- Numbers of two bytes: written and read back, read and written back. Assumes nothing.
use mathlib.Core.Path.{◌≡◌, refl}
use mathlib.Core.Bool.{Bool, true, false, cond}
use mathlib.Core.List.{List, [], ◌∷◌, ◌++◌}
use Prim.Native.Nat.{ℕ, zero, suc, ◌+◌, ◌-◌, ◌*◌, ◌/◌, ◌%◌, ◌<◌}
use native.Mathlib.Omega.{arith}
use borrow.Author.Tests.{ltb-true, ltb-false, lt-ltb, le-ltb}
use lib.Dec.{ltb}
use lib.IntN.{ℤ, pos, negsuc}
use Rattle.model.specs.Lists.{All, empty, more, Bytes, be16, each}
use Rattle.model.specs.Bytes.{unsigned}
use Rattle.model.specs.Limits.{Int16}
use Rattle.model.specs.Reader.{byte, word, complement}

-- ## Lists of bytes

-- what stands anywhere in a list of bytes is a byte
pub byte_small : {bs : List ℕ} → Bytes bs → (i : ℕ) → byte bs i < 256
byte_small empty i = omega arith
byte_small (more h a) zero = h
byte_small (more h a) (suc i) = byte_small a i

-- all of two lists, one after the other
pub all_join : {A : Type 0} {P : A → Type 0} {xs ys : List A} → All P xs → All P ys → All P (xs ++ ys)
all_join empty b = b
all_join (more h a) b = more h (all_join a b)

-- each part's bytes are bytes: so are those of all, one after the other
pub each_bytes : {A : Type 0} {In : A → Type 0} (f : A → List ℕ) → ((x : A) → In x → Bytes (f x)) → {xs : List A} → All In xs → Bytes (each f xs)
unfolding each
each_bytes f k empty = empty
each_bytes f k (more {x = x} h a) = all_join (k x h) (each_bytes f k a)

-- the second of two lists
pub all_after : {A : Type 0} {P : A → Type 0} (xs : List A) {ys : List A} → All P (xs ++ ys) → All P ys
all_after [] a = a
all_after (x ∷ xs) (more h a) = all_after xs a

-- the first of two lists
pub all_before : {A : Type 0} {P : A → Type 0} (xs ys : List A) → All P (xs ++ ys) → All P xs
all_before [] ys a = empty
all_before (x ∷ xs) ys (more h a) = more h (all_before xs ys a)

-- ## Two bytes

-- a number written is read back
pub word_back : (n : ℕ) → n / 256 * 256 + n % 256 ≡ n
word_back n = omega arith

-- a number read is written back
pub be16_back : (a b : ℕ) → b < 256 → be16 (a * 256 + b) ≡ a ∷ b ∷ []
be16_back a b h =
    let p : (a * 256 + b) / 256 ≡ a = omega arith in
    let q : (a * 256 + b) % 256 ≡ b = omega arith in
    rw (p, q)

-- the number that stands at i is written back as the two bytes there
pub word_bytes : {bs : List ℕ} → Bytes bs → (i : ℕ) → be16 (word bs i) ≡ byte bs i ∷ byte bs (suc i) ∷ []
word_bytes {bs} a i = be16_back (byte bs i) (byte bs (suc i)) (byte_small a (suc i))

-- the number that stands at i has two bytes
pub word_small : {bs : List ℕ} → Bytes bs → (i : ℕ) → word bs i < 65536
word_small {bs} a i = omega (arith, byte_small a i, byte_small a (suc i))

-- a small number is written as bytes
pub be16_bytes : (n : ℕ) → n < 65536 → Bytes (be16 n)
be16_bytes n h =
    let high : n / 256 < 256 = omega arith in
    let low : n % 256 < 256 = omega arith in
    more high (more low empty)

-- ## Two's complement

-- a signed number written is read back
pub complement_back : (z : ℤ) → Int16 z → complement (unsigned z) ≡ z
complement_back (pos n) h = rw (lt-ltb n 32768 h)
complement_back (negsuc n) h =
    let e : 65535 - (65535 - n) ≡ n = omega arith in
    rw (le-ltb (65535 - n) 32768 (omega arith), e)

-- a signed number is written in two bytes
pub unsigned_small : (z : ℤ) → Int16 z → unsigned z < 65536
unsigned_small (pos n) h = omega arith
unsigned_small (negsuc n) h = omega arith

-- a signed number read is in range, whatever the number
pub complement_in : (n : ℕ) → Int16 (complement n)
complement_in n = go (ltb n 32768) refl
  where
    go : (t : Bool) → ltb n 32768 ≡ t → Int16 (cond t (pos n) (negsuc (65535 - n)))
    go true e = ltb-true n 32768 e
    go false e = omega (arith, ltb-false n 32768 e)

-- a signed number read is written back
pub unsigned_back : (n : ℕ) → n < 65536 → unsigned (complement n) ≡ n
unsigned_back n h = go (ltb n 32768) refl
  where
    go : (t : Bool) → ltb n 32768 ≡ t → unsigned (cond t (pos n) (negsuc (65535 - n))) ≡ n
    go true e = refl
    go false e = omega arith
