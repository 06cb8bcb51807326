-- One statement of a program: decoding its bytes gives it back, and tells its length and whether it ends its block. Assumes nothing.
use mathlib.Core.Path.{◌≡◌, refl, sym, ap, ◌∙◌}
use mathlib.Core.Bool.{Bool, true, false}
use mathlib.Core.List.{List, ◌++◌}
use mathlib.Core.Option.{none, some}
use Prim.Native.Nat.{ℕ, suc, ◌+◌, ◌*◌, ◌%◌, ◌<◌}
use native.Mathlib.Omega.{arith}
use borrow.Author.Tests.{le-leb}
use lib.Dec.{leb}
use lib.ListN.{length, get_or, length-append}
use Rattle.model.specs.declared.Pair.{Pair}
use Rattle.model.specs.Lists.{All}
use Rattle.model.specs.Bytes.{unsigned}
use Rattle.model.specs.Limits.{Int16}
use Rattle.model.specs.Reader.{byte}
use Rattle.model.specs.Places.{list_at}
use Rattle.model.specs.Program.{Statement, sleep, set_to, add_to, done, send, listen, age, reset, enter, trial, low, high, data_low, data_high, keep, budget, take_edge, choose, pair_quad, code}
use Rattle.model.specs.Machine.{pair_at, decodings, statement_at, statement_length, ends_block}
use Rattle.model.proofs.Basics.Words.{word_back, complement_back}
use Rattle.model.proofs.Basics.Walk.{each_length, list_back}

-- ## Numbers that fit a statement's fields

-- a pair fits: two numbers of one byte
pub record PairFits (q : Pair) : Type 0 where
  pub channel : q.channel < 256
  pub location : q.location < 256

-- the numbers of a statement fit its bytes
abbrev pub Fitting : Statement → Type 0
Fitting sleep = Unit {0}
Fitting (set_to v k) = (v < 256) × Int16 k
Fitting (add_to v k) = (v < 256) × Int16 k
Fitting done = Unit {0}
Fitting (send k) = k < 256
Fitting (listen qs) = (length qs < 256) × All PairFits qs
Fitting (age i) = i < 256
Fitting (reset i) = i < 256
Fitting (enter l) = l < 256
Fitting trial = Unit {0}
Fitting (low i k) = (i < 256) × (k < 65536)
Fitting (high i k) = (i < 256) × (k < 65536)
Fitting (data_low v k) = (v < 256) × Int16 k
Fitting (data_high v k) = (v < 256) × Int16 k
Fitting (keep e) = e < 256
Fitting (budget k) = k < 65536
Fitting take_edge = Unit {0}
Fitting choose = Unit {0}

-- ## Lengths

-- how many pairs stand behind a statement
abbrev pub behind : Statement → ℕ
behind (listen qs) = length qs
behind sleep = 0
behind (set_to v k) = 0
behind (add_to v k) = 0
behind done = 0
behind (send k) = 0
behind (age i) = 0
behind (reset i) = 0
behind (enter l) = 0
behind trial = 0
behind (low i k) = 0
behind (high i k) = 0
behind (data_low v k) = 0
behind (data_high v k) = 0
behind (keep e) = 0
behind (budget k) = 0
behind take_edge = 0
behind choose = 0

-- how many times four bytes a statement has, its pairs counted each
abbrev pub quads : Statement → ℕ
quads s = suc (behind s)

-- the statements that end a block
abbrev pub ends : Statement → Bool
ends take_edge = true
ends choose = true
ends sleep = false
ends (set_to v k) = false
ends (add_to v k) = false
ends done = false
ends (send k) = false
ends (listen qs) = false
ends (age i) = false
ends (reset i) = false
ends (enter l) = false
ends trial = false
ends (low i k) = false
ends (high i k) = false
ends (data_low v k) = false
ends (data_high v k) = false
ends (keep e) = false
ends (budget k) = false

-- a statement's length, the length that its bytes tell, and whether they say that a block ends
pub coded : (s : Statement) (r : List ℕ)
    → (length (code s) ≡ quads s * 4) × (statement_length (code s ++ r) ≡ quads s * 4) × (ends_block (code s ++ r) ≡ ends s)
unfolding code
coded sleep r = (refl, refl, refl)
coded (set_to v k) r = (refl, refl, refl)
coded (add_to v k) r = (refl, refl, refl)
coded done r = (refl, refl, refl)
coded (send k) r = (refl, refl, refl)
coded (listen qs) r = (omega (arith, each_length pair_quad 4 (λ q. refl) qs), omega arith, refl)
coded (age i) r = (refl, refl, refl)
coded (reset i) r = (refl, refl, refl)
coded (enter l) r = (refl, refl, refl)
coded trial r = (refl, refl, refl)
coded (low i k) r = (refl, refl, refl)
coded (high i k) r = (refl, refl, refl)
coded (data_low v k) r = (refl, refl, refl)
coded (data_high v k) r = (refl, refl, refl)
coded (keep e) r = (refl, refl, refl)
coded (budget k) r = (refl, refl, refl)
coded take_edge r = (refl, refl, refl)
coded choose r = (refl, refl, refl)

-- the length that a statement's bytes tell is its own
pub length_back : (s : Statement) (r : List ℕ) → statement_length (code s ++ r) ≡ length (code s)
length_back s r = (coded s r).1 ∙ sym (coded s r).0

-- a statement's bytes say that a block ends exactly if it is a take or a choose
pub ends_back : (s : Statement) (r : List ℕ) → ends_block (code s ++ r) ≡ ends s
ends_back s r = (coded s r).2

-- ## Decoding

-- the lower byte of a small number is the number
low_back : (n : ℕ) → n < 256 → n % 256 ≡ n
low_back n h = omega arith

-- a pair written is read back
pair_back : (q : Pair) (r : List ℕ) → PairFits q → pair_at (pair_quad q ++ r) ≡ q
pair_back q r h = rw (low_back q.location h.location)

-- the statement that stands for the op and the fields
found : (s : Statement) (r : List ℕ) → Fitting s → get_or (decodings (code s ++ r)) (byte (code s ++ r) 0) none ≡ some s
unfolding code list_at
found sleep r h = refl
found (set_to v k) r h = rw (word_back (unsigned k), complement_back k h.1)
found (add_to v k) r h = rw (word_back (unsigned k), complement_back k h.1)
found done r h = refl
found (send k) r h = refl
found (listen qs) r h = ap (λ l. some (listen l)) (list_back pair_quad 4 (λ q. refl) pair_at PairFits pair_back h.1 r)
found (age i) r h = refl
found (reset i) r h = refl
found (enter l) r h = rw (low_back l h)
found trial r h = refl
found (low i k) r h = rw (word_back k)
found (high i k) r h = rw (word_back k)
found (data_low v k) r h = rw (word_back (unsigned k), complement_back k h.1)
found (data_high v k) r h = rw (word_back (unsigned k), complement_back k h.1)
found (keep e) r h = rw (low_back e h)
found (budget k) r h = rw (word_back k)
found take_edge r h = refl
found choose r h = refl

-- decoding a statement's bytes gives the statement
pub statement_back : (s : Statement) (r : List ℕ) → Fitting s → statement_at (code s ++ r) ≡ some s
unfolding statement_at
statement_back s r h =
    let enough : leb 4 (length (code s ++ r)) ≡ true = le-leb 4 (length (code s ++ r)) (omega (arith, (coded s r).0, length-append (code s) r)) in
    rw enough (found s r h)
