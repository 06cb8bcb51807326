-- An upper bound by its mark; and the guards of `ends` by theirs. Assumes nothing.
use mathlib.Core.Path.{◌≡◌, refl, sym, ap, ◌∙◌}
use mathlib.Core.List.{List, [], ◌∷◌, ◌++◌, map}
use Prim.Native.Nat.{ℕ, zero, suc, pred, ◌+◌, ◌-◌, ◌*◌, ◌%◌, ◌≤◌, ◌<◌}
use native.Mathlib.Omega.{arith}
use borrow.Author.Tests.{eq-eqb, ne_eqb, lt-ltb, le-ltb}
use lib.Dec.{eqb}
use lib.IntN.{ℤ, pos, negsuc}
use lib.ListN.{length, take, drop}
use Rattle.parts.proofs.Skim.{tail}
use Rattle.uppaal_parts.proofs.Turns.{behind}
use mathlib.Core.Bool.{Bool, true, false, cond}
use Rattle.model.specs.declared.ClockGuard.{ClockGuard}
use Rattle.model.specs.declared.DataGuard.{DataGuard}
use Rattle.model.specs.declared.Update.{Update}
use Rattle.model.specs.Reader.{word, complement, clock_guard_at, data_guard_at, update_at}
use Rattle.model.specs.Lists.{from}
use Rattle.words.specs.Words.{ascii, decimal}
use Rattle.uppaal.specs.Xta.{adds, sets_to, Upper, Atom, at_most, below, exactly}
use Rattle.uppaal.specs.XtaText.{atom_text, against, signed, addend, assignment_text}
use Rattle.uppaal.specs.Export.{ends}
use Rattle.uppaal_parts.specs.Marks.{mark_of, marked, upper_of, high_text, high_mark, low_text, data_text, high_count, highs_count, lead, update_text, reset_of}

pub pred_less : (n : ℕ) → n - 1 ≡ pred n
pred_less zero = refl
pred_less (suc n) = omega arith

pub mark_none : (t : ℕ) (u : Upper) → t ≡ 0 → against u " <= " ≡ atom_text (mark_of t u)
unfolding atom_text
mark_none zero u e = refl
mark_none (suc t) u e = absurd (omega arith)

pub mark_one : (t : ℕ) (u : Upper) → t ≡ 1 → against u " == " ≡ atom_text (mark_of t u)
unfolding atom_text
mark_one zero u e = absurd (omega arith)
mark_one (suc zero) u e = refl
mark_one (suc (suc t)) u e = absurd (omega arith)

pub mark_more : (t : ℕ) (u : Upper) → (t ≡ 0 → ⊥) → (t ≡ 1 → ⊥) → against u " < " ≡ atom_text (mark_of t u)
unfolding atom_text
mark_more zero u e f = absurd (e refl)
mark_more (suc zero) u e f = absurd (f refl)
mark_more (suc (suc t)) u e f = refl

-- no bound reached
pub unmarked : (us : List Upper) → marked 0 us ≡ map at_most us
unmarked [] = refl
unmarked (u ∷ us) = ap (λ (g : List Atom). at_most u ∷ g) (unmarked us)

map_map : {A B C : Type 0} (f : B → C) (g : A → B) (xs : List A) → map f (map g xs) ≡ map (λ x. f (g x)) xs
map_map f g [] = refl
map_map {C = C} f g (x ∷ xs) = ap (λ (l : List C). f (g x) ∷ l) (map_map f g xs)

shift : {B : Type 0} (f : ℕ → B) (i n : ℕ) → map f (from (suc i) n) ≡ map (λ k. f (suc k)) (from i n)
shift f i zero = refl
shift {B} f i (suc n) = ap (λ (l : List B). f (suc i) ∷ l) (shift f (suc i) n)

-- the guards of `ends`, by number: bound k, from 1 on, is the one that is reached
pub ends_marked : (us : List Upper) → ends us ≡ map (λ k. marked (suc k) us) (from 0 (length us))
unfolding ends
ends_marked [] = refl
ends_marked (u ∷ us) =
    ap (λ (l : List (List Atom)). (exactly u ∷ map at_most us) ∷ map (λ g. below u ∷ g) l) (ends_marked us)
    ∙ ap (λ (l : List (List Atom)). (exactly u ∷ map at_most us) ∷ l) (map_map (λ g. below u ∷ g) (λ k. marked (suc k) us) (from 0 (length us)))
    ∙ ap (λ (l : List (List Atom)). (exactly u ∷ map at_most us) ∷ l) (sym (shift (λ k. marked (suc k) (u ∷ us)) 0 (length us)))
    ∙ ap (λ (g : List Atom). (exactly u ∷ g) ∷ map (λ k. marked (suc k) (u ∷ us)) (from 1 (length us))) (sym (unmarked us))

-- ## What is told of a part, as it is written

pub low_told : {g f : ClockGuard} → g ≡ f → ascii " && x" ++ decimal g.clock ++ (ascii " >= " ++ decimal g.low) ≡ low_text f
unfolding atom_text
low_told e = ap low_text e

pub high_none : (t : ℕ) {g f : ClockGuard} → g ≡ f → g.high ≡ 65535 → ([] ≡ high_text t f) × (t ≡ high_mark t f)
high_none t {g} {f} e q = (
  sym (ap (λ (b : Bool). cond b [] (ascii " && " ++ atom_text (mark_of t (upper_of g.clock g.high)))) (eq-eqb g.high 65535 q)) ∙ ap (high_text t) e,
  sym (ap (λ (b : Bool). cond b t (pred t)) (eq-eqb g.high 65535 q)) ∙ ap (high_mark t) e,
)

pub high_told : (t : ℕ) {g f : ClockGuard} → g ≡ f → (g.high ≡ 65535 → ⊥)
    → (ascii " && " ++ atom_text (mark_of t (upper_of g.clock g.high)) ≡ high_text t f) × (pred t ≡ high_mark t f)
high_told t {g} {f} e q = (
  sym (ap (λ (b : Bool). cond b [] (ascii " && " ++ atom_text (mark_of t (upper_of g.clock g.high)))) (ne_eqb g.high 65535 q)) ∙ ap (high_text t) e,
  sym (ap (λ (b : Bool). cond b t (pred t)) (ne_eqb g.high 65535 q)) ∙ ap (high_mark t) e,
)

-- ## Signed numbers

pub bits_low : (n : ℕ) → n < 32768 → decimal n ≡ signed (complement n)
bits_low n h = sym (ap (λ (b : Bool). signed (cond b (pos n) (negsuc (65535 - n)))) (lt-ltb n 32768 h))

pub bits_high : (n : ℕ) → 32768 ≤ n → n < 65536 → ascii "-" ++ decimal (65536 - n) ≡ signed (complement n)
bits_high n h l =
    let e : 65536 - n ≡ suc (65535 - n) = omega arith in
    ap (λ (k : ℕ). ascii "-" ++ decimal k) e ∙ sym (ap (λ (b : Bool). signed (cond b (pos n) (negsuc (65535 - n)))) (le-ltb n 32768 h))

pub data_told : (h : List ℕ) (g : DataGuard) (l k : ℕ) → g ≡ data_guard_at h → l ≡ word h 1 → k ≡ word h 3
    → ascii " && v" ++ decimal g.variable ++ (ascii " >= " ++ signed (complement l)) ++ (ascii " && v" ++ decimal g.variable ++ (ascii " <= " ++ signed (complement k))) ≡ data_text (data_guard_at h)
unfolding atom_text
data_told h g l k e p q =
    ap (λ (f : DataGuard). ascii " && v" ++ decimal f.variable ++ (ascii " >= " ++ signed (complement l)) ++ (ascii " && v" ++ decimal f.variable ++ (ascii " <= " ++ signed (complement k)))) e
    ∙ rw (p, q) refl

-- ## How many upper bounds

pub count_small : (n : ℕ) (h : List ℕ) → highs_count n h ≤ n
unfolding highs_count
count_small zero h = omega arith
count_small (suc n) h = omega (arith, count_small n (drop 5 h), small (eqb (clock_guard_at h).high 65535))
  where
    small : (b : Bool) → cond b 0 1 ≤ 1
    small true = omega arith
    small false = omega arith

-- those that were counted, and those from number k on
pub count_on : (h : List ℕ) (k n : ℕ) → k < n → highs_count (n - k) (drop (k * 5) h) ≡ high_count (clock_guard_at (take (length h - k * 5) (drop (k * 5) h))) + highs_count (n - (k + 1)) (drop ((k + 1) * 5) h)
unfolding highs_count
count_on h k n more =
    let e : n - k ≡ suc (n - (k + 1)) = omega arith in
    ap (λ (i : ℕ). highs_count i (drop (k * 5) h)) e
    ∙ ap (λ (l : List ℕ). high_count (clock_guard_at (drop (k * 5) h)) + highs_count (n - (k + 1)) l) (behind 5 k h)
    ∙ ap (λ (l : List ℕ). high_count (clock_guard_at l) + highs_count (n - (k + 1)) (drop ((k + 1) * 5) h)) (sym (tail h (k * 5)))

pub count_done : (k : ℕ) (h : List ℕ) → k ≤ 0 → highs_count k h ≡ 0
unfolding highs_count
count_done zero h q = refl
count_done (suc k) h q = absurd (omega arith)

-- ## Assignments

pub lead_first : (b : Bool) → b ≡ true → ascii " assign " ≡ lead b
lead_first b e = sym (ap (λ (c : Bool). cond c (ascii " assign ") (ascii ", ")) e)

pub lead_next : (b : Bool) → b ≡ false → ascii ", " ≡ lead b
lead_next b e = sym (ap (λ (c : Bool). cond c (ascii " assign ") (ascii ", ")) e)

pub addend_low : (n : ℕ) → n < 32768 → ascii " + " ++ decimal n ≡ addend (complement n)
addend_low n h = sym (ap (λ (b : Bool). addend (cond b (pos n) (negsuc (65535 - n)))) (lt-ltb n 32768 h))

pub addend_high : (n : ℕ) → 32768 ≤ n → n < 65536 → ascii " - " ++ decimal (65536 - n) ≡ addend (complement n)
addend_high n h l =
    let e : 65536 - n ≡ suc (65535 - n) = omega arith in
    ap (λ (k : ℕ). ascii " - " ++ decimal k) e ∙ sym (ap (λ (b : Bool). addend (cond b (pos n) (negsuc (65535 - n)))) (le-ltb n 32768 h))

pub adds_told : (v : ℕ) (z : ℤ) → ascii "v" ++ decimal v ++ (ascii " := v" ++ decimal v ++ addend z) ≡ assignment_text (adds v z)
unfolding assignment_text
adds_told v z = refl

pub sets_told : (v : ℕ) (z : ℤ) → ascii "v" ++ decimal v ++ (ascii " := " ++ signed z) ≡ assignment_text (sets_to v z)
unfolding assignment_text
sets_told v z = refl

pub update_adds : (first : Bool) (h : List ℕ) (u : Update) (k : ℕ) → u ≡ update_at h → k ≡ word h 2 → u.adds ≡ true
    → lead first ++ assignment_text (adds u.variable (complement k)) ≡ update_text first (update_at h)
update_adds first h u k e p q =
    ap (λ (z : ℤ). lead first ++ assignment_text (adds u.variable z)) (ap complement p ∙ sym (ap (λ (x : Update). x.number) e))
    ∙ sym (ap (λ (b : Bool). lead first ++ assignment_text (cond b (adds u.variable u.number) (sets_to u.variable u.number))) q)
    ∙ ap (update_text first) e

pub update_sets : (first : Bool) (h : List ℕ) (u : Update) (k : ℕ) → u ≡ update_at h → k ≡ word h 2 → u.adds ≡ false
    → lead first ++ assignment_text (sets_to u.variable (complement k)) ≡ update_text first (update_at h)
update_sets first h u k e p q =
    ap (λ (z : ℤ). lead first ++ assignment_text (sets_to u.variable z)) (ap complement p ∙ sym (ap (λ (x : Update). x.number) e))
    ∙ sym (ap (λ (b : Bool). lead first ++ assignment_text (cond b (adds u.variable u.number) (sets_to u.variable u.number))) q)
    ∙ ap (update_text first) e

pub reset_told : (f : Bool) (i n : ℕ) → n % 2 ≡ 1 → (lead f ++ (ascii "x" ++ decimal i ++ ascii " := 0") ≡ reset_of f i (eqb (n % 2) 1)) × (false ≡ cond (eqb (n % 2) 1) false f)
unfolding assignment_text
reset_told f i n q = (sym (ap (reset_of f i) (eq-eqb (n % 2) 1 q)), sym (ap (λ (b : Bool). cond b false f) (eq-eqb (n % 2) 1 q)))

pub reset_none : (f : Bool) (i n : ℕ) → (n % 2 ≡ 1 → ⊥) → ([] ≡ reset_of f i (eqb (n % 2) 1)) × (f ≡ cond (eqb (n % 2) 1) false f)
reset_none f i n q = (sym (ap (reset_of f i) (ne_eqb (n % 2) 1 q)), sym (ap (λ (b : Bool). cond b false f) (ne_eqb (n % 2) 1 q)))

pub closed_none : (f : Bool) → f ≡ true → [] ≡ cond f [] (ascii ";")
closed_none f e = sym (ap (λ (b : Bool). cond b [] (ascii ";")) e)

pub closed_some : (f : Bool) → f ≡ false → ascii ";" ≡ cond f [] (ascii ";")
closed_some f e = sym (ap (λ (b : Bool). cond b [] (ascii ";")) e)

pub closed_as : {f g : Bool} → f ≡ g → cond f [] (ascii ";") ≡ cond g [] (ascii ";")
closed_as e = ap (λ (b : Bool). cond b [] (ascii ";")) e
