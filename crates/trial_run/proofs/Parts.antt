-- The parts of a word between its commas, and the numbers that they are, one after the other. Assumes nothing.
use mathlib.Core.Path.{◌≡◌, refl, sym, ap, subst, ◌∙◌}
use mathlib.Core.Bool.{Bool, true, false, cond}
use mathlib.Core.List.{List, [], ◌∷◌, ◌++◌, append_assoc, append-nil}
use Rattle.std.proofs.Common.{Option, None, Some}
use Prim.Native.Nat.{ℕ, zero, suc, ◌+◌, ◌-◌, ◌≤◌, ◌<◌}
use native.Mathlib.Numerals.{add-one}
use native.Mathlib.Omega.{arith}
use borrow.Author.Tests.{lt-ltb, le-ltb, ltb-true, ltb-false, le-leb, lt-leb, eq-eqb, ne_eqb}
use lib.Dec.{ltb, eqb}
use lib.ListN.{length, get_or, set, take, drop, length-append, length-drop}
use lib.Seq.{length-take-le, drop-drop, take-suc-set}
use Rattle.text.specs.Numbers.{number_of}
use Rattle.text.proofs.Lines.{from, from_is}
use Rattle.text.proofs.Appended.{counts}
use Rattle.trial_run.specs.OffsetList.{onto, parts_of, split_at, before, numbers_of, few, numbers_in, is_dash, offsets_in, Holds}

-- ## The first comma

one_less : (i n : ℕ) → ltb i n ≡ ltb (suc i) (suc n)
one_less i n = go (ltb i n) refl
  where
    go : (t : Bool) → ltb i n ≡ t → t ≡ ltb (suc i) (suc n)
    go true e = sym (lt-ltb (suc i) (suc n) (omega (arith, ltb-true i n e)))
    go false e = sym (le-ltb (suc i) (suc n) (omega (arith, ltb-false i n e)))

pub split : (word : List ℕ) (i : ℕ) → i ≤ length word → ((k : ℕ) → k < i → get_or word k 0 ≡ 44 → ⊥) → (i < length word → get_or word i 0 ≡ 44) → parts_of word ≡ split_at i word
unfolding parts_of
split [] zero h none_before here = refl
split [] (suc i) h none_before here = absurd (omega arith)
split (b ∷ bs) zero h none_before here = rw (eq-eqb b 44 (here (omega arith)), lt-ltb 0 (suc (length bs)) (omega arith))
split (b ∷ bs) (suc i) h none_before here =
    let rest = split bs i (omega arith) (λ k l e. none_before (suc k) (omega arith) e) (λ l. here (omega arith)) in
    rw (ne_eqb b 44 (none_before 0 (omega arith)))
    (ap (onto b) rest ∙ ap (λ (t : Bool). take (suc i) (b ∷ bs) ∷ cond t (parts_of (drop (suc i) bs)) []) (one_less i (length bs)))

-- in what is lent of a word from a byte on
pub split_from : (word : List ℕ) (at k : ℕ) → parts_of (from word at) ≡ split_at k (from word at) → parts_of (drop at word) ≡ split_at k (drop at word)
split_from word at k e = subst (λ (l : List ℕ). parts_of l ≡ split_at k l) (from_is word at) e

pub length_from : (word : List ℕ) (at : ℕ) → length (from word at) ≡ length word - at
length_from word at = ap length (from_is word at) ∙ length-drop at word

pub number_from : (word : List ℕ) (at k : ℕ) (number : Option ℕ) → number ≡ number_of (take (at + k - at) (drop at word)) → {known : Option ℕ} → number ≡ known
    → number_of (take k (drop at word)) ≡ known
number_from word at k number e q =
    let same : at + k - at ≡ k = omega arith in
    ap (λ (m : ℕ). number_of (take m (drop at word))) (sym same) ∙ sym e ∙ q

-- ## A dash

pub no_dash : (word : List ℕ) → (length word ≡ 1 → ⊥) → false ≡ is_dash word
no_dash [] h = refl
no_dash (b ∷ []) h = absurd (h refl)
no_dash (b ∷ d ∷ bs) h = refl

pub one_byte : (word : List ℕ) → length word ≡ 1 → eqb (get_or word 0 0) 45 ≡ is_dash word
one_byte [] h = absurd (omega arith)
one_byte (b ∷ []) h = refl
one_byte (b ∷ d ∷ bs) h = absurd (omega arith)

-- ## The numbers, one after the other

-- behind those that were read
abbrev pub behind : List ℕ → Option (List ℕ) → Option (List ℕ)
behind ns None = None
behind ns (Some more) = Some (ns ++ more)

pub none_read : (more : Option (List ℕ)) → behind [] more ≡ more
none_read None = refl
none_read (Some ns) = refl

-- one more
next_read : (ns : List ℕ) (v : ℕ) (more : Option (List ℕ)) → behind ns (before (Some v) more) ≡ behind (ns ++ (v ∷ [])) more
next_read ns v None = refl
next_read ns v (Some more) = ap Some (sym (append_assoc ns (v ∷ []) more))

module _ (word list : List ℕ) (at n k : ℕ) {told : Option (List ℕ)} (comma : parts_of (drop at word) ≡ split_at k (drop at word)) (inv : behind (take n list) (numbers_of (parts_of (drop at word))) ≡ told) where
  abbrev part : List ℕ
  part = take k (drop at word)

  abbrev others : List (List ℕ)
  others = cond (ltb k (length (drop at word))) (parts_of (drop (suc k) (drop at word))) []

  here : behind (take n list) (before (number_of part) (numbers_of others)) ≡ told
  unfolding numbers_of
  here = ap (λ (parts : List (List ℕ)). behind (take n list) (numbers_of parts)) (sym comma) ∙ inv

  -- a part that is no number
  pub ill_formed : number_of part ≡ None → told ≡ None
  ill_formed e = sym here ∙ ap (λ (x : Option ℕ). behind (take n list) (before x (numbers_of others))) e

  module _ (v : ℕ) (e : number_of part ≡ Some v) (h : n < length list) where
    longer : behind (take (n + 1) (set list n v)) (numbers_of others) ≡ told
    longer =
        ap (λ (m : ℕ). behind (take m (set list n v)) (numbers_of others)) (add-one n)
        ∙ ap (λ (l : List ℕ). behind l (numbers_of others)) (take-suc-set list n v h)
        ∙ sym (next_read (take n list) v (numbers_of others))
        ∙ ap (λ (x : Option ℕ). behind (take n list) (before x (numbers_of others))) (sym e)
        ∙ here

    -- the last one
    pub last_number : at + k ≡ length word → told ≡ Some (take (n + 1) (set list n v))
    unfolding numbers_of
    last_number q =
        let end : ltb k (length (drop at word)) ≡ false = le-ltb k (length (drop at word)) (omega (arith, length-drop at word)) in
        let none_left : others ≡ [] = ap (λ (t : Bool). cond t (parts_of (drop (suc k) (drop at word))) []) end in
        sym longer
        ∙ ap (λ (parts : List (List ℕ)). behind (take (n + 1) (set list n v)) (numbers_of parts)) none_left
        ∙ ap Some (append-nil (take (n + 1) (set list n v)))

    -- there is a comma, and what is behind it
    pub more_numbers : at + k < length word → behind (take (n + 1) (set list n v)) (numbers_of (parts_of (drop (at + k + 1) word))) ≡ told
    more_numbers q =
        let on : ltb k (length (drop at word)) ≡ true = lt-ltb k (length (drop at word)) (omega (arith, length-drop at word)) in
        let place : at + suc k ≡ at + k + 1 = omega arith in
        let some_left : others ≡ parts_of (drop (at + k + 1) word) =
        ap (λ (t : Bool). cond t (parts_of (drop (suc k) (drop at word))) []) on
        ∙ ap parts_of (drop-drop (suc k) at word ∙ ap (λ (m : ℕ). drop m word) place)
        in
        ap (λ (parts : List (List ℕ)). behind (take (n + 1) (set list n v)) (numbers_of parts)) (sym some_left) ∙ longer

-- ## Not more than 64

few_read : (list : List ℕ) (n : ℕ) {told : Option (List ℕ)} → n ≤ 64 → n ≤ length list → told ≡ Some (take n list) → few told ≡ Some (take n list)
few_read list n h k e = ap few e ∙ rw (le-leb (length (take n list)) 64 (omega (arith, length-take-le n list k)))

-- there is always a part
some_part : (word : List ℕ) → 0 < length (parts_of word)
unfolding parts_of
some_part [] = omega arith
some_part (b ∷ bs) = go (eqb b 44) (parts_of bs) (some_part bs)
  where
    go : (t : Bool) (parts : List (List ℕ)) → 0 < length parts → 0 < length (cond t ([] ∷ parts) (onto b parts))
    go true parts h = omega arith
    go false [] h = absurd (omega arith)
    go false (p ∷ parts) h = omega arith

too_many : (word list : List ℕ) {told : Option (List ℕ)} → 64 ≤ length list → behind (take 64 list) (numbers_of (parts_of word)) ≡ told → few told ≡ None
unfolding numbers_of
too_many word list h e = ap few (sym e) ∙ go (parts_of word) (some_part word)
  where
    full : (number : Option ℕ) (more : Option (List ℕ)) → few (behind (take 64 list) (before number more)) ≡ None
    full None more = refl
    full (Some v) None = refl
    full (Some v) (Some ns) =
        rw (lt-leb (length (take 64 list ++ (v ∷ ns))) 64 (omega (arith, length-append (take 64 list) (v ∷ ns), length-take-le 64 list h)))

    go : (parts : List (List ℕ)) → 0 < length parts → few (behind (take 64 list) (numbers_of parts)) ≡ None
    go [] k = absurd (omega arith)
    go (p ∷ parts) k = full (number_of p) (numbers_of parts)

-- ## The answer

held : {numbers : Option (List ℕ)} (n : ℕ) (list : List ℕ) → n ≤ length list → numbers ≡ Some (take n list) → Holds numbers (Some n) list
held n list h e = record { read = e; counts = λ m q. let same : n ≡ m = cc in counts m list (omega (arith, same)) }

none_held : {numbers : Option (List ℕ)} (list : List ℕ) → numbers ≡ None → Holds numbers None list
none_held list e = record { read = e; counts = λ m q. absurd (let z : ◌≡◌ {A = ℕ} 0 1 = cc in omega arith) }

pub no_numbers : (list : List ℕ) → Holds (Some []) (Some 0) list
no_numbers list = held 0 list (omega arith) refl

module _ (word list : List ℕ) where
  pub holds : (n : ℕ) → n ≤ 64 → n ≤ length list → numbers_of (parts_of word) ≡ Some (take n list) → Holds (numbers_in word) (Some n) list
  unfolding numbers_in
  holds n h k e = held n list k (few_read list n h k e)

  pub holds_none : numbers_of (parts_of word) ≡ None → Holds (numbers_in word) None list
  unfolding numbers_in
  holds_none e = none_held list (ap few e)

  pub holds_few : (at n : ℕ) → n ≡ 64 → 64 ≤ length list → behind (take n list) (numbers_of (parts_of (drop at word))) ≡ numbers_of (parts_of word) → Holds (numbers_in word) None list
  unfolding numbers_in
  holds_few at n q h e =
      none_held list (too_many (drop at word) list h (ap (λ (m : ℕ). behind (take m list) (numbers_of (parts_of (drop at word)))) (sym q) ∙ e))

-- a dash, or numbers
module _ (word : List ℕ) (told : Bool) (e : told ≡ is_dash word) {r : Option ℕ} {list : List ℕ} where
  pub by_dash : told ≡ true → Holds (Some []) r list → Holds (offsets_in word) r list
  unfolding offsets_in
  by_dash q h = rw (sym e ∙ q) h

  pub by_numbers : told ≡ false → Holds (numbers_in word) r list → Holds (offsets_in word) r list
  unfolding offsets_in
  by_numbers q h = rw (sym e ∙ q) h
