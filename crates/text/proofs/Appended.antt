-- Words after words. Assumes nothing.
use mathlib.Core.Path.{◌≡◌, refl, sym, ap, ◌∙◌}
use mathlib.Core.List.{List, [], ◌∷◌, ◌++◌, append_assoc, append-nil}
use Prim.Native.Nat.{ℕ, zero, suc, ◌+◌, ◌≤◌, ◌<◌}
use native.Mathlib.Nat.{le_of_suc-le-suc, not-suc-le-zero, add-suc}
use native.Mathlib.Numerals.{add-one}
use lib.ListN.{length, get_or, set, take}
use lib.Seq.{take-suc, length-take-le}
use Rattle.text.specs.Words.{Added}

-- two runs of words are one
pub next : {before between after first second : List ℕ} {at middle end : ℕ} → Added before at first between middle → Added between middle second after end
    → Added before at (first ++ second) after end
next {before} {first = first} {second = second} {at = at} e f =
    record { text = f.text ∙ ap (λ (l : List ℕ). l ++ second) e.text ∙ append_assoc (take at before) first second }

-- no words
pub nothing : (before : List ℕ) (at : ℕ) → Added before at [] before at
nothing before at = record { text = sym (append-nil (take at before)) }

-- other words that are the same
pub same_words : {before words after : List ℕ} {at end : ℕ} (others : List ℕ) → Added before at words after end → words ≡ others → Added before at others after end
same_words {before} {at = at} others a e = record { text = a.text ∙ ap (λ (w : List ℕ). take at before ++ w) e }

-- one byte more
take_set : (out : List ℕ) (at b : ℕ) → at < length out → take (suc at) (set out at b) ≡ take at out ++ (b ∷ [])
take_set [] at b h = absurd (not-suc-le-zero h)
take_set (x ∷ out) zero b h = refl
take_set (x ∷ out) (suc at) b h = ap (λ (l : List ℕ). x ∷ l) (take_set out at b (le_of_suc-le-suc h))

-- a turn: so many of the words stand there, and one more is written
pub put_turn : (before out words : List ℕ) (at i : ℕ) → at + i < length out → i < length words → take (at + i) out ≡ take at before ++ take i words
    → take (at + (i + 1)) (set out (at + i) (get_or words i 0)) ≡ take at before ++ take (i + 1) words
put_turn before out words at i h k e =
    rw (add-one, add-suc)
    (take_set out (at + i) (get_or words i 0) h ∙ ap (λ (l : List ℕ). l ++ (get_or words i 0 ∷ [])) e
    ∙ append_assoc (take at before) (take i words) (get_or words i 0 ∷ [])
    ∙ ap (λ (l : List ℕ). take at before ++ l) (sym (take-suc words i 0 k)))

-- what a call that lends the front asks
pub counts : (n : ℕ) (out : List ℕ) → n ≤ length out → (n ≤ length out) × (n ≡ length (take n out))
counts n out h = (h, sym (length-take-le n out h))
