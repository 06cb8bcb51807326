-- Numbered names and single locations, as they are written. Assumes nothing.
use mathlib.Core.Path.{◌≡◌, refl, sym, ap, ◌∙◌}
use mathlib.Core.List.{List, [], ◌++◌, append_assoc, append-nil}
use Prim.Native.Nat.{ℕ, zero, suc, ◌-◌, ◌≤◌}
use Prim.Native.String.{String}
use native.Mathlib.Numerals.{sub-one}
use native.Mathlib.Omega.{arith}
use Rattle.model.specs.declared.Location.{Location}
use Rattle.model.specs.Lists.{each, from}
use Rattle.words.specs.Words.{ascii, decimal}
use Rattle.uppaal.specs.XtaText.{field, each_after, listed, declared, location_text}
use Rattle.uppaal_text.specs.Texts.{further_name, names_text, plain_text}

pub names_none : (before letter : List ℕ) (n : ℕ) → n ≡ 0 → [] ≡ names_text before letter n
unfolding names_text
names_none before letter n e = sym (ap (names_text before letter) e)

pub names_some : (before letter : List ℕ) (n : ℕ) → (n ≡ 0 → ⊥) → before ++ (letter ++ decimal 0 ++ (each (further_name letter) (from 1 (n - 1)) ++ ascii ";\n")) ≡ names_text before letter n
unfolding names_text
names_some before letter zero h = absurd (h refl)
names_some before letter (suc n) h = rw sub-one

-- they are declared so
pub names_told : (before letter : String) (n : ℕ) → names_text (ascii before) (ascii letter) n ≡ declared before letter n
unfolding names_text declared listed each_after
names_told before letter zero = refl
names_told before letter (suc n) =
    let F = each_after ", " (field letter) (from 1 n) in
    ap (λ (l : List ℕ). ascii before ++ l) (sym (append_assoc (field letter 0) F (ascii ";\n"))) ∙ sym (append_assoc (ascii before) (field letter 0 ++ F) (ascii ";\n"))

pub location_told : (n : ℕ) (l : Location)
    → ascii ",\n  L" ++ decimal n ++ (ascii " { x" ++ decimal l.clock ++ (ascii " <= " ++ decimal l.bound ++ ascii " }")) ≡ plain_text n l
unfolding location_text listed each_after each
location_told n l =
    let x = field "x" l.clock in
    let b = field " <= " l.bound in
    ap (λ (z : List ℕ). ascii ",\n  L" ++ decimal n ++ (ascii " { " ++ z)) (sym (append_assoc x b (ascii " }")) ∙ ap (λ (z : List ℕ). z ++ ascii " }") (sym (append-nil (x ++ b))))

pub positive : (n : ℕ) → (n ≡ 0 → ⊥) → 1 ≤ n
positive zero h = absurd (h refl)
positive (suc n) h = omega arith
