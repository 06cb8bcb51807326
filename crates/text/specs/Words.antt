-- Texts as bytes: ASCII, and numbers in decimal (`words/specs/Words`); fields, lines, and words added to others.
use Rattle.std.specs.Prelude.{◌≡◌, List, [], ◌∷◌, ◌++◌, ℕ, zero, suc, take, drop}
use Prim.Native.String.{String}
pub use Rattle.words.specs.Words.{ascii, digit}
unfoldable pub use Rattle.words.specs.Words.{numeral, decimal}

-- a text and a number
abbrev pub field : String → ℕ → List ℕ
field words n = ascii words ++ decimal n

-- so many things from the front of a list on, each told by so many numbers
unfoldable pub told : {A : Type 0} → ℕ → (List ℕ → A) → List ℕ → ℕ → List A
told width tell list zero = []
told width tell list (suc n) = tell list ∷ told width tell (drop width list) n

-- "For a refusal it prints `refused`, number, component."
unfoldable pub refusal_line : ℕ → ℕ → List ℕ
unfolding decimal
refusal_line number component = field "refused " number ++ field " " component ++ ascii "\n"

-- Words are added after the first `at` bytes: up to `end` stands now what stood up to `at`, then these words.
pub record Added (before : List ℕ) (at : ℕ) (words after : List ℕ) (end : ℕ) : Type 0 where
  pub text : take end after ≡ take at before ++ words
