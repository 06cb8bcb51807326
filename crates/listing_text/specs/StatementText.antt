-- One statement of a program as a line: its place, its four bytes, its name in document 01, and its fields as they apply.
use Rattle.std.specs.Prelude.{cond, List, [], ◌∷◌, ◌++◌, ℕ, ◌+◌, ◌/◌, ◌%◌, ltb, get_or}
use Prim.Native.String.{String}
use Rattle.model.specs.Reader.{byte, word}
use Rattle.text.specs.Words.{ascii, decimal, field}
use Rattle.text.specs.Columns.{column, signed_text}

-- a digit below 16, 0 to 9, then a to f; a byte as two of them
abbrev pub hex_digit : ℕ → ℕ
hex_digit d = cond (ltb d 10) (48 + d) (87 + d)

abbrev pub hex_byte : ℕ → List ℕ
hex_byte n = hex_digit (n / 16) ∷ hex_digit (n % 16) ∷ []

abbrev pub four_bytes : List ℕ → ℕ → List ℕ
four_bytes bs at = hex_byte (byte bs at) ++ hex_byte (byte bs (at + 1)) ++ hex_byte (byte bs (at + 2)) ++ hex_byte (byte bs (at + 3))

-- a field, and a second one or a signed number that belongs to it
abbrev pub two : String → ℕ → String → ℕ → List ℕ
two first a second k = field first a ++ field second k

abbrev pub bound : String → ℕ → ℕ → List ℕ
bound words a k = field words a ++ ascii ": " ++ signed_text k

-- The names by their op, 00 to 12 (hexadecimal), with the fields that document 01 names for each.
abbrev pub named : ℕ → ℕ → List (List ℕ)
named a k =
    ascii "sleep" ∷ bound "set variable " a k ∷ bound "add variable " a k ∷ ascii "done" ∷ field "send channel " a
    ∷ field "listen pairs " a ∷ two "pair channel " a " location " k ∷ field "age clock " a ∷ field "zero clock " a
    ∷ field "enter location " k ∷ ascii "trial" ∷ two "low clock " a ": " k ∷ two "high clock " a ": " k
    ∷ bound "data low variable " a k ∷ bound "data high variable " a k ∷ field "keep edge " k ∷ ascii "take"
    ∷ ascii "choose" ∷ field "budget " k ∷ []

abbrev pub no_statement : List ℕ
no_statement = ascii "no statement"

unfoldable pub statement_words : ℕ → ℕ → ℕ → List ℕ
unfolding decimal
statement_words op a k = get_or (named a k) op no_statement

-- "A statement is op (hexadecimal), a, k (2 bytes)": the one whose bytes start there
unfoldable pub statement_line : ℕ → List ℕ → ℕ → List ℕ
unfolding decimal statement_words
statement_line place bs at =
    column 6 (decimal place) ++ ascii " " ++ four_bytes bs at ++ ascii " "
    ++ statement_words (byte bs at) (byte bs (at + 1)) (word bs (at + 2)) ++ ascii "\n"
