-- Numbers read from their decimal digits: those that `Words.decimal` writes are read back (the law `read_back` in proofs/Reading.antt).
use Rattle.std.specs.Prelude.{cond, List, [], ◌∷◌, ℕ, ◌+◌, ◌*◌, ◌-◌, ltb, Option, None, Some}
use Rattle.std.specs.Char.{is_ascii_digit}

-- what digits are worth behind those that are worth so much; none where a byte is no digit
unfoldable pub worth : ℕ → List ℕ → Option ℕ
worth before [] = Some before
worth before (byte ∷ bytes) = cond (is_ascii_digit byte) (worth (before * 10 + (byte - 48)) bytes) None

-- a number of 32 bits
abbrev pub fitting : Option ℕ → Option ℕ
fitting None = None
fitting (Some n) = cond (ltb n 4294967296) (Some n) None

abbrev pub read_on : ℕ → List ℕ → Option ℕ
read_on before bytes = fitting (worth before bytes)

-- some digits and nothing else
unfoldable pub number_of : List ℕ → Option ℕ
unfolding worth
number_of [] = None
number_of (byte ∷ bytes) = read_on 0 (byte ∷ bytes)
