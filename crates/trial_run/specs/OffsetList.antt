-- The offsets as a word: at most 64 numbers joined by commas, or - for none.
use Rattle.std.specs.Prelude.{◌≡◌, Bool, false, cond, List, [], ◌∷◌, ℕ, suc, leb, ltb, eqb, length, take, drop, Option, None, Some}
use Rattle.io.specs.Counts.{IsPrefixLen}
use Rattle.text.specs.Numbers.{number_of}

-- ## The parts of a word

-- what stands between the commas: one part more than there are commas
abbrev pub onto : ℕ → List (List ℕ) → List (List ℕ)
onto byte [] = []
onto byte (part ∷ parts) = (byte ∷ part) ∷ parts

unfoldable pub parts_of : List ℕ → List (List ℕ)
parts_of [] = [] ∷ []
parts_of (byte ∷ bytes) = cond (eqb byte 44) ([] ∷ parts_of bytes) (onto byte (parts_of bytes))

-- up to a comma, and what is behind it; up to the end, and nothing
abbrev pub split_at : ℕ → List ℕ → List (List ℕ)
split_at i word = take i word ∷ cond (ltb i (length word)) (parts_of (drop (suc i) word)) []

-- ## The numbers that they are

abbrev pub before : Option ℕ → Option (List ℕ) → Option (List ℕ)
before None rest = None
before (Some n) None = None
before (Some n) (Some ns) = Some (n ∷ ns)

-- each part a number
unfoldable pub numbers_of : List (List ℕ) → Option (List ℕ)
unfolding number_of
numbers_of [] = Some []
numbers_of (part ∷ parts) = before (number_of part) (numbers_of parts)

abbrev pub few : Option (List ℕ) → Option (List ℕ)
few None = None
few (Some ns) = cond (leb (length ns) 64) (Some ns) None

unfoldable pub numbers_in : List ℕ → Option (List ℕ)
unfolding parts_of numbers_of
numbers_in word = few (numbers_of (parts_of word))

abbrev pub is_dash : List ℕ → Bool
is_dash [] = false
is_dash (byte ∷ []) = eqb byte 45
is_dash (byte ∷ next ∷ bytes) = false

unfoldable pub offsets_in : List ℕ → Option (List ℕ)
unfolding numbers_in
offsets_in word = cond (is_dash word) (Some []) (numbers_in word)

-- ## The answer

abbrev pub told_by : Option ℕ → List ℕ → Option (List ℕ)
told_by (Some n) list = Some (take n list)
told_by None list = None

-- the numbers stand at the front of the list that was lent
pub record Holds (numbers : Option (List ℕ)) (r : Option ℕ) (list : List ℕ) : Type 0 where
  pub read : numbers ≡ told_by r list
  pub counts : (n : ℕ) → r ≡ Some n → IsPrefixLen n list
