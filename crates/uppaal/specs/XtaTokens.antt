-- The words of a text in UPPAAL's textual form: names and words of the tool, numbers, signs. Longest first; blanks and comments between them.
use Rattle.std.specs.Prelude.{Bool, true, false, cond, ◌&&◌, ◌||◌, List, [], ◌∷◌, ◌++◌, ℕ, ◌+◌, ◌-◌, ◌*◌, leb, eqb}
use Rattle.std.proofs.Math.Option.{Option, none, some}
use Rattle.model.specs.Lists.{any, snoc}
use Rattle.words.specs.Words.{ascii}

pub data Token : Type 0 where
  word : List ℕ → Token
  number : ℕ → Token
  sign : List ℕ → Token

abbrev pub same_bytes : List ℕ → List ℕ → Bool
same_bytes [] [] = true
same_bytes [] (c ∷ cs) = false
same_bytes (b ∷ bs) [] = false
same_bytes (b ∷ bs) (c ∷ cs) = eqb b c && same_bytes bs cs

-- ## Bytes

abbrev pub is_digit : ℕ → Bool
is_digit b = leb 48 b && leb b 57

-- a letter, large or small, or an underscore
abbrev pub is_letter : ℕ → Bool
is_letter b = (leb 65 b && leb b 90) || ((leb 97 b && leb b 122) || eqb b 95)

-- a blank, or the end of a line, or a tab
abbrev pub is_blank : ℕ → Bool
is_blank b = eqb b 32 || (eqb b 10 || (eqb b 9 || eqb b 13))

-- no sign goes on behind it
abbrev pub is_whole_sign : ℕ → Bool
is_whole_sign b = any (eqb b) (ascii "{}()[],;?.~^%")

-- a sign, which may go on
abbrev pub is_sign : ℕ → Bool
is_sign b = any (eqb b) (ascii "-<>=:&!|+*/")

-- the signs of two bytes
abbrev pub pairs : List (List ℕ)
pairs =
    ascii "->" ∷ ascii "<=" ∷ ascii ">=" ∷ ascii "==" ∷ ascii ":=" ∷ ascii "&&" ∷ ascii "!=" ∷ ascii "||" ∷ ascii "++" ∷ ascii "--" ∷ ascii "+=" ∷ ascii "-=" ∷ ascii "*="
    ∷ ascii "/=" ∷ ascii "|=" ∷ ascii "&=" ∷ ascii "<<" ∷ ascii ">>" ∷ ascii "<?" ∷ ascii ">?" ∷ []

abbrev pub is_pair : ℕ → ℕ → Bool
is_pair a b = any (same_bytes (a ∷ b ∷ [])) pairs

-- ## A byte at a time

pub data Stage : Type 0 where
  between : Stage
  in_word : List ℕ → Stage
  in_number : ℕ → Stage
  in_sign : ℕ → Stage
  -- a comment to the end of its line; one to its closing sign, whether its last byte was a star
  in_line : Stage
  in_comment : Bool → Stage
  -- a byte that begins no word
  lost : Stage

-- the words that a byte completes, and where it leads
pub record Turn : Type 0 where
  pub words : List Token
  pub stage : Stage

abbrev pub to : Stage → Turn
to s = record { words = []; stage = s }

abbrev pub behind : Token → Turn → Turn
behind t u = record { words = t ∷ u.words; stage = u.stage }

-- what a byte begins
abbrev pub begins : ℕ → Turn
begins b =
    cond (is_blank b) (to between)
    (cond (is_letter b) (to (in_word (b ∷ [])))
    (cond (is_digit b) (to (in_number (b - 48))) (cond (is_whole_sign b) (behind (sign (b ∷ [])) (to between)) (cond (is_sign b) (to (in_sign b)) (to lost)))))

-- "//" and "/*" begin a comment
abbrev pub goes_on : ℕ → ℕ → Turn
goes_on a b =
    cond (eqb a 47 && eqb b 47) (to in_line)
    (cond (eqb a 47 && eqb b 42) (to (in_comment false)) (cond (is_pair a b) (behind (sign (a ∷ b ∷ [])) (to between)) (behind (sign (a ∷ [])) (begins b))))

abbrev pub turn : Stage → ℕ → Turn
turn between b = begins b
turn (in_word w) b = cond (is_letter b || is_digit b) (to (in_word (snoc w b))) (behind (word w) (begins b))
turn (in_number n) b = cond (is_digit b) (to (in_number (n * 10 + (b - 48)))) (behind (number n) (begins b))
turn (in_sign a) b = goes_on a b
turn in_line b = cond (eqb b 10) (to between) (to in_line)
turn (in_comment star) b = cond (star && eqb b 47) (to between) (to (in_comment (eqb b 42)))
turn lost b = to lost

unfoldable pub stage_after : Stage → List ℕ → Stage
stage_after s [] = s
stage_after s (b ∷ bs) = stage_after (turn s b).stage bs

unfoldable pub words_from : Stage → List ℕ → List Token
words_from s [] = []
words_from s (b ∷ bs) = (turn s b).words ++ words_from (turn s b).stage bs

-- the end of the text ends a word; none where a byte begins none, or a comment is not closed
abbrev pub ended : Stage → List Token → Option (List Token)
ended between ts = some ts
ended (in_word w) ts = some (snoc ts (word w))
ended (in_number n) ts = some (snoc ts (number n))
ended (in_sign a) ts = some (snoc ts (sign (a ∷ [])))
ended in_line ts = some ts
ended (in_comment star) ts = none
ended lost ts = none

unfoldable pub tokens : List ℕ → Option (List Token)
unfolding stage_after words_from
tokens bytes = ended (stage_after between bytes) (words_from between bytes)
