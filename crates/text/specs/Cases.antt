-- Numbers in decimal, written and read, computed.
use Rattle.std.specs.Prelude.{◌≡◌, refl, [], ◌∷◌, ◌++◌, map, None, Some}
use Rattle.text.specs.Words.{ascii, decimal}
use Rattle.text.specs.Numbers.{number_of}

-- numbers of one, five and ten digits
pub numbers : decimal 0 ++ ascii " " ++ decimal 60000 ++ ascii " " ++ decimal 4294967295 ≡ ascii "0 60000 4294967295"
unfolding decimal
numbers = refl

-- Words read as numbers: zeros in front change nothing, the largest has 32 bits, and an empty word, a sign, a blank or a comma is no number.
pub words_read : map number_of (ascii "0" ∷ ascii "007" ∷ ascii "60000" ∷ ascii "4294967295" ∷ [])
    ≡ (Some 0 ∷ Some 7 ∷ Some 60000 ∷ Some 4294967295 ∷ [])
unfolding number_of
words_read = refl

pub words_not_read : map number_of (ascii "" ∷ ascii "4294967296" ∷ ascii "-1" ∷ ascii "1 " ∷ ascii "1,2" ∷ ascii "/" ∷ ascii ":" ∷ [])
    ≡ (None ∷ None ∷ None ∷ None ∷ None ∷ None ∷ None ∷ [])
unfolding number_of
words_not_read = refl
