-- What is printed of a table: its text for UPPAAL, or the line of its refusal; 13 where the text has more bytes than the program has room for.
use Rattle.std.specs.Prelude.{◌≡◌, refl, cond, List, [], ℕ, leb, length}
use Rattle.model.specs.Lists.{Answer, accepted, refused}
use Rattle.text.specs.Words.{ascii, refusal_line}
use Rattle.uppaal.specs.UppaalCall.{uppaal_in}

abbrev pub text_or : ℕ → Answer (List ℕ) → List ℕ
text_or room (accepted text) = cond (leb (length text) room) text (refusal_line 13 255)
text_or room (refused number component) = refusal_line number component

-- for any bytes
unfoldable pub printed_text : ℕ → List ℕ → List ℕ
unfolding uppaal_in refusal_line
printed_text room table = text_or room (uppaal_in table)

pub refused_text : printed_text 64 [] ≡ ascii "refused 1 255\n"
unfolding printed_text
refused_text = refl
