-- A refusal in words: the number, the question that was asked, and the component.
use Rattle.std.specs.Prelude.{cond, List, [], ◌∷◌, ◌++◌, ℕ, eqb, get_or}
use Rattle.text.specs.Words.{ascii, decimal, field, refusal_line}

abbrev pub no_question : List ℕ
no_question = ascii "Does a question have this number?\n"

-- "Checks, in this order": the questions by their numbers. "Check 10 now concerns sends on one band only" (document 02, wish 2). 11 and 15 to 17 are
-- its question 11 in parts, as document 02's wish 3 tells them apart; 18 is of its wish 4, 19 and 20 of its wish 6: "A G above 1,000 is refused with 19
-- after 3, an offset above G with 20 after 14."; 21 of its wish 7: "An absent component or a tick from H on is refused with 21, after 12."; 22 and 23 of its
-- wish 10: "seed 0 is refused with 22, and lo above hi, hi above 60,000 or runs outside 1 to 10,000 with 23."; 24 of its wish 11: "21 as in Wish 7 comes
-- first, then 24 for a tick below its predecessor's"; 25 of its wish 12: "Tables with budgets are exported without them only if all are 0; any other is
-- refused with 25"; 26 to 28 of its wish 13: "a wrong place, or one filled when putting or empty when taking, is refused with 26; a different H with 27;
-- then a sum above the limit with 28"; 29 of its wish 14: "A horizon of 0, or one above H without such a pair, is refused with 29, after 12".
abbrev pub questions : List (List ℕ)
questions =
    no_question ∷ ascii "Is the first byte 1, 2 or 3?\n"
    ∷ ascii "Is the stated length the length handed in, from 7 to 8,192?\n"
    ∷ ascii "Are components, channels, horizon and bands in range?\n"
    ∷ ascii "Does each part fit its component and end exactly there?\n"
    ∷ ascii "Is every number in its range and every mask bit a clock?\n"
    ∷ ascii "Does no receive edge list a channel twice?\n"
    ∷ ascii "Are there at most 1,024 passages up to the horizon?\n"
    ∷ ascii "Is there an edge with a window of a tick's length, no shorter than its budget?\n"
    ∷ ascii "Does each update of the edge taken stay in range?\n"
    ∷ ascii "Do no two send windows of different components on one band share a tick?\n"
    ∷ ascii "Does a receive window on its channel share a tick with the send window?\n"
    ∷ ascii "Does no receive window share a tick with two sends on its channels?\n"
    ∷ ascii "Does the lent buffer hold the result?\n"
    ∷ ascii "Are there at most 1,000,000 choices?\n"
    ∷ ascii "Does only one receive window on its channel share a tick with the send?\n"
    ∷ ascii "Does the one receive window that meets the send start earlier than it?\n"
    ∷ ascii "Does the one receive window that meets the send end later than it?\n"
    ∷ ascii "Are the numbers in range and probes x (slot + 2 x guard) below the period?\n"
    ∷ ascii "Is the spread at most 1,000 ticks?\n"
    ∷ ascii "Is no offset above the spread?\n"
    ∷ ascii "Is the component there and the tick below the horizon?\n"
    ∷ ascii "Is the seed at least 1?\n"
    ∷ ascii "Is lo at most hi, hi at most 60,000, and are the runs 1 to 10,000?\n"
    ∷ ascii "Is no tick below that of the pair before it?\n"
    ∷ ascii "Are all budgets 0?\n"
    ∷ ascii "Is it a place 0 to 3, empty when putting, filled when taking?\n"
    ∷ ascii "Is the horizon that of the networks present?\n"
    ∷ ascii "Is the airtime in use with this network at most the limit?\n"
    ∷ ascii "Is the horizon at least 1, and at most the table's unless all comes again?\n"
    ∷ []

unfoldable pub question : ℕ → List ℕ
question number = get_or questions number no_question

-- 255 is no component
abbrev pub concern : ℕ → List ℕ
concern component =
    cond (eqb component 255) (ascii "No single component is concerned.\n") (field "Component " component ++ ascii " is concerned.\n")

unfoldable pub refusal_text : ℕ → ℕ → List ℕ
unfolding refusal_line question decimal
refusal_text number component = refusal_line number component ++ ascii "The answer is no: " ++ question number ++ concern component
