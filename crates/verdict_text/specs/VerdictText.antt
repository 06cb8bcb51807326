-- A verdict in words: a refusal in words, after 4 to 6 the place in the bytes at which the reader stopped, after 7 to 9 the opening at which the
-- schedule stopped, and after 10 to 12 and 15 to 17 which windows met; where a send is not heard well, also the remedy. G is the spread, 0 where there
-- is none.
use Rattle.std.specs.Prelude.{Bool, cond, ◌&&◌, ◌||◌, List, [], ◌∷◌, ◌++◌, map, ℕ, ◌+◌, eqb, leb, ltb, length, get_or}
use Rattle.model.specs.declared.Verdict.{Verdict}
use Rattle.model.specs.declared.Verdict.TheVariants.{Accepted, Refused}
use Rattle.model.specs.Lists.{or_else, each}
use Rattle.model.specs.Reader.{byte}
use Rattle.model.specs.Schedule.{Passage}
use Rattle.model.specs.Calls.{check_call_at, check_call}
use Rattle.model.specs.Meetings.{meetings_in_at, meetings_in}
use Rattle.refusal_place.specs.Walk.{place_of}
use Rattle.opening_place.specs.Opening.{opening_of}
use Rattle.text.specs.Words.{ascii, decimal, field, told}
use Rattle.refusal_text.specs.RefusalText.{refusal_text}
use Rattle.place_text.specs.PlaceText.{place_text}
use Rattle.opening_text.specs.OpeningText.{opening_text}
use Rattle.spread_text.specs.SpreadWords.{ticks, lacking, spread_line, meeting_words, near_words, start_margin, end_margin, until_words, listen_words, around_words}

-- ## The windows that met

-- a passage's component, edge, window and, for a send, channel
pub record Met : Type 0 where
  pub component : ℕ
  pub edge : ℕ
  pub ready : ℕ
  pub end : ℕ
  pub channel : ℕ

abbrev pub met_of : Passage → Met
met_of v = record { component = v.component; edge = v.edge; ready = v.ready; end = v.end; channel = or_else v.message 255 }

abbrev pub place_words : Met → List ℕ
place_words w = field "component " w.component ++ field ", edge " w.edge

abbrev pub window_words : Met → List ℕ
window_words w = field ", ticks " w.ready ++ field " to " w.end

abbrev pub send_words : Met → List ℕ
send_words w = field ", channel " w.channel ++ window_words w

-- the window at fault, and what the lines after it are
abbrev pub receive_fault : ℕ → Met → List ℕ
receive_fault G w =
    ascii "The receive window of " ++ place_words w ++ window_words w ++ meeting_words G ++ ascii " these send windows on its channels:\n"

abbrev pub fault_end : ℕ → ℕ → List ℕ
fault_end G number =
    cond (eqb number 10) (meeting_words G ++ ascii " these send windows:\n")
    (ascii ".\nReceive windows of other components on its channel " ++ near_words G)

abbrev pub send_fault : ℕ → ℕ → Met → List ℕ
send_fault G number w = ascii "The send window of " ++ place_words w ++ send_words w ++ fault_end G number

abbrev pub fault_text : ℕ → ℕ → Met → List ℕ
fault_text G number w = cond (eqb number 12) (receive_fault G w) (send_fault G number w)

-- A window that was met. At a spread it is told how many ticks the one of the two that is ready later would have to be moved, to be ready more than
-- G ticks after the end of the other (the laws `still_near` and `fault_still_near` in proofs/Margins.antt).
abbrev pub too_close : ℕ → Met → Met → ℕ
too_close G v w = cond (leb v.ready w.ready) (lacking G v.end w.ready) (lacking G w.end v.ready)

abbrev pub close_words : ℕ → Met → Met → List ℕ
close_words G fault w = cond (eqb G 0) [] (ascii ": " ++ ticks (too_close G fault w) ++ ascii " too close")

abbrev pub send_line : ℕ → Met → Met → List ℕ
send_line G fault w = ascii "  " ++ place_words w ++ ascii ", a send window" ++ send_words w ++ close_words G fault w ++ ascii "\n"

abbrev pub start_words : ℕ → Met → Met → List ℕ
start_words G sent w =
    cond (eqb G 0) (cond (ltb w.ready sent.ready) (ascii ": starts earlier,") (ascii ": starts with the send or later,"))
    (start_margin (lacking G w.ready sent.ready))

abbrev pub end_words : ℕ → Met → Met → List ℕ
end_words G sent w =
    cond (eqb G 0) (cond (ltb sent.end w.end) (ascii " ends later\n") (ascii " ends with the send or earlier\n"))
    (end_margin (lacking G sent.end w.end))

abbrev pub receive_words : Met → List ℕ
receive_words w = ascii "  " ++ place_words w ++ ascii ", a receive window" ++ window_words w

abbrev pub listener_line : ℕ → Met → Met → List ℕ
listener_line G sent w = receive_words w ++ start_words G sent w ++ end_words G sent w

-- sends are met after 10 and 12, listeners after 11 and 15 to 17
unfoldable pub met_line : ℕ → ℕ → Met → Met → List ℕ
unfolding decimal
met_line G number fault w = cond (eqb number 10 || eqb number 12) (send_line G fault w) (listener_line G fault w)

abbrev pub met_lines : ℕ → ℕ → Met → List Met → List ℕ
met_lines G number fault [] = ascii "  none\n"
met_lines G number fault (w ∷ ws) = each (met_line G number fault) (w ∷ ws)

-- The remedy for a send that is not heard well: who must listen, earlier, longer or not at all. 11: nobody does.
abbrev pub nobody_remedy : ℕ → Met → List ℕ
nobody_remedy G sent =
    field "Remedy: another component must listen on channel " sent.channel ++ ascii ", " ++ listen_words G sent.ready sent.end ++ ascii ".\n"

-- 15: several do
abbrev pub several_remedy : ℕ → Met → List ℕ
several_remedy G sent =
    field "Remedy: all of them but one must not listen on channel " sent.channel ++ around_words G sent.ready sent.end ++ ascii ".\n"

-- 16: the one that does starts too late; it may end too soon as well
abbrev pub late_remedy : ℕ → Met → Met → List ℕ
late_remedy G sent w =
    (ascii "Remedy: " ++ place_words w) ++ ascii ", must listen earlier: " ++ listen_words G sent.ready sent.end ++ ascii ".\n"

-- 17: it ends too soon
abbrev pub early_remedy : ℕ → Met → Met → List ℕ
early_remedy G sent w = (ascii "Remedy: " ++ place_words w) ++ ascii ", must listen longer: " ++ until_words G sent.end ++ ascii ".\n"

abbrev pub listener_remedy : ℕ → ℕ → Met → Met → List ℕ
listener_remedy G number sent w =
    cond (eqb number 15) (several_remedy G sent) (cond (eqb number 16) (late_remedy G sent w) (cond (eqb number 17) (early_remedy G sent w) []))

-- by the number, with the windows that the send meets
unfoldable pub remedy_text : ℕ → ℕ → Met → List Met → List ℕ
unfolding decimal
remedy_text G number sent [] = cond (eqb number 11) (nobody_remedy G sent) []
remedy_text G number sent (w ∷ ws) = listener_remedy G number sent w

-- the window at fault, then those that it meets, then the remedy; nothing where none is at fault
unfoldable pub meetings_text : ℕ → ℕ → List Met → List ℕ
unfolding decimal met_line remedy_text each
meetings_text G number [] = []
meetings_text G number (fault ∷ ws) = fault_text G number fault ++ met_lines G number fault ws ++ remedy_text G number fault ws

-- After 10, in version 2, the band of the send at fault: the byte of its channel behind the header (`Places.Located.band`). Those that it meets are
-- on the same band.
abbrev pub band_told : List ℕ → ℕ → ℕ → Bool
band_told table number channel = eqb number 10 && ltb (7 + channel) (length table) && leb 2 (byte table 0)

abbrev pub band_line : List ℕ → ℕ → ℕ → List ℕ
band_line table number channel = cond (band_told table number channel) (field "On band " (byte table (7 + channel)) ++ ascii ":\n") []

unfoldable pub band_text : List ℕ → ℕ → List Met → List ℕ
unfolding decimal
band_text table number [] = []
band_text table number (fault ∷ ws) = band_line table number fault.channel

-- ## Where the check stopped

-- 4 to 6 stop at a place in the bytes, 7 to 9 at an opening (the laws `place_of_verdict` and `opening_of_verdict` in verdict_printer, proofs/Stops.antt:
-- its number and its component are those of the verdict)
unfoldable pub stop_text : List ℕ → ℕ → List ℕ
unfolding place_of place_text opening_of opening_text
stop_text table number =
    cond (ltb number 4) [] (cond (ltb number 7) (place_text (place_of table)) (cond (ltb number 10) (opening_text (opening_of table)) []))

-- ## The whole text, for any bytes

abbrev pub verdict_with : ℕ → List ℕ → Verdict → List Passage → List ℕ
verdict_with G table Accepted M = ascii "accepted\n" ++ spread_line G
verdict_with G table (Refused number component) M =
    refusal_text number component ++ spread_line G ++ stop_text table number ++ band_text table number (map met_of M) ++ meetings_text G number (map met_of M)

-- at a spread
unfoldable pub verdict_text_at : ℕ → List ℕ → List ℕ
unfolding check_call_at meetings_in_at refusal_text stop_text band_text meetings_text
verdict_text_at G table = verdict_with G table (check_call_at G table) (meetings_in_at G table)

-- without one
unfoldable pub verdict_text : List ℕ → List ℕ
unfolding check_call meetings_in refusal_text stop_text band_text meetings_text
verdict_text table = verdict_with 0 table (check_call table) (meetings_in table)

-- ## From the seven numbers of a passage

abbrev pub met_at : List ℕ → Met
met_at list = record { component = get_or list 0 0; edge = get_or list 1 0; ready = get_or list 4 0; end = get_or list 5 0; channel = get_or list 6 0 }

abbrev pub mets_of : List ℕ → ℕ → List Met
mets_of list n = told 7 met_at list n
