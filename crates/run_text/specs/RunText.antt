-- A run in words: how it ended, the tick and the choices used, and the observations as a table; of nodes that wake apart also their offsets.
use Rattle.std.specs.Prelude.{cond, List, [], ◌∷◌, ◌++◌, map, ℕ, ◌+◌, ◌*◌, ltb, eqb, length, get_or}
use Rattle.model.specs.declared.End.{End}
use Rattle.model.specs.declared.End.TheVariants.{Horizon, UsedUp, Late, NotAllowed}
use Rattle.model.specs.declared.Verdict.{Verdict}
use Rattle.model.specs.declared.Verdict.TheVariants.{Accepted, Refused}
use Rattle.model.specs.Lists.{each, below}
use Rattle.model.specs.Reader.{byte}
use Rattle.model.specs.Run.{offset_in, no_work, observation_width}
use Rattle.model.specs.Calls.{RunCall, run_call, offsets_fine, run_call_at}
use Rattle.text.specs.Words.{ascii, decimal, field, told}
use Rattle.text.specs.Columns.{column, signed_text}
use Rattle.refusal_text.specs.RefusalText.{refusal_text}

-- ## An observation of 36 bytes

abbrev pub long : List ℕ → ℕ → ℕ
long bytes at = ((get_or bytes at 0 * 256 + get_or bytes (at + 1) 0) * 256 + get_or bytes (at + 2) 0) * 256 + get_or bytes (at + 3) 0

abbrev pub word : List ℕ → ℕ → ℕ
word bytes at = get_or bytes at 0 * 256 + get_or bytes (at + 1) 0

-- component, edge, location; tick and four clocks; four variables
abbrev pub place_columns : List ℕ → List ℕ
place_columns o = column 4 (decimal (get_or o 0 0)) ++ column 5 (decimal (get_or o 1 0)) ++ column 9 (decimal (get_or o 2 0))

abbrev pub tick_columns : List ℕ → List ℕ
tick_columns o = column 6 (decimal (long o 4)) ++ column 6 (decimal (long o 8)) ++ column 6 (decimal (long o 12))

abbrev pub time_columns : List ℕ → List ℕ
time_columns o = tick_columns o ++ column 6 (decimal (long o 16)) ++ column 6 (decimal (long o 20))

abbrev pub value_columns : List ℕ → List ℕ
value_columns o =
    column 7 (signed_text (word o 24)) ++ column 7 (signed_text (word o 26)) ++ column 7 (signed_text (word o 28))
    ++ column 7 (signed_text (word o 30))

-- when the node's previous work finished, - where it has none
abbrev pub finish_text : ℕ → List ℕ
finish_text tick = cond (eqb tick no_work) (column 9 (ascii "-")) (column 9 (decimal tick))

unfoldable pub observation_line : List ℕ → List ℕ
unfolding decimal
observation_line o = place_columns o ++ time_columns o ++ value_columns o ++ finish_text (long o 32) ++ ascii "\n"

-- so many observations from the front on
unfoldable pub observation_lines : List ℕ → ℕ → List ℕ
unfolding observation_line told each
observation_lines bytes n = each observation_line (told observation_width (λ o. o) bytes n)

abbrev pub first_line : List ℕ
first_line = ascii "node edge location  tick    x0    x1    x2    x3     v0     v1     v2     v3 finished\n"

-- ## The run

-- "0 horizon, 1 choices used up, 2 late, 3 choice not allowed"; the choice not allowed is the first that was not carried out
abbrev pub not_allowed : List ℕ → ℕ → List ℕ
not_allowed choices used =
    field "choice not allowed: number " used ++ cond (ltb used (length choices)) (field ", byte " (get_or choices used 0)) []

abbrev pub end_text : End → List ℕ → ℕ → List ℕ
end_text Horizon choices used = ascii "horizon reached"
end_text UsedUp choices used = ascii "choices used up"
end_text (Late node) choices used = field "late: node " node
end_text NotAllowed choices used = not_allowed choices used

abbrev pub counts_text : ℕ → ℕ → ℕ → List ℕ
counts_text tick used size =
    field "\ntick " tick ++ field ", choices used " used ++ field ", observations " size ++ ascii "\n"

abbrev pub ran_text : Verdict → RunCall → List ℕ → List ℕ
ran_text (Refused number component) r choices = refusal_text number component
ran_text Accepted r choices =
    end_text r.end choices r.used ++ counts_text r.tick r.used r.size ++ first_line
    ++ observation_lines r.lent r.size

-- for any bytes and choices, and the bytes lent for the observations
unfoldable pub run_text : List ℕ → List ℕ → List ℕ → List ℕ
unfolding run_call decimal refusal_text observation_lines
run_text table choices lent = ran_text (run_call table choices lent).verdict (run_call table choices lent) choices

-- ## The run of nodes that wake apart

-- numbers with commas between
abbrev pub listed : List ℕ → List ℕ
listed [] = []
listed (n ∷ ns) = decimal n ++ each (field ", ") ns

-- Document 02, wish 6: the run takes "an offset for each node", 0 where none is handed in, and "Observations carry the node's own clock". So the
-- offsets are told where one of them is above 0.
unfoldable pub offsets_text : ℕ → List ℕ → List ℕ
unfolding offsets_fine decimal each
offsets_text nodes offsets =
    cond (offsets_fine 0 nodes offsets) []
    (ascii "offsets: " ++ listed (map (offset_in offsets) (below nodes)) ++ ascii " (a node's tick is by its own clock, which starts at its offset)\n")

abbrev pub ran_text_at : ℕ → List ℕ → Verdict → RunCall → List ℕ → List ℕ
ran_text_at nodes offsets (Refused number component) r choices = refusal_text number component
ran_text_at nodes offsets Accepted r choices =
    end_text r.end choices r.used ++ counts_text r.tick r.used r.size ++ offsets_text nodes offsets ++ first_line
    ++ observation_lines r.lent r.size

-- The same at a spread G: one offset is told for each node of the table, whose number is its byte 3. Without a spread and without offsets it is the
-- text above (the law `text_together` in proofs/Together.antt).
unfoldable pub run_text_at : ℕ → List ℕ → List ℕ → List ℕ → List ℕ → List ℕ
unfolding run_call_at decimal refusal_text observation_lines offsets_text
run_text_at G table offsets choices lent =
    ran_text_at (byte table 3) offsets (run_call_at G table offsets choices lent).verdict (run_call_at G table offsets choices lent) choices
