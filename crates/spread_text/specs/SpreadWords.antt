-- Document 02, wish 6, in words: nodes may wake up to a spread of G ticks apart. Where there is no spread, G = 0, nothing is said of it.
use Rattle.std.specs.Prelude.{cond, List, [], ◌++◌, ℕ, ◌+◌, ◌-◌, eqb}
use Prim.Native.String.{String}
use Rattle.text.specs.Words.{ascii, decimal, field}

-- so many ticks
abbrev pub ticks : ℕ → List ℕ
ticks n = decimal n ++ cond (eqb n 1) (ascii " tick") (ascii " ticks")

-- How many ticks a number is lacking to be more than G above another; none if it is (the law `lacking_least` in proofs/Margins.antt: it is the least
-- number that helps).
abbrev pub lacking : ℕ → ℕ → ℕ → ℕ
lacking G earlier later = (earlier + G + 1) - later

-- for which nodes a verdict is
abbrev pub spread_line : ℕ → List ℕ
spread_line G = cond (eqb G 0) [] (ascii "The nodes may wake up to " ++ ticks G ++ ascii " apart.\n")

-- "windows closer than or equal to G count as sharing a tick"
abbrev pub meeting_words : ℕ → List ℕ
meeting_words G = cond (eqb G 0) (ascii ", shares a tick with") (ascii ", is within " ++ ticks G ++ ascii " of")

abbrev pub near_words : ℕ → List ℕ
near_words G = cond (eqb G 0) (ascii "that share a tick with it:\n") (ascii "within " ++ ticks G ++ ascii " of it:\n")

-- "the listener must start more than G earlier and end more than G later": it does, or so many ticks are lacking
abbrev pub start_margin : ℕ → List ℕ
start_margin lack = cond (eqb lack 0) (ascii ": starts early enough,") (ascii ": starts " ++ ticks lack ++ ascii " too late,")

abbrev pub end_margin : ℕ → List ℕ
end_margin lack = cond (eqb lack 0) (ascii " ends late enough\n") (ascii " ends " ++ ticks lack ++ ascii " too soon\n")

-- a tick from which it is so far
abbrev pub away : String → ℕ → String → ℕ → List ℕ
away before G after tick = ascii before ++ ticks G ++ ascii after ++ decimal tick

-- the first and the last tick of a listener
abbrev pub from_words : ℕ → ℕ → List ℕ
from_words G tick = cond (eqb G 0) (field "from before tick " tick) (away "from more than " G " before tick " tick)

abbrev pub until_words : ℕ → ℕ → List ℕ
until_words G tick = cond (eqb G 0) (field "until after tick " tick) (away "until more than " G " after tick " tick)

abbrev pub listen_words : ℕ → ℕ → ℕ → List ℕ
listen_words G ready end = from_words G ready ++ ascii " " ++ until_words G end

-- the ticks in which nobody else may listen
abbrev pub around_words : ℕ → ℕ → ℕ → List ℕ
around_words G ready end =
    cond (eqb G 0) (field " in ticks " ready ++ field " to " end) (away " from " G " before tick " ready ++ away " to " G " after tick " end)
