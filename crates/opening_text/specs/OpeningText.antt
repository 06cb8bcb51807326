-- The opening at which the schedule stops in words: which passage it would be, how its location is entered, and why it is refused.
use Rattle.std.specs.Prelude.{cond, List, ◌++◌, ℕ, eqb}
use Rattle.text.specs.Words.{ascii, decimal, field}
use Rattle.opening_place.specs.declared.RefusedOpening.{RefusedOpening}

-- 7: there is no room for the passage, so the location is not entered
abbrev pub enters_words : ℕ → List ℕ
enters_words number = cond (eqb number 7) (ascii ": it would enter location ") (ascii ": it enters location ")

abbrev pub entry_words : RefusedOpening → List ℕ
entry_words o = field "Component " o.component ++ field ", passage " o.passage ++ enters_words o.number ++ decimal o.location ++ field " at tick " o.tick

-- 8: of the edges that leave the location each has one of the two reasons (the law in opening_place, proofs/Why.antt)
abbrev pub edges_words : RefusedOpening → List ℕ
edges_words o =
    cond (eqb o.leaving 0) (ascii ", which no edge leaves.\n")
    (field ". Edges that leave it: " o.leaving ++ field "; with a data bound that fails: " o.blocked ++ field "; of the others without a window of one tick's length, or of their budget: " o.windowless ++ ascii ".\n")

-- 9: the edge taken, and its first update that leaves the range
abbrev pub update_words : RefusedOpening → List ℕ
update_words o = field " and takes edge " o.edge ++ field ", whose update " o.update ++ ascii " leaves -32768 to 32767.\n"

abbrev pub reason_words : RefusedOpening → List ℕ
reason_words o = cond (eqb o.number 8) (edges_words o) (cond (eqb o.number 9) (update_words o) (ascii ".\n"))

unfoldable pub opening_text : RefusedOpening → List ℕ
unfolding decimal
opening_text o = entry_words o ++ reason_words o
