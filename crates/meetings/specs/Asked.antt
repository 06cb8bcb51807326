-- The questions 10 to 12 asked of two rows, and what the functions between them answer.
use Rattle.std.specs.Prelude.{◌≡◌, Bool, ◌&&◌, List, ◌∷◌, ℕ, length}
use Rattle.model.specs.declared.Verdict.{Verdict}
use Rattle.model.specs.Lists.{only, each}
use Rattle.model.specs.Table.{Table}
use Rattle.model.specs.Schedule.{Passage, seven_of}
use Rattle.model.specs.Checks.{is_send, meets, may_hear, unheard_number}
use Rattle.model.specs.Calls.{laid}
use Rattle.model.specs.Meetings.{MeetingsCall, about}
use Rattle.meetings.specs.declared.Question.{Question}
use Rattle.meetings.specs.declared.Question.TheVariants.{Collision, Unheard, Crowded}
use Rattle.meetings.specs.declared.Listed.{Listed}

-- document 01's number of a question that the passage v fails; where a send is not heard well, the number of its fault (document 02, wish 3)
abbrev pub number_asked : ℕ → Question → Table → List Passage → Passage → ℕ
number_asked G Collision T S v = 10
number_asked G Unheard T S v = unheard_number G T S v
number_asked G Crowded T S v = 12

-- w is one that v, at fault, meets
abbrev pub met_by : ℕ → Question → Table → ℕ → Passage → Passage → Bool
met_by G Collision T H v w = meets G T H v w
met_by G Unheard T H v w = may_hear G T w v
met_by G Crowded T H v w = is_send T H w && may_hear G T v w

-- the passage at fault, and those that it meets
abbrev pub found_by : ℕ → Question → Table → ℕ → List Passage → Passage → List Passage
found_by G q T H S v = v ∷ only (met_by G q T H v) S

-- the call that lists these passages of a table with that verdict
abbrev pub listing : Verdict → List Passage → List ℕ → MeetingsCall
listing given P lent = about given (laid (length P) (each seven_of P) lent)

-- the answer, and the list afterwards, are those of the call
pub record Says (c : MeetingsCall) (r : Listed) (after : List ℕ) : Type 0 where
  pub table : r.table ≡ c.table
  pub verdict : r.verdict ≡ c.verdict
  pub size : r.size ≡ c.size
  pub lent : after ≡ c.lent
