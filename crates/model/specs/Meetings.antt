-- Which windows met: for a table that checks 10 to 12 refuse (15 to 17 stand in the place of 11), the passage at fault and the passages that it
-- meets; at a spread G windows meet that are closer than or equal to G.
use Rattle.std.specs.Prelude.{◌&&◌, List, [], ◌∷◌, ℕ, length}
use Rattle.std.proofs.Math.Option.{Option, none, some}
use Rattle.model.specs.declared.Verdict.{Verdict}
use Rattle.model.specs.Lists.{only, first, Answer, accepted, refused, ◌after◌, each}
use Rattle.model.specs.Table.{Table, Read}
use Rattle.model.specs.Reader.{read_table}
use Rattle.model.specs.Schedule.{Passage, schedule, seven_of}
use Rattle.model.specs.Checks.{limit, is_send, meets, collides, may_hear, unheard, crowded}
use Rattle.model.specs.Calls.{Call, laid, read_at, check_call_at, check_call}

-- ## Over a schedule S

-- 10: the send windows of other components that share a tick with the send s
abbrev pub sends_met : ℕ → Table → ℕ → List Passage → Passage → List Passage
sends_met G T H S s = only (meets G T H s) S

-- 11: the receive windows of other components that name the channel of the send s and share a tick with it; there may be none
abbrev pub listeners_met : ℕ → Table → List Passage → Passage → List Passage
listeners_met G T S s = only (λ r. may_hear G T r s) S

-- 12: the send windows of other components on channels of the receive r that share a tick with it
abbrev pub sends_heard : ℕ → Table → ℕ → List Passage → Passage → List Passage
sends_heard G T H S r = only (λ s. is_send T H s && may_hear G T r s) S

-- one question: the passage at fault, then those that it meets; where none is at fault, what the next question finds
abbrev pub with_met : (Passage → List Passage) → Option Passage → List Passage → List Passage
with_met met none further = further
with_met met (some v) further = v ∷ met v

-- the three questions in the order of `checked`, each of "the first passage in schedule order at fault"; none if all three pass
unfoldable pub concerned : ℕ → Table → ℕ → List Passage → List Passage
concerned G T H S =
    with_met (sends_met G T H S) (first (collides G T H S) S)
    (with_met (listeners_met G T S) (first (unheard G T H S) S) (with_met (sends_heard G T H S) (first (crowded G T H S) S) []))

-- ## Of a table's bytes

-- the passages concerned of a table that was read; 7 to 9 refuse before there is a schedule
abbrev pub concerned_at : ℕ → Read → Answer (List Passage)
concerned_at G t = schedule limit t.table t.horizon after λ S. accepted (concerned G t.table t.horizon S)

-- none after a refusal
abbrev pub list_or : Answer (List Passage) → List Passage
list_or (accepted vs) = vs
list_or (refused n c) = []

-- for any bytes and any spread; none unless checks 10 to 12 refuse the table
unfoldable pub meetings_in_at : ℕ → List ℕ → List Passage
unfolding read_table schedule concerned
meetings_in_at G table = list_or (read_at G table after concerned_at G)

-- without a spread
unfoldable pub meetings_in : List ℕ → List Passage
unfolding read_table schedule concerned
meetings_in table = list_or (read_table table after concerned_at 0)

-- ## The call

-- the verdict of checks 1 to 12 on the table; the call's own answer; how many passages are listed; and the lent numbers afterwards
pub record MeetingsCall : Type 0 where
  pub table : Verdict
  pub verdict : Verdict
  pub size : ℕ
  pub lent : List ℕ

abbrev pub about : Verdict → Call → MeetingsCall
about given c = record { table = given; verdict = c.verdict; size = c.size; lent = c.lent }

-- The call `meetings_spread`: the verdict on the table at a spread, and the passages concerned, seven numbers a passage. Its size is the number of
-- passages. The call itself is accepted whatever that verdict is; it is refused by 13 alone, where the list is too short: then the list keeps its
-- numbers, and the verdict on the table is still given. Where nothing is to be listed, no list is too short.
unfoldable pub meetings_call_at : ℕ → List ℕ → List ℕ → MeetingsCall
unfolding check_call_at meetings_in_at each
meetings_call_at G table lent = about (check_call_at G table) (laid (length (meetings_in_at G table)) (each seven_of (meetings_in_at G table)) lent)

-- The call `meetings`: the same without a spread
unfoldable pub meetings_call : List ℕ → List ℕ → MeetingsCall
unfolding check_call meetings_in each
meetings_call table lent = about (check_call table) (laid (length (meetings_in table)) (each seven_of (meetings_in table)) lent)
