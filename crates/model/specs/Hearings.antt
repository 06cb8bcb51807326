-- Document 02, wish 3, "Listener faults told apart": what the numbers 11, 15, 16 and 17 say by ticks, and the answers in the numbers of before
-- (the laws are in proofs/Checks/Hearings.antt and proofs/Checks/Merged.antt).
use Rattle.std.specs.Prelude.{◌≡◌, true, cond, ◌&&◌, List, ℕ, ◌+◌, ◌≤◌, ◌<◌, leb, length}
use Rattle.std.proofs.Math.Option.{none}
use Rattle.model.specs.declared.Hearing.{Hearing}
use Rattle.model.specs.declared.Hearing.TheVariants.{Well, Nobody, Several, LateStart, EarlyEnd}
use Rattle.model.specs.declared.Verdict.{Verdict}
use Rattle.model.specs.declared.Verdict.TheVariants.{Accepted, Refused}
use Rattle.model.specs.Lists.{first, Answer, accepted, refused, ◌after◌}
use Rattle.model.specs.Table.{Table, Read}
use Rattle.model.specs.Reader.{read_table}
use Rattle.model.specs.Window.{channel_of}
use Rattle.model.specs.Schedule.{Passage, passage_arc, names, others, schedule}
use Rattle.model.specs.Checks.{is_send, is_receive, collides, unheard, crowded, fault_of, limit, passage_at, InWindow}
use Rattle.model.specs.Calls.{Call, RunCall, verdict_of}
use Rattle.model.specs.Meetings.{MeetingsCall}

-- ## The faults, by ticks

-- At a spread G "windows closer than or equal to G count as sharing a tick": r is a receive window of another component that names s's channel,
-- and a tick of its window and a tick of the send window lie at most G apart
pub record HearsWithin (G : ℕ) (T : Table) (r s : Passage) : Type 0 where
  pub receive : is_receive T r ≡ true
  pub other : others r s ≡ true
  pub named : names (passage_arc T r) (channel_of (passage_arc T s)) ≡ true
  pub heard_at : ℕ
  pub sent_at : ℕ
  pub in_receive : InWindow heard_at r
  pub in_send : InWindow sent_at s
  pub close : (heard_at ≤ sent_at + G) × (sent_at ≤ heard_at + G)

module _ (G : ℕ) (T : Table) (S : List Passage) (s : Passage) where
  -- receive window number i alone hears s
  pub record Alone (i : ℕ) : Type 0 where
    pub there : i < length S
    pub hears : HearsWithin G T (passage_at S i) s
    pub alone : (j : ℕ) → j < length S → HearsWithin G T (passage_at S j) s → j ≡ i

  -- nothing at fault: it starts more than G earlier and ends more than G later
  pub record HeardWell : Type 0 where
    pub index : ℕ
    pub single : Alone index
    pub earlier : (passage_at S index).ready + G < s.ready
    pub later : s.end + G < (passage_at S index).end

  -- "starts too late": not more than G earlier than the send, whatever its end
  pub record StartsLate : Type 0 where
    pub index : ℕ
    pub single : Alone index
    pub late : s.ready ≤ (passage_at S index).ready + G

  -- "starts early enough but ends too soon": not more than G later than the send's end
  pub record EndsSoon : Type 0 where
    pub index : ℕ
    pub single : Alone index
    pub early : (passage_at S index).ready + G < s.ready
    pub soon : (passage_at S index).end ≤ s.end + G

  -- "Several": two windows, of two components or of one
  pub record HeardTwice : Type 0 where
    pub one : ℕ
    pub other : ℕ
    pub apart : one < other
    pub there : other < length S
    pub hears_one : HearsWithin G T (passage_at S one) s
    pub hears_other : HearsWithin G T (passage_at S other) s

  -- what is said of the send s: nothing at fault, or one of the four faults
  abbrev pub Says : Hearing → Type 0
  Says Well = HeardWell
  Says Nobody = (j : ℕ) → j < length S → HearsWithin G T (passage_at S j) s → ⊥
  Says Several = HeardTwice
  Says LateStart = StartsLate
  Says EarlyEnd = EndsSoon

-- passage number i is "the first passage in schedule order at fault": 10 finds none, each send before it is heard well, and it is a send with that
-- fault
pub record FirstAtFault (G : ℕ) (T : Table) (H : ℕ) (S : List Passage) (h : Hearing) (i : ℕ) : Type 0 where
  pub apart : first (collides G T H S) S ≡ none
  pub there : i < length S
  pub before : (j : ℕ) → j < i → is_send T H (passage_at S j) ≡ true → HeardWell G T S (passage_at S j)
  pub sends : is_send T H (passage_at S i) ≡ true
  pub says : Says G T S (passage_at S i) h

-- ## In the numbers of before

-- 15 to 17 read as 11
abbrev pub as_eleven : ℕ → ℕ
as_eleven n = cond (leb 15 n && leb n 17) 11 n

-- an answer, a verdict and what each call gives, read so
abbrev pub merged : {A : Type 0} → Answer A → Answer A
merged (accepted a) = accepted a
merged (refused n c) = refused (as_eleven n) c

abbrev pub merged_verdict : Verdict → Verdict
merged_verdict Accepted = Accepted
merged_verdict (Refused n c) = Refused (as_eleven n) c

abbrev pub merged_call : Call → Call
merged_call given = record { verdict = merged_verdict given.verdict; size = given.size; lent = given.lent }

abbrev pub merged_run : RunCall → RunCall
merged_run given =
    record {
      verdict = merged_verdict given.verdict;
      end = given.end;
      tick = given.tick;
      used = given.used;
      size = given.size;
      lent = given.lent;
    }

abbrev pub merged_meetings : MeetingsCall → MeetingsCall
merged_meetings given = record { table = merged_verdict given.table; verdict = given.verdict; size = given.size; lent = given.lent }

-- checks 10 to 12 with one number for the four faults, as they stood before wish 3; and with them 1 to 12
unfoldable pub checked_as11 : ℕ → Table → ℕ → List Passage → Answer (List Passage)
checked_as11 G T H S =
    fault_of 10 (first (collides G T H S) S)
    (fault_of 11 (first (unheard G T H S) S) (fault_of 12 (first (crowded G T H S) S) (accepted S)))

abbrev pub accepted_schedule_as11 : Read → Answer (List Passage)
accepted_schedule_as11 t = schedule limit t.table t.horizon after λ S. checked_as11 0 t.table t.horizon S

unfoldable pub check_call_as11 : List ℕ → Verdict
unfolding read_table schedule checked_as11
check_call_as11 table = verdict_of (read_table table after accepted_schedule_as11)
