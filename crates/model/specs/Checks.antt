-- Document 01, "Checks, in this order", 10 to 12: over the finished schedule, "for sends with ready < H".
use Rattle.std.specs.Prelude.{◌≡◌, Bool, true, false, cond, ◌&&◌, not, List, [], ◌∷◌, ℕ, ◌+◌, ◌≤◌, ◌<◌, leb, ltb, eqb, length, get_or}
use Rattle.std.proofs.Math.Option.{Option, none, some}
use Rattle.model.specs.declared.Hearing.{Hearing}
use Rattle.model.specs.declared.Hearing.TheVariants.{Well, Nobody, Several, LateStart, EarlyEnd}
use Rattle.model.specs.Lists.{any, only, first, is_none, ◌∈◌, Answer, accepted, refused, ◌after◌}
use Rattle.model.specs.Table.{Table, Read, band_of}
use Rattle.model.specs.Window.{channel_of, listens}
use Rattle.model.specs.Schedule.{Passage, passage_arc, names, others, schedule}

-- ## Two windows

-- "share a tick"; at a spread G "windows closer than or equal to G count as sharing a tick"
abbrev pub near : ℕ → Passage → Passage → Bool
near G v w = leb v.ready (w.end + G) && leb w.ready (v.end + G)

-- "start earlier"; at a spread G "more than G earlier"
abbrev pub starts_earlier : ℕ → Passage → Passage → Bool
starts_earlier G v w = ltb (v.ready + G) w.ready

-- "end later"; at a spread G "more than G later"
abbrev pub ends_later : ℕ → Passage → Passage → Bool
ends_later G v w = ltb (w.end + G) v.end

-- which sends disturb each other: "Check 10 now concerns sends on one band only" (document 02, wish 2). What is no send disturbs nothing.
abbrev pub same_band : Table → Option ℕ → Option ℕ → Bool
same_band T none k = false
same_band T (some j) none = false
same_band T (some j) (some k) = eqb (band_of T j) (band_of T k)

abbrev pub disturb : Table → Passage → Passage → Bool
disturb T v w = same_band T (channel_of (passage_arc T v)) (channel_of (passage_arc T w))

-- ## The three questions

-- a send with ready < H
abbrev pub is_send : Table → ℕ → Passage → Bool
is_send T H v = not (is_none (channel_of (passage_arc T v))) && ltb v.ready H

abbrev pub is_receive : Table → Passage → Bool
is_receive T v = listens (passage_arc T v)

-- 10. "Do no two send windows of different components share a tick?", of those on one band. This one does with o.
abbrev pub meets : ℕ → Table → ℕ → Passage → Passage → Bool
meets G T H s o = is_send T H o && others o s && disturb T s o && near G s o

abbrev pub collides : ℕ → Table → ℕ → List Passage → Passage → Bool
collides G T H S s = is_send T H s && any (meets G T H s) S

-- r is a "receive window of another component, naming the channel, that shares a tick with the send window" s
abbrev pub may_hear : ℕ → Table → Passage → Passage → Bool
may_hear G T r s = is_receive T r && others r s && names (passage_arc T r) (channel_of (passage_arc T s)) && near G r s

-- 11. "Is there exactly one ..", "and does it start earlier and end later?" In code: "For each send the components listening are noted as eight bits,
-- and exactly one may be set, by one window."
abbrev pub heard_well : ℕ → Passage → List Passage → Bool
heard_well G s [] = false
heard_well G s (r ∷ []) = starts_earlier G r s && ends_later G r s
heard_well G s (r ∷ q ∷ rs) = false

abbrev pub unheard : ℕ → Table → ℕ → List Passage → Passage → Bool
unheard G T H S s = is_send T H s && not (heard_well G s (only (λ r. may_hear G T r s) S))

-- Document 02, wish 3: how the receive windows found hear the send s. None: "A send window that shares a tick with no receive window of another
-- component naming its channel". "Several are one fault. A single one that starts too late is another. A single one that starts early enough but
-- ends too soon is the last." Heard well is what 11 asks for (the law `well_hears` in proofs/Checks/Hearings.antt).
abbrev pub hearing_of : ℕ → Passage → List Passage → Hearing
hearing_of G s [] = Nobody
hearing_of G s (r ∷ []) = cond (starts_earlier G r s) (cond (ends_later G r s) Well EarlyEnd) LateStart
hearing_of G s (r ∷ q ∷ rs) = Several

-- ".. remains 11." "In the place of 11, for the same passage, 15 stands for several, 16 for the late start, 17 for the early end"; 0 where nothing
-- is at fault
abbrev pub hearing_number : Hearing → ℕ
hearing_number Well = 0
hearing_number Nobody = 11
hearing_number Several = 15
hearing_number LateStart = 16
hearing_number EarlyEnd = 17

-- how a send is heard in the schedule, and the number of its fault
abbrev pub heard_as : ℕ → Table → List Passage → Passage → Hearing
heard_as G T S s = hearing_of G s (only (λ r. may_hear G T r s) S)

abbrev pub unheard_number : ℕ → Table → List Passage → Passage → ℕ
unheard_number G T S s = hearing_number (heard_as G T S s)

-- 12. "Does no receive window share a tick with two send windows of other components on its channels?"
abbrev pub two : List Passage → Bool
two [] = false
two (s ∷ []) = false
two (s ∷ t ∷ ss) = true

abbrev pub crowded : ℕ → Table → ℕ → List Passage → Passage → Bool
crowded G T H S r = is_receive T r && two (only (λ s. is_send T H s && may_hear G T r s) S)

-- "for 10 to 12 that of the first passage in schedule order at fault (a send for 10 and 11, the receive for 12)"
abbrev pub fault_by : (Passage → ℕ) → Option Passage → Answer (List Passage) → Answer (List Passage)
fault_by number none further = further
fault_by number (some v) further = refused (number v) v.component

abbrev pub fault_of : ℕ → Option Passage → Answer (List Passage) → Answer (List Passage)
fault_of n = fault_by (λ v. n)

unfoldable pub checked : ℕ → Table → ℕ → List Passage → Answer (List Passage)
checked G T H S =
    fault_of 10 (first (collides G T H S) S)
    (fault_by (unheard_number G T S) (first (unheard G T H S) S) (fault_of 12 (first (crowded G T H S) S) (accepted S)))

-- 7 to 12, for a table that was read: the schedule, or the refusal
unfoldable pub accepted_schedule : ℕ → ℕ → Table → ℕ → Answer (List Passage)
unfolding schedule checked
accepted_schedule limit G T H = schedule limit T H after λ S. checked G T H S

-- 7. "Are fewer than 1,024 passages open or closed?"
abbrev pub limit : ℕ
limit = 1024

abbrev pub accepted_schedule_at : ℕ → Read → Answer (List Passage)
accepted_schedule_at G t = accepted_schedule limit G t.table t.horizon

-- at the spread 0: "G = 0 is the old check"
abbrev pub accepted_schedule_of : Read → Answer (List Passage)
accepted_schedule_of t = accepted_schedule_at 0 t

-- ## Independence of a global scheduler, by ticks

-- passage number i (past the end: nothing that is read)
abbrev pub no_passage : Passage
no_passage =
    record {
      component = 0;
      edge = 0;
      entry = record { location = 0; tick = 0; clocks = []; values = [] };
      ready = 0;
      end = 0;
      message = none;
    }

abbrev pub passage_at : List Passage → ℕ → Passage
passage_at S i = get_or S i no_passage

-- a send on channel k, "with ready < H"
pub record SendsOn (T : Table) (H : ℕ) (k : ℕ) (s : Passage) : Type 0 where
  pub channel : channel_of (passage_arc T s) ≡ some k
  pub ready : s.ready < H

-- the tick lies in the passage's window, "ready to end, both included"
pub record InWindow (t : ℕ) (v : Passage) : Type 0 where
  pub from : v.ready ≤ t
  pub to : t ≤ v.end

-- Component c's clock starts o c ticks after the common one. By the common tick, then, its windows lie o c ticks later.
module _ (o : ℕ → ℕ) where
  -- the common tick lies in the passage's window
  pub record InShifted (t : ℕ) (v : Passage) : Type 0 where
    pub from : v.ready + o v.component ≤ t
    pub to : t ≤ v.end + o v.component

  -- r is a receive window of another component that names s's channel, and the two windows have a common tick
  pub record Hears (T : Table) (r s : Passage) : Type 0 where
    pub receive : is_receive T r ≡ true
    pub other : others r s ≡ true
    pub named : names (passage_arc T r) (channel_of (passage_arc T s)) ≡ true
    pub tick : ℕ
    pub in_receive : InShifted tick r
    pub in_send : InShifted tick s

  -- "exactly one receive window of another component, naming the channel", and it starts earlier and ends later
  pub record Heard (T : Table) (S : List Passage) (s : Passage) : Type 0 where
    pub index : ℕ
    pub there : index < length S
    pub hears : Hears T (passage_at S index) s
    pub earlier : (passage_at S index).ready + o (passage_at S index).component < s.ready + o s.component
    pub later : s.end + o s.component < (passage_at S index).end + o (passage_at S index).component
    pub alone : (j : ℕ) → j < length S → Hears T (passage_at S j) s → j ≡ index

  pub record Independent (T : Table) (H : ℕ) (S : List Passage) : Type 0 where
    -- no common tick lies in the send windows of two components whose channels j and k have one band
    pub apart : (s q : Passage) (j k : ℕ) → s ∈ S → q ∈ S → SendsOn T H j s → SendsOn T H k q → others q s ≡ true → band_of T j ≡ band_of T k
        → (t : ℕ) → InShifted t s → InShifted t q → ⊥
    pub heard : (s : Passage) → s ∈ S → is_send T H s ≡ true → Heard T S s
    -- no receive window shares a common tick with two send windows of other components on its channels
    pub single : (r : Passage) → r ∈ S → is_receive T r ≡ true → (i j : ℕ) → i < length S → j < length S → is_send T H (passage_at S i) ≡ true
        → is_send T H (passage_at S j) ≡ true → Hears T r (passage_at S i) → Hears T r (passage_at S j) → i ≡ j

-- The law `independent` says: 10 to 12 pass at the spread G exactly if the table is independent whatever offsets up to G its nodes have.
abbrev pub IndependentWithin : ℕ → Table → ℕ → List Passage → Type 0
IndependentWithin G T H S = (o : ℕ → ℕ) → ((c : ℕ) → o c ≤ G) → Independent o T H S
