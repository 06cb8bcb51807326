-- Every refusal of documents 01 and 02, computed: the number and the component concerned, by the call that gives it, with tables on both sides of the
-- boundary where there is one (18 is a case of `slot_plan`, 21 of `ReasonCases`, 24 of `PositionCases`). Then runs of nodes that wake apart. One table with
-- one theorem, as `Cases`.
use Rattle.std.specs.Prelude.{◌≡◌, refl, true, false, List, [], ◌∷◌, ◌++◌, ℕ, ◌<◌, length, replicate, negsuc}
use Rattle.std.proofs.Common.{lt-ltb}
use Rattle.model.specs.declared.Action.TheVariants.{Internal, Receive}
use Rattle.model.specs.declared.Pair.{Pair}
use Rattle.model.specs.declared.Update.{Update}
use Rattle.model.specs.declared.End.TheVariants.{Horizon, UsedUp, Late, NotAllowed}
use Rattle.model.specs.declared.Verdict.{Verdict}
use Rattle.model.specs.declared.Verdict.TheVariants.{Accepted, Refused}
use Rattle.model.specs.Lists.{All, empty, more, each}
use Rattle.model.specs.Table.{Component, Read}
use Rattle.model.specs.Build.{location, clock_guard, update, pair_of, arc, component, network}
use Rattle.model.specs.Bytes.{table_bytes}
use Rattle.model.specs.Reader.{read_table}
use Rattle.model.specs.Checks.{accepted_schedule}
use Rattle.model.specs.Program.{program_bytes, part_of}
use Rattle.model.specs.Machine.{exec}
use Rattle.model.specs.Run.{choose1, run, observation_bytes}
use Rattle.model.specs.Calls.{Call, RunCall, accepted_schedule_in, accepted_schedule_in_at, check_call, check_call_at, schedule_call, translate_call, run_call, offsets_fine, run_call_at}
use Rattle.model.specs.Cases.{probe, hub, add_one, changed, resting, sender, first_seen, lent, answered, refused_with}

-- ## Bytes that the reader refuses

-- a header: version, total length (below 256), components, channels, horizon (below 256)
abbrev pub header : ℕ → ℕ → ℕ → ℕ → ℕ → List ℕ
header version total components channels horizon = version ∷ 0 ∷ total ∷ components ∷ channels ∷ 0 ∷ horizon ∷ []

-- a component of 22 bytes with one location, bound 5, and one internal edge with low 3 that resets its clock: by the reset mask, and by the bytes
-- of the bound
abbrev pub one : ℕ → ℕ → ℕ → List ℕ
one mask high low =
    (0 ∷ 22 ∷ 1 ∷ 0 ∷ 1 ∷ 0 ∷ 1 ∷ 0 ∷ high ∷ low ∷ []) ++ (0 ∷ 0 ∷ 0 ∷ mask ∷ 1 ∷ 0 ∷ 0 ∷ 0 ∷ 0 ∷ 3 ∷ 255 ∷ 255 ∷ [])

abbrev pub fine : List ℕ
fine = one 1 0 5

-- the same with a budget, 24 bytes: by its bytes; and cut behind the first of these, 18 bytes
abbrev pub working : ℕ → ℕ → List ℕ
working high low =
    (0 ∷ 24 ∷ 1 ∷ 0 ∷ 1 ∷ 0 ∷ 1 ∷ 0 ∷ 0 ∷ 5 ∷ []) ++ (0 ∷ 0 ∷ 0 ∷ 1 ∷ 1 ∷ 0 ∷ 0 ∷ high ∷ low ∷ 0 ∷ 0 ∷ 3 ∷ 255 ∷ 255 ∷ [])

abbrev pub budget_cut : List ℕ
budget_cut = (0 ∷ 18 ∷ 1 ∷ 0 ∷ 1 ∷ 0 ∷ 1 ∷ 0 ∷ 0 ∷ 5 ∷ []) ++ (0 ∷ 0 ∷ 0 ∷ 1 ∷ 1 ∷ 0 ∷ 0 ∷ 0xEA ∷ [])

-- without one, and with another stated length, and so many bytes behind it
abbrev pub stating : ℕ → ℕ → List ℕ
stating total behind = (0 ∷ total ∷ 1 ∷ 0 ∷ 1 ∷ 0 ∷ 1 ∷ 0 ∷ 0 ∷ 5 ∷ []) ++ (0 ∷ 0 ∷ 0 ∷ 1 ∷ 1 ∷ 0 ∷ 0 ∷ 0 ∷ 0 ∷ 3 ∷ 255 ∷ 255 ∷ []) ++ replicate behind 0

-- a component of 26 bytes with one location, bound 5, and one receive edge with two pairs on these channels
abbrev pub hearing : ℕ → ℕ → List ℕ
hearing one other =
    (0 ∷ 26 ∷ 1 ∷ 0 ∷ 1 ∷ 0 ∷ 1 ∷ 0 ∷ 0 ∷ 5 ∷ []) ++ (2 ∷ 0 ∷ 0 ∷ 1 ∷ 1 ∷ 0 ∷ 2 ∷ 0 ∷ 0 ∷ 3 ∷ 255 ∷ 255 ∷ one ∷ 0 ∷ other ∷ 0 ∷ [])

-- ## Tables that the schedule refuses

-- one location, left by one internal edge with these updates, whose window is `low` to `bound` after each entry
abbrev pub turning : ℕ → ℕ → List Update → Component
turning low bound updates = component 0 1 1 (location 0 bound ∷ []) (arc 0 0 1 Internal (clock_guard 0 low 65535 ∷ []) [] updates [] ∷ [])

-- a passage every tick: at 0, 1, .. below the horizon's tick
abbrev pub every_tick : ℕ → List ℕ
every_tick horizon = table_bytes (network 0 horizon (turning 0 1 [] ∷ []))

-- the variable set to −32,768; then one less
abbrev pub least : List Update
least = update 0 false (negsuc 32767) ∷ []

abbrev pub below : List Update
below = least ++ (update 0 true (negsuc 0) ∷ [])

abbrev pub turns : List Component → List ℕ
turns components = table_bytes (network 0 20 components)

-- ## Sends and who hears them, below the horizon 12

-- a receive window from `low` to `bound` on these channels; then it rests, as the senders do
abbrev pub hears : List Pair → ℕ → ℕ → Component
hears pairs low bound = resting (component 0 1 0 (location 0 bound ∷ []) (arc 0 1 0 Receive (clock_guard 0 low 65535 ∷ []) [] [] pairs ∷ []))

abbrev pub channel : ℕ → List Pair
channel k = pair_of k 1 ∷ []

abbrev pub both : List Pair
both = pair_of 0 1 ∷ pair_of 1 1 ∷ []

abbrev pub sends : List Component → List ℕ
sends components = table_bytes (network 2 12 components)

-- ## One component to the horizon 5: one passage, ready at 3

abbrev pub single : List ℕ
single = header 1 29 1 0 5 ++ fine

-- its program: head, the component's head, where its two blocks start, and the blocks
abbrev pub single_program : List ℕ
single_program = 1 ∷ 0 ∷ 56 ∷ 1 ∷ 0 ∷ 5
    ∷ 0 ∷ 50 ∷ 1 ∷ 1 ∷ 0 ∷ 0 ∷ 0 ∷ 0 ∷ 0 ∷ 5
    ∷ 0x0A ∷ 0 ∷ 0 ∷ 0 ∷ 0x0C ∷ 0 ∷ 0 ∷ 5 ∷ 0x0B ∷ 0 ∷ 0 ∷ 3 ∷ 0x0F ∷ 0 ∷ 0 ∷ 0 ∷ 0x10 ∷ 0 ∷ 0 ∷ 0
    ∷ 0x00 ∷ 0 ∷ 0 ∷ 0 ∷ 0x03 ∷ 0 ∷ 0 ∷ 0 ∷ 0x08 ∷ 0 ∷ 0 ∷ 0 ∷ 0x09 ∷ 0 ∷ 0 ∷ 0 ∷ 0x11 ∷ 0 ∷ 0 ∷ 0
    ∷ []

-- the same in version 3 with a budget (below 256): statement 12 stands before keep, a budget of 0 too
abbrev pub working_single : ℕ → List ℕ
working_single budget = header 3 31 1 0 5 ++ working 0 budget

abbrev pub working_program : ℕ → List ℕ
working_program budget = 3 ∷ 0 ∷ 60 ∷ 1 ∷ 0 ∷ 5
    ∷ 0 ∷ 54 ∷ 1 ∷ 1 ∷ 0 ∷ 0 ∷ 0 ∷ 0 ∷ 0 ∷ 6
    ∷ 0x0A ∷ 0 ∷ 0 ∷ 0 ∷ 0x0C ∷ 0 ∷ 0 ∷ 5 ∷ 0x0B ∷ 0 ∷ 0 ∷ 3 ∷ 0x12 ∷ 0 ∷ 0 ∷ budget ∷ 0x0F ∷ 0 ∷ 0 ∷ 0 ∷ 0x10 ∷ 0 ∷ 0 ∷ 0
    ∷ 0x00 ∷ 0 ∷ 0 ∷ 0 ∷ 0x03 ∷ 0 ∷ 0 ∷ 0 ∷ 0x08 ∷ 0 ∷ 0 ∷ 0 ∷ 0x09 ∷ 0 ∷ 0 ∷ 0 ∷ 0x11 ∷ 0 ∷ 0 ∷ 0
    ∷ []

-- bytes lent to its run: four more than its one passage needs
abbrev pub lent40 : List ℕ
lent40 = replicate 40 0xaa

-- its node wakes at tick 1, goes to its sleep, and three ticks pass: by its own clock it is 3
abbrev pub to_its_sleep : List ℕ
to_its_sleep = 255 ∷ replicate 5 0 ++ replicate 3 255

-- ## Probe and hub with margins of three ticks: accepted up to the spread 2

-- the probe sends from 4 to 5, the hub listens from 1 to 8
abbrev pub wide : Read
wide = changed (probe 4) (hub 1 8 add_one)

-- The probe wakes at tick 1, the hub at 2, and each goes to its sleep; the hub's is due at tick 3, the probe's at 5, where it sends.
abbrev pub to_the_probes_sleep : List ℕ
to_the_probes_sleep = 255 ∷ replicate 5 0 ++ (255 ∷ []) ++ replicate 5 1 ++ (255 ∷ 1 ∷ 255 ∷ 255 ∷ 0 ∷ [])

abbrev pub both_slept : List ℕ
both_slept = first_seen 1 0 0 1 1 0 ++ first_seen 0 0 0 4 4 0

-- ## The rows

-- what was asked, and what documents 01 and 02 answer
pub data Row : Type 0 where
  checks : List ℕ → Verdict → Row
  -- at a spread
  within : ℕ → List ℕ → Verdict → Row
  -- table and lent numbers: the verdict, the size, and every lent number afterwards
  schedules : List ℕ → List ℕ → Call → Row
  translates : List ℕ → List ℕ → Call → Row
  -- table, choices and lent bytes
  runs : List ℕ → List ℕ → List ℕ → RunCall → Row
  -- table and lent bytes, under any choices that are more than 1,000,000
  runs_on : List ℕ → List ℕ → RunCall → Row
  -- spread, table, offsets, choices and lent bytes
  wakes : ℕ → List ℕ → List ℕ → List ℕ → List ℕ → RunCall → Row

abbrev pub written : ℕ → List ℕ → Call
written size numbers = record { verdict = Accepted; size = size; lent = numbers }

abbrev pub unwritten : ℕ → ℕ → List ℕ → Call
unwritten n c numbers = record { verdict = Refused n c; size = 0; lent = numbers }

abbrev pub Holds : Row → Type 0
Holds (checks table v) = check_call table ≡ v
Holds (within G table v) = check_call_at G table ≡ v
Holds (schedules table list answer) = schedule_call table list ≡ answer
Holds (translates table bytes answer) = translate_call table bytes ≡ answer
Holds (runs table choices bytes answer) = run_call table choices bytes ≡ answer
Holds (runs_on table bytes answer) = (choices : List ℕ) → 1000000 < length choices → run_call table choices bytes ≡ answer
Holds (wakes G table offsets choices bytes answer) = run_call_at G table offsets choices bytes ≡ answer

abbrev pub rows : List Row
rows =
    -- 1. "Is the first byte 1?" Version 0, and 4
    checks (header 0 29 1 0 20 ++ fine) (Refused 1 255)
    ∷ checks (header 4 31 1 0 20 ++ working 0 2) (Refused 1 255)
    -- 2. "Is the stated length the length handed in ..?" One byte alone; one more stated than there are; as many
    ∷ checks (1 ∷ []) (Refused 2 255)
    ∷ checks (header 1 30 1 0 20 ++ fine) (Refused 2 255)
    ∷ checks (header 1 29 1 0 20 ++ fine) Accepted
    -- 3. "Are components, channels and H in range?" None and 9 components, 17 channels, H = 60,001
    ∷ checks (header 1 29 0 0 20 ++ fine) (Refused 3 255)
    ∷ checks (header 1 29 9 0 20 ++ fine) (Refused 3 255)
    ∷ checks (header 1 29 1 17 20 ++ fine) (Refused 3 255)
    ∷ checks ((1 ∷ 0 ∷ 29 ∷ 1 ∷ 0 ∷ 0xEA ∷ 0x61 ∷ []) ++ fine) (Refused 3 255)
    -- 4. "Does each part fit its component, and end exactly there, and the last component at the table's end?" No component, no second one; a byte left
    -- over in the component, and behind the last one; a budget that is cut
    ∷ checks (header 1 7 1 0 20) (Refused 4 0)
    ∷ checks (header 1 29 2 0 20 ++ fine) (Refused 4 1)
    ∷ checks (header 1 30 1 0 20 ++ stating 23 1) (Refused 4 0)
    ∷ checks (header 1 30 1 0 20 ++ stating 22 1) (Refused 4 0)
    ∷ checks (header 3 25 1 0 20 ++ budget_cut) (Refused 4 0)
    -- 5. "Is every number in its range and every mask bit a clock?" Bit 1 of a component with one clock, also of the second component; a location's bound
    -- of 60,001, and of 60,000; a budget of 60,001
    ∷ checks (header 1 29 1 0 20 ++ one 2 0 5) (Refused 5 0)
    ∷ checks (header 1 51 2 0 20 ++ fine ++ one 2 0 5) (Refused 5 1)
    ∷ checks (header 1 29 1 0 20 ++ one 1 0xEA 0x61) (Refused 5 0)
    ∷ checks (header 1 29 1 0 20 ++ one 1 0xEA 0x60) Accepted
    ∷ checks (header 3 31 1 0 20 ++ working 0xEA 0x61) (Refused 5 0)
    -- 6. "Does no receive edge list a channel twice?" Also in the second component
    ∷ checks (header 1 33 1 2 20 ++ hearing 0 0) (Refused 6 0)
    ∷ checks (header 1 55 2 2 20 ++ fine ++ hearing 1 1) (Refused 6 1)
    ∷ checks (header 1 33 1 2 20 ++ hearing 0 1) Accepted
    -- 7. "Are fewer than 1,024 passages open or closed?" The opening at tick 1,024 would be the 1,025th
    ∷ checks (every_tick 1024) Accepted
    ∷ checks (every_tick 1025) (Refused 7 0)
    -- 8. "Is there a candidate?" A window of one tick has no length; also in the second component; "only if its window length .. is also at least the
    -- budget": from 3 to 5 with budgets of 60,000, 3 and 2
    ∷ checks (turns (turning 5 5 [] ∷ [])) (Refused 8 0)
    ∷ checks (turns (turning 3 5 [] ∷ turning 5 5 [] ∷ [])) (Refused 8 1)
    ∷ checks (header 3 31 1 0 20 ++ working 0xEA 0x60) (Refused 8 0)
    ∷ checks (header 3 31 1 0 20 ++ working 0 3) (Refused 8 0)
    ∷ checks (header 3 31 1 0 20 ++ working 0 2) Accepted
    -- 9. "Does each update of the taken edge stay in range?" −32,768 does, one less does not; also in the second component
    ∷ checks (turns (turning 3 5 least ∷ [])) Accepted
    ∷ checks (turns (turning 3 5 below ∷ [])) (Refused 9 0)
    ∷ checks (turns (turning 3 5 [] ∷ turning 3 5 below ∷ [])) (Refused 9 1)
    -- 10. "Do no two send windows of different components share a tick?" 3 to 5 and 5 to 7 do; the first send is the second component's; 6 to 8 does not
    ∷ checks (sends (sender 0 3 5 ∷ sender 1 5 7 ∷ hears (channel 0) 1 9 ∷ hears (channel 1) 1 9 ∷ [])) (Refused 10 0)
    ∷ checks (sends (hears (channel 0) 1 9 ∷ sender 0 3 5 ∷ sender 1 5 7 ∷ hears (channel 1) 1 9 ∷ [])) (Refused 10 1)
    ∷ checks (sends (sender 0 3 5 ∷ sender 1 6 8 ∷ hears (channel 0) 1 9 ∷ hears (channel 1) 1 9 ∷ [])) Accepted
    -- 11, where no receive window of another component that names the channel shares a tick with the send window: there is none; it names another
    -- channel; it starts a tick after the send window's end
    ∷ checks (sends (sender 0 3 5 ∷ [])) (Refused 11 0)
    ∷ checks (sends (hears (channel 1) 1 9 ∷ sender 0 3 5 ∷ [])) (Refused 11 1)
    ∷ checks (sends (sender 0 3 5 ∷ hears (channel 0) 6 9 ∷ [])) (Refused 11 0)
    -- "15 stands for several": both around the send; the second one shares its last tick
    ∷ checks (sends (sender 0 3 5 ∷ hears (channel 0) 1 9 ∷ hears (channel 0) 2 8 ∷ [])) (Refused 15 0)
    ∷ checks (sends (sender 0 3 5 ∷ hears (channel 0) 1 9 ∷ hears (channel 0) 5 9 ∷ [])) (Refused 15 0)
    -- "16 for the late start": with the send; later, and ending with it
    ∷ checks (sends (sender 0 3 5 ∷ hears (channel 0) 3 9 ∷ [])) (Refused 16 0)
    ∷ checks (sends (sender 0 3 5 ∷ hears (channel 0) 4 5 ∷ [])) (Refused 16 0)
    -- "17 for the early end": with the send; a tick later is enough
    ∷ checks (sends (sender 0 3 5 ∷ hears (channel 0) 2 5 ∷ [])) (Refused 17 0)
    ∷ checks (sends (sender 0 3 5 ∷ hears (channel 0) 2 6 ∷ [])) Accepted
    -- 12. "Does no receive window share a tick with two send windows of other components on its channels?" It is the third component's
    ∷ checks (sends (sender 0 3 4 ∷ sender 1 6 7 ∷ hears both 1 9 ∷ [])) (Refused 12 2)
    -- 13. "Does the lent buffer hold the result ..?" One number or byte too few, and one more than needed; a refused table comes first
    ∷ schedules single (replicate 6 7) (unwritten 13 255 (replicate 6 7))
    ∷ schedules single (replicate 8 7) (written 1 (0 ∷ 0 ∷ 0 ∷ 0 ∷ 3 ∷ 5 ∷ 255 ∷ 7 ∷ []))
    ∷ schedules (header 1 7 1 0 20) [] (unwritten 4 0 [])
    ∷ translates single (replicate 55 7) (unwritten 13 255 (replicate 55 7))
    ∷ translates single (replicate 57 7) (written 56 (single_program ++ (7 ∷ [])))
    ∷ runs single [] (replicate 35 7) (refused_with 13 255 (replicate 35 7))
    -- version 3: a byte too few; budgets of 2 and 0; the node goes through statement 12 to its sleep
    ∷ translates (working_single 2) (replicate 59 7) (unwritten 13 255 (replicate 59 7))
    ∷ translates (working_single 2) (replicate 60 7) (written 60 (working_program 2))
    ∷ translates (working_single 0) (replicate 60 7) (written 60 (working_program 0))
    ∷ runs (working_single 2) (replicate 6 0 ++ replicate 3 255 ++ (0 ∷ [])) lent40 (answered UsedUp 3 10 1 (first_seen 0 0 0 3 3 0) 4)
    -- 14. "Are there at most 1,000,000 choices?" After 13
    ∷ runs_on single lent40 (refused_with 14 255 lent40)
    ∷ runs_on single (replicate 35 7) (refused_with 13 255 (replicate 35 7))
    -- 19. "A G above 1,000 is refused with 19 after 3"
    ∷ within 1000 single Accepted
    ∷ within 1001 single (Refused 19 255)
    ∷ within 1001 (header 1 29 0 0 20 ++ fine) (Refused 3 255)
    ∷ within 1001 (header 1 7 1 0 20) (Refused 19 255)
    -- At a spread: "windows closer than or equal to G count as sharing a tick". Send windows two ticks apart
    ∷ within 1 (sends (sender 0 3 4 ∷ sender 1 6 7 ∷ hears (channel 0) 0 10 ∷ hears (channel 1) 0 10 ∷ [])) Accepted
    ∷ within 2 (sends (sender 0 3 4 ∷ sender 1 6 7 ∷ hears (channel 0) 0 10 ∷ hears (channel 1) 0 10 ∷ [])) (Refused 10 0)
    -- the one listener starts two ticks after the send's end: nobody hears it; at 2 it is heard, by one that starts too late
    ∷ within 1 (sends (sender 0 3 4 ∷ hears (channel 0) 6 9 ∷ [])) (Refused 11 0)
    ∷ within 2 (sends (sender 0 3 4 ∷ hears (channel 0) 6 9 ∷ [])) (Refused 16 0)
    -- so does a second listener
    ∷ within 1 (sends (sender 0 3 4 ∷ hears (channel 0) 0 10 ∷ hears (channel 0) 6 9 ∷ [])) Accepted
    ∷ within 2 (sends (sender 0 3 4 ∷ hears (channel 0) 0 10 ∷ hears (channel 0) 6 9 ∷ [])) (Refused 15 0)
    -- "the listener must start more than G earlier and end more than G later": two ticks earlier, two ticks later
    ∷ within 1 (sends (sender 0 3 4 ∷ hears (channel 0) 1 10 ∷ [])) Accepted
    ∷ within 2 (sends (sender 0 3 4 ∷ hears (channel 0) 1 10 ∷ [])) (Refused 16 0)
    ∷ within 1 (sends (sender 0 3 4 ∷ hears (channel 0) 0 6 ∷ [])) Accepted
    ∷ within 2 (sends (sender 0 3 4 ∷ hears (channel 0) 0 6 ∷ [])) (Refused 17 0)
    -- one window for two sends; at 2 the sends are too near to each other, and 10 comes first
    ∷ within 1 (sends (sender 0 3 4 ∷ sender 1 6 7 ∷ hears both 0 10 ∷ [])) (Refused 12 2)
    ∷ within 2 (sends (sender 0 3 4 ∷ sender 1 6 7 ∷ hears both 0 10 ∷ [])) (Refused 10 0)
    -- 20. "an offset above G with 20 after 14": of the first node, of the second; after 13; a number past the last node is not looked at
    ∷ wakes 2 (table_bytes wide) (3 ∷ []) [] lent (refused_with 20 255 lent)
    ∷ wakes 2 (table_bytes wide) (2 ∷ 3 ∷ []) [] lent (refused_with 20 255 lent)
    ∷ wakes 2 (table_bytes wide) (3 ∷ []) [] (replicate 287 7) (refused_with 13 255 (replicate 287 7))
    ∷ wakes 2 (table_bytes wide) (2 ∷ 2 ∷ 3 ∷ []) [] lent (answered UsedUp 0 0 0 [] 292)
    ∷ wakes 1001 single (0 ∷ []) [] lent40 (refused_with 19 255 lent40)
    ∷ wakes 3 (table_bytes wide) [] [] lent (refused_with 16 0 lent)
    -- "Observations carry the node's own clock": hub's at 1 and probe's at 4, written at the ticks 3 and 5; the message at 5
    ∷ wakes 2 (table_bytes wide) (1 ∷ 2 ∷ []) (to_the_probes_sleep ++ (0 ∷ [])) lent (answered UsedUp 5 18 2 both_slept 220)
    -- "until that tick .. choosing it isn't allowed"
    ∷ wakes 2 (table_bytes wide) (1 ∷ 2 ∷ []) (0 ∷ []) lent (answered NotAllowed 0 0 0 [] 292)
    ∷ wakes 2 (table_bytes wide) (1 ∷ 2 ∷ []) (255 ∷ 0 ∷ 1 ∷ []) lent (answered NotAllowed 1 2 0 [] 292)
    -- late by the own clock: hub's sleep is due at 1, which is tick 3, and without offsets tick 1
    ∷ wakes 2 (table_bytes wide) (1 ∷ 2 ∷ []) (replicate 5 255) lent (answered (Late 1) 4 4 0 [] 292)
    ∷ wakes 2 (table_bytes wide) [] (replicate 5 255) lent (answered (Late 1) 2 2 0 [] 292)
    -- "The horizon stays on the common tick"; a sleep before it is due by the own clock, and a tick while it is
    ∷ wakes 1 single (1 ∷ []) (to_its_sleep ++ (0 ∷ 0 ∷ 255 ∷ 255 ∷ [])) lent40 (answered Horizon 5 12 1 (first_seen 0 0 0 3 3 0) 4)
    ∷ wakes 1 single (1 ∷ []) (255 ∷ replicate 5 0 ++ (255 ∷ 255 ∷ 0 ∷ [])) lent40 (answered NotAllowed 3 8 0 [] 40)
    ∷ wakes 1 single (1 ∷ []) (to_its_sleep ++ (255 ∷ [])) lent40 (answered NotAllowed 4 9 0 [] 40)
    ∷ []

pub cases : All Holds rows
unfolding table_bytes read_table check_call check_call_at accepted_schedule_in accepted_schedule_in_at accepted_schedule each schedule_call translate_call run_call run_call_at offsets_fine run program_bytes observation_bytes part_of choose1 exec
cases =
    more refl (more refl (more refl (more refl (more refl (more refl (more refl (more refl (more refl (more refl (more refl (more refl (more refl (more refl (more refl (more refl (more refl (more refl (more refl (more refl (more refl (more refl (more refl (more refl (more refl (more refl (more refl (more refl (more refl (more refl (more refl (more refl (more refl (more refl (more refl (more refl (more refl (more refl (more refl (more refl (more refl (more refl (more refl (more refl (more refl (more refl (more refl (more refl (more refl (more refl (more refl (more refl (more refl (more refl (more refl (more too_many (more too_short (more refl (more refl (more refl (more refl (more refl (more refl (more refl (more refl (more refl (more refl (more refl (more refl (more refl (more refl (more refl (more refl (more refl (more refl (more refl (more refl (more refl (more refl (more refl (more refl (more refl (more refl (more refl (more refl (more refl (more refl empty))))))))))))))))))))))))))))))))))))))))))))))))))))))))))))))))))))))))))))))))))))))
  where
    too_many : Holds (runs_on single lent40 (refused_with 14 255 lent40))
    too_many choices h = let e = lt-ltb 1000000 (length choices) h in rw e

    too_short : Holds (runs_on single (replicate 35 7) (refused_with 13 255 (replicate 35 7)))
    too_short choices h = refl
