-- Document 01, "Probe and hub": the cases marked there, and those of document 02's wish 2, as one table with one theorem.
use Rattle.std.specs.Prelude.{◌≡◌, refl, true, false, List, [], ◌∷◌, ◌++◌, ℕ, replicate, pos}
use Rattle.std.proofs.Math.Option.{Option, none, some}
use Rattle.model.specs.declared.Action.TheVariants.{Internal, Send, Receive}
use Rattle.model.specs.declared.Update.{Update}
use Rattle.model.specs.declared.End.{End}
use Rattle.model.specs.declared.End.TheVariants.{Horizon, UsedUp, Late, NotAllowed}
use Rattle.model.specs.declared.Verdict.{Verdict}
use Rattle.model.specs.declared.Verdict.TheVariants.{Accepted, Refused}
use Rattle.model.specs.Lists.{All, empty, more, Answer, accepted, refused, each}
use Rattle.model.specs.Table.{Component, Table, Read}
use Rattle.model.specs.Build.{location, clock_guard, update, pair_of, arc, component, network, banded, all_budgeted, with_budgets}
use Rattle.model.specs.Bytes.{table_bytes}
use Rattle.model.specs.Reader.{read_table}
use Rattle.model.specs.Schedule.{Passage, seven_of}
use Rattle.model.specs.Checks.{accepted_schedule, accepted_schedule_of}
use Rattle.model.specs.Program.{Statement, block_bytes, location_block, edge_block, program_bytes, part_of}
use Rattle.model.specs.Machine.{exec}
use Rattle.model.specs.Network.{Label, tick, step_in, together, step_out, start, onward, follow}
use Rattle.model.specs.Run.{choose1, run, observation_bytes}
use Rattle.model.specs.Calls.{verdict_of, accepted_schedule_in, check_call, RunCall, run_call}

-- "Probe 0: L0 x0 ≤ 5, L1 x0 ≤ 10; e0 send L0 to L1, low 3; e1 internal L1 to L0, low 8, resets x0." By the low of e0.
abbrev pub probe : ℕ → Component
probe sends =
    component 0 1 0 (location 0 5 ∷ location 0 10 ∷ [])
    (arc 0 1 0 (Send 0) (clock_guard 0 sends 65535 ∷ []) [] [] [] ∷ arc 1 0 1 Internal (clock_guard 0 8 65535 ∷ []) [] [] [] ∷ [])

-- "Hub 1, one variable: L0 x0 ≤ 6, L1 and L2 x0 ≤ 10; e0 receive L0, low 2, channel 0 to L1, else L2;
-- e1 L1 to L0, low 9, reset, add 1; e2 L2 to L0, low 9, reset." By the low of e0, the bound of L0 and the updates of e1.
abbrev pub hub : ℕ → ℕ → List Update → Component
hub listens bound updates =
    component 0 1 1 (location 0 bound ∷ location 0 10 ∷ location 0 10 ∷ [])
    (arc 0 2 0 Receive (clock_guard 0 listens 65535 ∷ []) [] [] (pair_of 0 1 ∷ [])
    ∷ arc 1 0 1 Internal (clock_guard 0 9 65535 ∷ []) [] updates []
    ∷ arc 2 0 1 Internal (clock_guard 0 9 65535 ∷ []) [] [] []
    ∷ [])

abbrev pub add_one : List Update
add_one = update 0 true (pos 1) ∷ []

-- "H = 20, one channel."
abbrev pub worked : ℕ → Read
worked horizon = network 1 horizon (probe 3 ∷ hub 2 6 add_one ∷ [])

-- the same in version 3, by the budget of the probe's edges and of the hub's
abbrev pub work_budgets : ℕ → ℕ → Read
work_budgets p h = with_budgets (0 ∷ []) 20 (all_budgeted p (probe 3) ∷ all_budgeted h (hub 2 6 add_one) ∷ [])

abbrev pub changed : Component → Component → Read
changed p h = network 1 20 (p ∷ h ∷ [])

-- the printed schedule, 255 where no message stands
abbrev pub worked_schedule : List ℕ
worked_schedule = 0 ∷ 0 ∷ 0 ∷ 0 ∷ 3 ∷ 5 ∷ 0
    ∷ 1 ∷ 0 ∷ 0 ∷ 0 ∷ 2 ∷ 6 ∷ 0
    ∷ 0 ∷ 1 ∷ 1 ∷ 5 ∷ 8 ∷ 10 ∷ 255
    ∷ 1 ∷ 1 ∷ 1 ∷ 6 ∷ 9 ∷ 10 ∷ 255
    ∷ 0 ∷ 0 ∷ 0 ∷ 10 ∷ 13 ∷ 15 ∷ 0
    ∷ 1 ∷ 0 ∷ 0 ∷ 10 ∷ 12 ∷ 16 ∷ 0
    ∷ 0 ∷ 1 ∷ 1 ∷ 15 ∷ 18 ∷ 20 ∷ 255
    ∷ 1 ∷ 1 ∷ 1 ∷ 16 ∷ 19 ∷ 20 ∷ 255
    ∷ []

-- its bytes: "103 bytes"
abbrev pub worked_bytes : List ℕ
worked_bytes = 0x01 ∷ 0x00 ∷ 0x67 ∷ 0x02 ∷ 0x01 ∷ 0x00 ∷ 0x14
    ∷ 0x00 ∷ 0x26 ∷ 0x02 ∷ 0x00 ∷ 0x01 ∷ 0x00 ∷ 0x02
    ∷ 0x00 ∷ 0x00 ∷ 0x05 ∷ 0x00 ∷ 0x00 ∷ 0x0a
    ∷ 0x01 ∷ 0x00 ∷ 0x01 ∷ 0x00 ∷ 0x01 ∷ 0x00 ∷ 0x01 ∷ 0x00 ∷ 0x00 ∷ 0x03 ∷ 0xff ∷ 0xff ∷ 0x00
    ∷ 0x00 ∷ 0x01 ∷ 0x00 ∷ 0x01 ∷ 0x01 ∷ 0x00 ∷ 0x00 ∷ 0x00 ∷ 0x00 ∷ 0x08 ∷ 0xff ∷ 0xff
    ∷ 0x00 ∷ 0x3a ∷ 0x03 ∷ 0x00 ∷ 0x01 ∷ 0x01 ∷ 0x03
    ∷ 0x00 ∷ 0x00 ∷ 0x06 ∷ 0x00 ∷ 0x00 ∷ 0x0a ∷ 0x00 ∷ 0x00 ∷ 0x0a
    ∷ 0x02 ∷ 0x00 ∷ 0x02 ∷ 0x00 ∷ 0x01 ∷ 0x00 ∷ 0x01 ∷ 0x00 ∷ 0x00 ∷ 0x02 ∷ 0xff ∷ 0xff ∷ 0x00 ∷ 0x01
    ∷ 0x00 ∷ 0x01 ∷ 0x00 ∷ 0x01 ∷ 0x01 ∷ 0x00 ∷ 0x01 ∷ 0x00 ∷ 0x00 ∷ 0x09 ∷ 0xff ∷ 0xff ∷ 0x00 ∷ 0x01 ∷ 0x00 ∷ 0x01
    ∷ 0x00 ∷ 0x02 ∷ 0x00 ∷ 0x01 ∷ 0x01 ∷ 0x00 ∷ 0x00 ∷ 0x00 ∷ 0x00 ∷ 0x09 ∷ 0xff ∷ 0xff
    ∷ []

-- ## Two sends at once (document 02, wish 2)

-- a send on channel k, from `low` to `bound`; and a receive on channel k, from 1 to 9. Both rest then.
abbrev pub resting : Component → Component
resting C = component C.initial C.clocks C.variables (C.locations ++ (location 0 12 ∷ [])) (C.arcs ++ (arc 1 1 0 Internal (clock_guard 0 11 65535 ∷ []) [] [] [] ∷ []))

abbrev pub sender : ℕ → ℕ → ℕ → Component
sender k low bound = resting (component 0 1 0 (location 0 bound ∷ []) (arc 0 1 0 (Send k) (clock_guard 0 low 65535 ∷ []) [] [] [] ∷ []))

abbrev pub listener : ℕ → Component
listener k = resting (component 0 1 0 (location 0 9 ∷ []) (arc 0 1 0 Receive (clock_guard 0 1 65535 ∷ []) [] [] (pair_of k 1 ∷ []) ∷ []))

-- sends from 3 to 5 on channel 0 and from 4 to 6 on channel 1, each with a listener of its own
abbrev pub at_once : List Component
at_once = sender 0 3 5 ∷ sender 1 4 6 ∷ listener 0 ∷ listener 1 ∷ []

-- their bytes after the header, which has one byte a channel behind it in version 2
abbrev pub at_once_parts : List ℕ
at_once_parts = 0x00 ∷ 0x26 ∷ 0x02 ∷ 0x00 ∷ 0x01 ∷ 0x00 ∷ 0x02 ∷ 0x00 ∷ 0x00 ∷ 0x05 ∷ 0x00 ∷ 0x00 ∷ 0x0c
    ∷ 0x01 ∷ 0x00 ∷ 0x01 ∷ 0x00 ∷ 0x01 ∷ 0x00 ∷ 0x01 ∷ 0x00 ∷ 0x00 ∷ 0x03 ∷ 0xff ∷ 0xff ∷ 0x00
    ∷ 0x00 ∷ 0x01 ∷ 0x01 ∷ 0x00 ∷ 0x01 ∷ 0x00 ∷ 0x00 ∷ 0x00 ∷ 0x00 ∷ 0x0b ∷ 0xff ∷ 0xff
    ∷ 0x00 ∷ 0x26 ∷ 0x02 ∷ 0x00 ∷ 0x01 ∷ 0x00 ∷ 0x02 ∷ 0x00 ∷ 0x00 ∷ 0x06 ∷ 0x00 ∷ 0x00 ∷ 0x0c
    ∷ 0x01 ∷ 0x00 ∷ 0x01 ∷ 0x00 ∷ 0x01 ∷ 0x00 ∷ 0x01 ∷ 0x00 ∷ 0x00 ∷ 0x04 ∷ 0xff ∷ 0xff ∷ 0x01
    ∷ 0x00 ∷ 0x01 ∷ 0x01 ∷ 0x00 ∷ 0x01 ∷ 0x00 ∷ 0x00 ∷ 0x00 ∷ 0x00 ∷ 0x0b ∷ 0xff ∷ 0xff
    ∷ 0x00 ∷ 0x27 ∷ 0x02 ∷ 0x00 ∷ 0x01 ∷ 0x00 ∷ 0x02 ∷ 0x00 ∷ 0x00 ∷ 0x09 ∷ 0x00 ∷ 0x00 ∷ 0x0c
    ∷ 0x02 ∷ 0x00 ∷ 0x01 ∷ 0x00 ∷ 0x01 ∷ 0x00 ∷ 0x01 ∷ 0x00 ∷ 0x00 ∷ 0x01 ∷ 0xff ∷ 0xff ∷ 0x00 ∷ 0x01
    ∷ 0x00 ∷ 0x01 ∷ 0x01 ∷ 0x00 ∷ 0x01 ∷ 0x00 ∷ 0x00 ∷ 0x00 ∷ 0x00 ∷ 0x0b ∷ 0xff ∷ 0xff
    ∷ 0x00 ∷ 0x27 ∷ 0x02 ∷ 0x00 ∷ 0x01 ∷ 0x00 ∷ 0x02 ∷ 0x00 ∷ 0x00 ∷ 0x09 ∷ 0x00 ∷ 0x00 ∷ 0x0c
    ∷ 0x02 ∷ 0x00 ∷ 0x01 ∷ 0x00 ∷ 0x01 ∷ 0x00 ∷ 0x01 ∷ 0x00 ∷ 0x00 ∷ 0x01 ∷ 0xff ∷ 0xff ∷ 0x01 ∷ 0x01
    ∷ 0x00 ∷ 0x01 ∷ 0x01 ∷ 0x00 ∷ 0x01 ∷ 0x00 ∷ 0x00 ∷ 0x00 ∷ 0x00 ∷ 0x0b ∷ 0xff ∷ 0xff
    ∷ []

-- version 2 with these bands; and version 1, two bytes shorter
abbrev pub on_bands : ℕ → ℕ → List ℕ
on_bands one other = (0x02 ∷ 0x00 ∷ 0xa3 ∷ 0x04 ∷ 0x02 ∷ 0x00 ∷ 0x0c ∷ one ∷ other ∷ []) ++ at_once_parts

abbrev pub on_one_radio : List ℕ
on_one_radio = (0x01 ∷ 0x00 ∷ 0xa1 ∷ 0x04 ∷ 0x02 ∷ 0x00 ∷ 0x0c ∷ []) ++ at_once_parts

-- a row: what was asked, and what document 01 answers
pub data Row : Type 0 where
  bytes : Read → List ℕ → Row
  reads : List ℕ → Answer Read → Row
  checks : List ℕ → Verdict → Row
  plans : Read → Verdict → Row
  passes : Read → List ℕ → Row
  writes : List Statement → List ℕ → Row
  -- a list of steps of the worked network: the tick that it leads to, or none where it is no path
  walks : List Label → Option ℕ → Row
  -- table, choices and lent bytes: the verdict, all numbers, and every lent byte afterwards
  runs : List ℕ → List ℕ → List ℕ → RunCall → Row

abbrev pub fields_of : Answer (List Passage) → List ℕ
fields_of (accepted S) = each seven_of S
fields_of (refused n c) = []

abbrev pub tick_after : Table → List Label → Option ℕ
tick_after T path = onward (follow T (start T) path) (λ s. some s.tick) none

-- ## What a run answers

-- an observation's bytes, for one clock and one variable, all below 256: "component, edge, location, 0, tick (4 bytes), four clocks
-- grown by n (4 each), four variables (2 each); absent ones 0"; then when the previous work finished
abbrev pub old32 : ℕ → ℕ → ℕ → ℕ → ℕ → ℕ → List ℕ
old32 component edge location now clock value =
    (component ∷ edge ∷ location ∷ 0 ∷ 0 ∷ 0 ∷ 0 ∷ now ∷ 0 ∷ 0 ∷ 0 ∷ clock ∷ replicate 12 0) ++ (0 ∷ value ∷ replicate 6 0)

-- a node's first
abbrev pub first_seen : ℕ → ℕ → ℕ → ℕ → ℕ → ℕ → List ℕ
first_seen component edge location now clock value = old32 component edge location now clock value ++ replicate 4 0xff

-- one whose previous work finished at that tick, below 256
abbrev pub observed : ℕ → ℕ → ℕ → ℕ → ℕ → ℕ → ℕ → List ℕ
observed component edge location now clock value finish = old32 component edge location now clock value ++ (0 ∷ 0 ∷ 0 ∷ finish ∷ [])

-- the bytes lent to the runs: four more than the eight passages need
abbrev pub lent : List ℕ
lent = replicate 292 0xaa

-- end, tick, choices used and number of observations; the lent bytes afterwards are the observations' bytes and so many that are kept
abbrev pub answered : End → ℕ → ℕ → ℕ → List ℕ → ℕ → RunCall
answered end now used size shown kept =
    record {
      verdict = Accepted;
      end = end;
      tick = now;
      used = used;
      size = size;
      lent = shown ++ replicate kept 0xaa;
    }

-- a refusal: "Lent buffers keep their bytes"
abbrev pub refused_with : ℕ → ℕ → List ℕ → RunCall
refused_with n c bs = record { verdict = Refused n c; end = Horizon; tick = 0; used = 0; size = 0; lent = bs }

-- hub's and probe's first sleep
abbrev pub hub_slept : List ℕ
hub_slept = first_seen 1 0 0 2 2 0

abbrev pub both_slept : List ℕ
both_slept = hub_slept ++ first_seen 0 0 0 3 3 0

-- "They stand in finishing order": one for each passage of the schedule, at its ready
abbrev pub all_slept : List ℕ
all_slept =
    both_slept ++ observed 0 1 1 8 8 0 3 ++ observed 1 1 1 9 9 0 3 ++ observed 1 0 0 12 2 1 9 ++ observed 0 0 0 13 3 0 8 ++ observed 0 1 1 18 8 0 13
    ++ observed 1 1 1 19 9 1 13

-- both nodes to their first sleep, two ticks, the hub's sleep, a tick, the probe's sleep
abbrev pub to_the_send : List ℕ
to_the_send = 0 ∷ 0 ∷ 0 ∷ 0 ∷ 0 ∷ 1 ∷ 1 ∷ 1 ∷ 1 ∷ 1 ∷ 255 ∷ 255 ∷ 1 ∷ 255 ∷ 0 ∷ []

-- From the send at 3 to tick 10: the message, age, enter and choose of both, probe's block of five and hub's block of five, five ticks, probe's
-- sleep at 8 and its work, reset, enter, choose and block of five; a tick, hub's sleep at 9 and its work of two, then the same.
abbrev pub to_the_second_round : List ℕ
to_the_second_round =
    replicate 9 0 ++ replicate 8 1 ++ replicate 5 255 ++ replicate 10 0 ++ (255 ∷ []) ++ replicate 11 1 ++ (255 ∷ [])

-- the second round: from tick 10, both nodes before their sleep, to the probe's sleep at 13
abbrev pub to_the_second_send : List ℕ
to_the_second_send = 255 ∷ 255 ∷ 1 ∷ 255 ∷ 0 ∷ []

abbrev pub to_the_horizon : List ℕ
to_the_horizon = to_the_send ++ to_the_second_round ++ to_the_second_send ++ to_the_second_round

-- two sends at once: all four nodes to their first sleep, the listeners' sleep at 1, the senders' at 3 and 4, and both messages at 4
abbrev pub both_send : List ℕ
both_send =
    replicate 5 0 ++ replicate 5 1 ++ replicate 5 2 ++ replicate 5 3 ++ (255 ∷ 2 ∷ 3 ∷ 255 ∷ 255 ∷ 0 ∷ 255 ∷ 1 ∷ 0 ∷ 1 ∷ [])

abbrev pub both_sent : List ℕ
both_sent = first_seen 2 0 0 1 1 0 ++ first_seen 3 0 0 1 1 0 ++ first_seen 0 0 0 3 3 0 ++ first_seen 1 0 0 4 4 0

abbrev pub Holds : Row → Type 0
Holds (bytes t bs) = table_bytes t ≡ bs
Holds (reads bs a) = read_table bs ≡ a
Holds (checks bs v) = check_call bs ≡ v
Holds (plans t v) = verdict_of (accepted_schedule_of t) ≡ v
Holds (passes t l) = fields_of (accepted_schedule_of t) ≡ l
Holds (writes b bs) = block_bytes b ≡ bs
Holds (walks path t) = tick_after (worked 20).table path ≡ t
Holds (runs table choices bs answer) = run_call table choices bs ≡ answer

abbrev pub rows : List Row
rows =
    -- the worked table
    bytes (worked 20) worked_bytes
    ∷ reads worked_bytes (accepted (worked 20))
    ∷ checks worked_bytes Accepted
    -- "Empty: 1."
    ∷ checks [] (Refused 1 255)
    -- "H = 0: 3."
    ∷ checks (table_bytes (worked 0)) (Refused 3 255)
    -- "Accepted, as above."
    ∷ plans (worked 20) Accepted
    ∷ passes (worked 20) worked_schedule
    -- "Hub low 3: 11, component 0." "Hub bound 5: 11." Document 02, wish 3: "hub low 3 is now 16 and hub bound 5 is 17".
    ∷ plans (changed (probe 3) (hub 3 6 add_one)) (Refused 16 0)
    ∷ plans (changed (probe 3) (hub 2 5 add_one)) (Refused 17 0)
    -- "Probe e0 low 5: no window, 8."
    ∷ plans (changed (probe 5) (hub 2 6 add_one)) (Refused 8 0)
    -- "Hub e1 with updates set 32,767, add 1: 9, component 1; set 32,766, add 1: accepted."
    ∷ plans (changed (probe 3) (hub 2 6 (update 0 false (pos 32767) ∷ add_one))) (Refused 9 1)
    ∷ plans (changed (probe 3) (hub 2 6 (update 0 false (pos 32766) ∷ add_one))) Accepted
    -- "Probe's L0 block: 0A000000 0C000005 0B000003 0F000000 10000000. Its e0 block: 00000000 04000000 07000000 09000001 11000000."
    ∷ writes (location_block (probe 3) 0)
    (0x0A ∷ 0 ∷ 0 ∷ 0 ∷ 0x0C ∷ 0 ∷ 0 ∷ 5 ∷ 0x0B ∷ 0 ∷ 0 ∷ 3 ∷ 0x0F ∷ 0 ∷ 0 ∷ 0 ∷ 0x10 ∷ 0 ∷ 0 ∷ 0 ∷ [])
    ∷ writes (edge_block (probe 3) 0)
    (0x00 ∷ 0 ∷ 0 ∷ 0 ∷ 0x04 ∷ 0 ∷ 0 ∷ 0 ∷ 0x07 ∷ 0 ∷ 0 ∷ 0 ∷ 0x09 ∷ 0 ∷ 0 ∷ 1 ∷ 0x11 ∷ 0 ∷ 0 ∷ 0 ∷ [])
    -- to tick 6, the message at 3
    ∷ walks (tick ∷ tick ∷ tick ∷ together 0 0 1 0 ∷ tick ∷ tick ∷ step_out 0 ∷ tick ∷ step_out 1 ∷ []) (some 6)
    -- the message at the probe's end
    ∷ walks (tick ∷ tick ∷ tick ∷ tick ∷ tick ∷ together 0 0 1 0 ∷ step_out 0 ∷ []) (some 5)
    -- the probe is not ready
    ∷ walks (tick ∷ tick ∷ together 0 0 1 0 ∷ []) none
    -- a send alone
    ∷ walks (tick ∷ tick ∷ tick ∷ step_in 0 0 ∷ []) none
    -- a send and a receive that is none
    ∷ walks (tick ∷ tick ∷ tick ∷ together 0 0 1 1 ∷ []) none
    -- a second step in, waiting already
    ∷ walks (tick ∷ tick ∷ tick ∷ together 0 0 1 0 ∷ together 0 0 1 0 ∷ []) none
    -- a timeout before the end
    ∷ walks (tick ∷ tick ∷ tick ∷ step_in 1 0 ∷ []) none
    -- a step out before the end
    ∷ walks (tick ∷ tick ∷ tick ∷ together 0 0 1 0 ∷ step_out 0 ∷ []) none
    -- a tick past a waiting component's end
    ∷ walks (tick ∷ tick ∷ tick ∷ together 0 0 1 0 ∷ tick ∷ tick ∷ tick ∷ []) none
    -- a tick that breaks the probe's invariant
    ∷ walks (tick ∷ tick ∷ tick ∷ tick ∷ tick ∷ tick ∷ []) none
    -- an edge from another location
    ∷ walks (tick ∷ tick ∷ tick ∷ step_in 0 1 ∷ []) none
    -- an absent component
    ∷ walks (step_in 2 0 ∷ []) none
    -- "No choices: end 1, tick 0."
    ∷ runs worked_bytes [] lent (answered UsedUp 0 0 0 [] 292)
    -- a byte too few for the eight passages: 13
    ∷ runs worked_bytes [] (replicate 287 0xaa) (refused_with 13 255 (replicate 287 0xaa))
    -- just enough
    ∷ runs worked_bytes [] (replicate 288 0xaa) (answered UsedUp 0 0 0 [] 288)
    -- a table that is refused is not run
    ∷ runs (table_bytes (worked 0)) (255 ∷ []) lent (refused_with 3 255 lent)
    -- byte 254
    ∷ runs worked_bytes (254 ∷ []) lent (answered NotAllowed 0 0 0 [] 292)
    -- an absent node
    ∷ runs worked_bytes (2 ∷ []) lent (answered NotAllowed 0 0 0 [] 292)
    -- ticks only: hub yet to reach its sleep at 2
    ∷ runs worked_bytes (255 ∷ 255 ∷ 255 ∷ 255 ∷ 255 ∷ []) lent (answered (Late 1) 3 3 0 [] 292)
    -- tick while a sleep is due
    ∷ runs worked_bytes (1 ∷ 1 ∷ 1 ∷ 1 ∷ 1 ∷ 255 ∷ 255 ∷ 255 ∷ []) lent (answered NotAllowed 2 7 0 [] 292)
    -- listen before its end
    ∷ runs worked_bytes (1 ∷ 1 ∷ 1 ∷ 1 ∷ 1 ∷ 255 ∷ 255 ∷ 1 ∷ 1 ∷ []) lent (answered NotAllowed 2 8 1 hub_slept 256)
    -- send at its end 5
    ∷ runs worked_bytes (to_the_send ++ (255 ∷ 255 ∷ 0 ∷ [])) lent (answered UsedUp 5 18 2 both_slept 220)
    -- no send by its end 5: late at 6
    ∷ runs worked_bytes (to_the_send ++ (255 ∷ 255 ∷ 255 ∷ 255 ∷ [])) lent (answered (Late 0) 6 18 2 both_slept 220)
    -- send at 3, listener's statement is finished too
    ∷ runs worked_bytes (to_the_send ++ (0 ∷ 1 ∷ 1 ∷ 1 ∷ [])) lent (answered UsedUp 3 19 2 both_slept 220)
    -- hub ahead, probe not: late at 9
    ∷ runs worked_bytes (to_the_send ++ (0 ∷ replicate 8 1 ++ replicate 6 255)) lent (answered (Late 0) 9 30 2 both_slept 220)
    -- to the horizon, all eight observations; later choices are ignored
    ∷ runs worked_bytes (to_the_horizon ++ (0 ∷ 255 ∷ 254 ∷ [])) lent (answered Horizon 20 110 8 all_slept 4)
    -- Document 02, wish 2. Two sends at once on two bands: accepted. On one band, and in version 1: 10, component 0.
    ∷ bytes (banded (0 ∷ 1 ∷ []) 12 at_once) (on_bands 0 1)
    ∷ reads (on_bands 0 1) (accepted (banded (0 ∷ 1 ∷ []) 12 at_once))
    ∷ checks (on_bands 0 1) Accepted
    ∷ checks (on_bands 3 2) Accepted
    ∷ checks (on_bands 1 1) (Refused 10 0)
    ∷ checks on_one_radio (Refused 10 0)
    -- a band above 3, and a table too short for its bands: 3
    ∷ checks (on_bands 0 4) (Refused 3 255)
    ∷ checks (0x02 ∷ 0x00 ∷ 0x09 ∷ 0x01 ∷ 0x03 ∷ 0x00 ∷ 0x14 ∷ 0x00 ∷ 0x00 ∷ []) (Refused 3 255)
    -- its bands, and no component: 4
    ∷ checks (0x02 ∷ 0x00 ∷ 0x09 ∷ 0x01 ∷ 0x02 ∷ 0x00 ∷ 0x14 ∷ 0x00 ∷ 0x00 ∷ []) (Refused 4 0)
    -- version 4: 1; version 3 with its bands, and no component: 4
    ∷ checks (0x04 ∷ 0x00 ∷ 0x09 ∷ 0x01 ∷ 0x02 ∷ 0x00 ∷ 0x14 ∷ 0x00 ∷ 0x00 ∷ []) (Refused 1 255)
    ∷ checks (0x03 ∷ 0x00 ∷ 0x09 ∷ 0x01 ∷ 0x02 ∷ 0x00 ∷ 0x14 ∷ 0x00 ∷ 0x00 ∷ []) (Refused 4 0)
    -- the worked table in version 3: each window is as long as its budget; one tick more on the probe's edges, of which the first takes from 3 to 5: 8;
    -- a budget above 60,000: 5
    ∷ checks (table_bytes (work_budgets 2 1)) Accepted
    ∷ checks (table_bytes (work_budgets 3 1)) (Refused 8 0)
    ∷ checks (table_bytes (work_budgets 60001 1)) (Refused 5 0)
    -- both messages at tick 4
    ∷ runs (on_bands 0 1) both_send lent (answered UsedUp 4 30 4 both_sent 148)
    ∷ []

pub cases : All Holds rows
unfolding table_bytes read_table check_call accepted_schedule_in accepted_schedule each block_bytes location_block edge_block follow run_call run program_bytes observation_bytes part_of choose1 exec
cases =
    more refl (more refl (more refl (more refl (more refl (more refl (more refl (more refl (more refl (more refl (more refl (more refl (more refl (more refl (more refl (more refl (more refl (more refl (more refl (more refl (more refl (more refl (more refl (more refl (more refl (more refl (more refl (more refl (more refl (more refl (more refl (more refl (more refl (more refl (more refl (more refl (more refl (more refl (more refl (more refl (more refl (more refl (more refl (more refl (more refl (more refl (more refl (more refl (more refl (more refl (more refl (more refl (more refl (more refl (more refl empty))))))))))))))))))))))))))))))))))))))))))))))))))))))
