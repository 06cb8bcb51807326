-- Document 01 as it stood before document 02's wishes 2, 3 and 6, kept to say what tables of version 1 got: their reader, checks 10 to 12, schedule,
-- program and calls, not defined through those of today. What a table of version 1 got then, it gets now, with 15 to 17 read as 11 (the laws are in
-- proofs/Reader/Versions.antt). And what stood before wish 8, kept to say what tables of versions 1 and 2 got: the reader, the choice, the program.
-- Where document 01's definition still stands as it was (a component's parts, the passages, the run's statements), it is used.
use Rattle.std.specs.Prelude.{Bool, false, cond, ◌&&◌, not, List, [], ◌∷◌, ◌++◌, map, ℕ, suc, ◌+◌, ◌*◌, leb, ltb, eqb, ℤ, length, drop, replicate}
use Rattle.std.proofs.Math.Option.{Option, none}
use Rattle.model.specs.declared.Location.{Location}
use Rattle.model.specs.declared.Verdict.{Verdict}
use Rattle.model.specs.Lists.{any, only, below, first, be16, each, Answer, accepted, refused, ◌after◌}
use Rattle.model.specs.Table.{Arc, Component, Table, Read, size, location_of}
use Rattle.model.specs.Reader.{byte, word, read_components, length_fine, count_fine, body_start, bands_fine, read_with}
use Rattle.model.specs.Window.{Entry, Pick, ready_of, past_of, data_holds, window_of, better, channel_of}
use Rattle.model.specs.Schedule.{Passage, passage_arc, names, own, others, schedule, seven_of}
use Rattle.model.specs.Checks.{is_send, is_receive, two, fault_of, limit}
use Rattle.model.specs.Program.{Statement, trial, high, keep, take_edge, clock_tests, data_tests, edge_block, block_bytes, start_bytes}
use Rattle.model.specs.Run.{Setting, ready_of_nth, run, observation_bytes, observation_width}
use Rattle.model.specs.Calls.{Call, RunCall, laid, verdict_of, schedule_with, bytes_with, not_run, ran}
use Rattle.model.specs.Meetings.{MeetingsCall, with_met, list_or, about}
use Rattle.model.specs.Chart.{chart}

-- ## 1 to 6

-- a table of document 01 has no bands; in today's value it is one of version 1, all channels on band 0
abbrev pub read_with01 : List ℕ → List Component → Read
read_with01 bs l =
    record {
      version = 1;
      table = record { channels = byte bs 4; bands = replicate (byte bs 4) 0; components = l };
      horizon = word bs 5;
    }

-- 1. "Is the first byte 1?" 3: "components, channels, horizon". The components stand right after the header's 7 bytes.
unfoldable pub read_table01 : List ℕ → Answer Read
unfolding read_components
read_table01 bs =
    let fourth = (read_components (record { channels = byte bs 4; budgets = false }) (byte bs 3) 0 (drop 7 bs) after λ l. accepted (read_with01 bs l)) in
    let third = cond (count_fine bs) fourth (refused 3 255) in
    let second = cond (length_fine bs) third (refused 2 255) in
    cond (eqb (byte bs 0) 1) second (refused 1 255)

-- as wish 2 left them: "Table version 2 adds .. one byte per channel with its band", and no edge has a budget
unfoldable pub read_table12 : List ℕ → Answer Read
unfolding read_components
read_table12 bs =
    let fourth = (read_components (record { channels = byte bs 4; budgets = false }) (byte bs 3) 0 (drop (body_start bs) bs) after λ l. accepted (read_with bs l)) in
    let third = cond (count_fine bs && bands_fine bs) fourth (refused 3 255) in
    let second = cond (length_fine bs) third (refused 2 255) in
    cond (leb 1 (byte bs 0) && leb (byte bs 0) 2) second (refused 1 255)

-- ## 7 to 12

-- "share a tick"
abbrev pub share_tick : Passage → Passage → Bool
share_tick v w = leb v.ready w.end && leb w.ready v.end

-- 10. "Do no two send windows of different components share a tick?", whatever their channels
abbrev pub meets01 : Table → ℕ → Passage → Passage → Bool
meets01 T H s o = is_send T H o && others o s && share_tick s o

abbrev pub collides01 : Table → ℕ → List Passage → Passage → Bool
collides01 T H S s = is_send T H s && any (meets01 T H s) S

-- 11. "Is there exactly one receive window of another component, naming the channel, that shares a tick with the send window, and does it start
-- earlier and end later?"
abbrev pub may_hear01 : Table → Passage → Passage → Bool
may_hear01 T r s = is_receive T r && others r s && names (passage_arc T r) (channel_of (passage_arc T s)) && share_tick r s

abbrev pub heard_well01 : Passage → List Passage → Bool
heard_well01 s [] = false
heard_well01 s (r ∷ []) = ltb r.ready s.ready && ltb s.end r.end
heard_well01 s (r ∷ q ∷ rs) = false

abbrev pub unheard01 : Table → ℕ → List Passage → Passage → Bool
unheard01 T H S s = is_send T H s && not (heard_well01 s (only (λ r. may_hear01 T r s) S))

-- 12. "Does no receive window share a tick with two send windows of other components on its channels?"
abbrev pub crowded01 : Table → ℕ → List Passage → Passage → Bool
crowded01 T H S r = is_receive T r && two (only (λ s. is_send T H s && may_hear01 T r s) S)

unfoldable pub checked01 : Table → ℕ → List Passage → Answer (List Passage)
checked01 T H S =
    fault_of 10 (first (collides01 T H S) S)
    (fault_of 11 (first (unheard01 T H S) S) (fault_of 12 (first (crowded01 T H S) S) (accepted S)))

abbrev pub accepted_schedule_of01 : Read → Answer (List Passage)
accepted_schedule_of01 t = schedule limit t.table t.horizon after λ S. checked01 t.table t.horizon S

-- ## The rule before wish 8, and the program: "Programs of versions 1 and 2 are compared with the earlier rule"

-- "The edge is a candidate if they hold and ready < end."
abbrev pub candidate12 : Location → Arc → List ℕ → List ℤ → Bool
candidate12 l a xs vs = data_holds a.data_guards vs && ltb (suc (ready_of a.clock_guards xs)) (past_of l a.clock_guards xs)

abbrev pub considered12 : Location → ℕ → List ℕ → List ℤ → ℕ → Arc → Option Pick → Option Pick
considered12 l here xs vs e a k = cond (eqb a.edge.source here && candidate12 l a xs vs) (better k (window_of l e a xs)) k

unfoldable pub chosen12 : Location → ℕ → List ℕ → List ℤ → ℕ → List Arc → Option Pick → Option Pick
chosen12 l here xs vs e [] k = k
chosen12 l here xs vs e (a ∷ as') k = chosen12 l here xs vs (suc e) as' (considered12 l here xs vs e a k)

unfoldable pub choice12 : Component → Entry → Option Pick
unfolding chosen12
choice12 C at = chosen12 (location_of C at.location) at.location at.clocks at.values 0 C.arcs none

-- "0A trial; 0C high for the invariant; per clock bound ..; per data bound ..; 0F keep, k = edge"
abbrev pub trial_of12 : Location → ℕ → Arc → List Statement
trial_of12 l e a = trial ∷ high l.clock l.bound ∷ (clock_tests a.clock_guards ++ (data_tests a.data_guards ++ (keep e ∷ [])))

unfoldable pub trials12 : Location → ℕ → ℕ → List Arc → List Statement
trials12 l here e [] = []
trials12 l here e (a ∷ as') = cond (eqb a.edge.source here) (trial_of12 l e a ++ trials12 l here (suc e) as') (trials12 l here (suc e) as')

-- "Location block: per edge from it ..; last 10 take."
unfoldable pub location_block12 : Component → ℕ → List Statement
unfolding trials12
location_block12 C here = trials12 (location_of C here) here 0 C.arcs ++ (take_edge ∷ [])

-- "for each location's block, then each edge's block"
unfoldable pub blocks12 : Component → List (List Statement)
unfolding location_block12 edge_block
blocks12 C = map (location_block12 C) (below (length C.locations)) ++ map (edge_block C) (below (length C.arcs))

-- "Per component: length, these two bytes included (2 bytes); locations; edges; initial location; a zero byte; [starts]; then those blocks in that order."
unfoldable pub node_body12 : Component → List ℕ
unfolding blocks12 start_bytes block_bytes each
node_body12 C =
    (length C.locations ∷ length C.arcs ∷ C.initial ∷ 0 ∷ []) ++ (start_bytes 0 (blocks12 C) ++ each block_bytes (blocks12 C))

unfoldable pub node_bytes12 : Component → List ℕ
unfolding node_body12
node_bytes12 C = be16 (2 + length (node_body12 C)) ++ node_body12 C

-- "A program begins with its table's version"; "total length (2 bytes); component count; H (2 bytes)"
unfoldable pub program_bytes12 : Read → List ℕ
unfolding each node_bytes12
program_bytes12 t =
    let rest = each node_bytes12 t.table.components in
    (t.version ∷ be16 (6 + length rest)) ++ ((size t.table ∷ be16 t.horizon) ++ rest)

-- document 01's: "Version 1; total length (2 bytes); component count; H (2 bytes)."
unfoldable pub program_bytes01 : Read → List ℕ
unfolding each node_bytes12
program_bytes01 t =
    let rest = each node_bytes12 t.table.components in
    (1 ∷ be16 (6 + length rest)) ++ ((size t.table ∷ be16 t.horizon) ++ rest)

-- ## The calls

unfoldable pub check_call01 : List ℕ → Verdict
unfolding read_table01 schedule checked01
check_call01 table = verdict_of (read_table01 table after accepted_schedule_of01)

unfoldable pub schedule_call01 : List ℕ → List ℕ → Call
unfolding read_table01 schedule checked01 each
schedule_call01 table lent = schedule_with lent (read_table01 table after accepted_schedule_of01)

unfoldable pub translate_call01 : List ℕ → List ℕ → Call
unfolding read_table01 schedule checked01 program_bytes01
translate_call01 table lent = bytes_with lent (read_table01 table after λ t. accepted_schedule_of01 t after λ S. accepted (program_bytes01 t))

-- the chart (wish 1), of document 01's reader and schedule
unfoldable pub chart_call01 : List ℕ → List ℕ → Call
unfolding read_table01 schedule checked01 chart
chart_call01 table lent =
    bytes_with lent (read_table01 table after λ t. accepted_schedule_of01 t after λ S. accepted (chart t.table t.horizon S))

abbrev pub setting_of01 : Read → List Passage → Setting
setting_of01 t S =
    record {
      program = program_bytes01 t;
      horizon = t.horizon;
      counts = map (λ C. record { clocks = C.clocks; variables = C.variables }) t.table.components;
      ready = λ c k. ready_of_nth (own c S) k;
      -- "All nodes start together at tick 0"
      offsets = map (λ c. 0) (below (size t.table));
    }

abbrev pub run_with01 : Read → List ℕ → List ℕ → Answer (List Passage) → RunCall
run_with01 t choices lent (refused n c) = not_run n c lent
run_with01 t choices lent (accepted S) =
    cond (ltb (length lent) (length S * observation_width)) (not_run 13 255 lent)
    (cond (ltb 1000000 (length choices)) (not_run 14 255 lent) (ran (run (setting_of01 t S) choices) lent))

abbrev pub run_read01 : List ℕ → List ℕ → Answer Read → RunCall
run_read01 choices lent (refused n c) = not_run n c lent
run_read01 choices lent (accepted t) = run_with01 t choices lent (accepted_schedule_of01 t)

unfoldable pub run_call01 : List ℕ → List ℕ → List ℕ → RunCall
unfolding read_table01 schedule checked01 program_bytes01 run observation_bytes each
run_call01 table choices lent = run_read01 choices lent (read_table01 table)

-- the windows that met
unfoldable pub concerned01 : Table → ℕ → List Passage → List Passage
concerned01 T H S =
    with_met (λ s. only (meets01 T H s) S) (first (collides01 T H S) S)
    (with_met (λ s. only (λ r. may_hear01 T r s) S) (first (unheard01 T H S) S)
    (with_met (λ r. only (λ s. is_send T H s && may_hear01 T r s) S) (first (crowded01 T H S) S) []))

abbrev pub meetings_in01 : List ℕ → List Passage
meetings_in01 table =
    list_or (read_table01 table after λ t. schedule limit t.table t.horizon after λ S. accepted (concerned01 t.table t.horizon S))

unfoldable pub meetings_call01 : List ℕ → List ℕ → MeetingsCall
unfolding read_table01 schedule concerned01 check_call01 each
meetings_call01 table lent = about (check_call01 table) (laid (length (meetings_in01 table)) (each seven_of (meetings_in01 table)) lent)
