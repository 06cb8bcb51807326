-- The exported calls. Each has one definition, from its inputs and the lent numbers to its answer and the lent numbers afterwards.
use Rattle.std.specs.Prelude.{◌≡◌, ◌↔◌, Bool, true, false, cond, ◌&&◌, List, [], ◌∷◌, ◌++◌, ℕ, zero, suc, ◌*◌, ◌≤◌, leb, ltb, length, drop}
use Rattle.model.specs.declared.End.{End}
use Rattle.model.specs.declared.End.TheVariants.{Horizon, UsedUp, Late, NotAllowed}
use Rattle.model.specs.declared.Verdict.{Verdict}
use Rattle.model.specs.declared.Verdict.TheVariants.{Accepted, Refused}
use Rattle.model.specs.Lists.{Answer, accepted, refused, ◌after◌, each}
use Rattle.model.specs.Table.{Read, size}
use Rattle.model.specs.Reader.{read_table}
use Rattle.model.specs.Schedule.{Passage, seven_of}
use Rattle.model.specs.Checks.{accepted_schedule, accepted_schedule_at, accepted_schedule_of}
use Rattle.model.specs.Program.{program_bytes}
use Rattle.model.specs.Run.{Result, setting_at, setting_of, run, observation_bytes, observation_width, written_bytes, written_in}
use Rattle.model.specs.Demand3.{Demand3}
use Rattle.model.specs.Apart.{Permitted, Demand3Apart}

-- ## Answers

-- the answer as an enum
abbrev pub verdict_of : {A : Type 0} → Answer A → Verdict
verdict_of (accepted a) = Accepted
verdict_of (refused n c) = Refused n c

-- The numbers of a verdict where an enum cannot go: 0 for accepted, else document 01's number of the refusal;
-- and the component concerned, 255 where there is none: "255 for 1 to 3, 13, 14 and later numbers unless said there".
abbrev pub number_of : Verdict → ℕ
number_of Accepted = 0
number_of (Refused n c) = n

abbrev pub concerned_of : Verdict → ℕ
concerned_of Accepted = 255
concerned_of (Refused n c) = c

-- "The run ends with 0 horizon .., 1 choices used up, 2 late (lowest node), 3 choice not allowed ..; and the node (255 unless late)": the number
-- and the node of each case.
abbrev pub end_number : End → ℕ
end_number Horizon = 0
end_number UsedUp = 1
end_number (Late node) = 2
end_number NotAllowed = 3

abbrev pub end_node : End → ℕ
end_node Horizon = 255
end_node UsedUp = 255
end_node (Late node) = node
end_node NotAllowed = 255

-- the case that has this number and this node (the law `end_numbers` in proofs/Run/Ends.antt: for the numbers of every run)
abbrev pub end_of : ℕ → ℕ → End
end_of zero node = Horizon
end_of (suc zero) node = UsedUp
end_of (suc (suc zero)) node = Late node
end_of (suc (suc (suc n))) node = NotAllowed

-- ## Calls that write

-- the verdict, the size of the result (0 after a refusal), and the lent numbers afterwards
pub record Call : Type 0 where
  pub verdict : Verdict
  pub size : ℕ
  pub lent : List ℕ

-- "Lent buffers keep their bytes", also the shortest of them
abbrev pub refusing : ℕ → ℕ → List ℕ → Call
refusing n c lent = record { verdict = Refused n c; size = 0; lent = lent }

-- A result is laid over the front of what was lent: "on success so do those past the result". 13. "Does the lent buffer hold the result?" It is tried
-- after 1 to 12, of an accepted table: "13 and 14 refuse the call alone."
abbrev pub laid : ℕ → List ℕ → List ℕ → Call
laid size result lent =
    cond (leb (length result) (length lent))
    (record { verdict = Accepted; size = size; lent = result ++ drop (length result) lent })
    (refusing 13 255 lent)

-- ## The calls

-- 19. "A G above 1,000 is refused with 19 after 3": of the faults of a table only 1 to 3 come before it.
abbrev pub spread_fine : {A : Type 0} → ℕ → Answer A → Answer A
spread_fine G (accepted a) = cond (ltb 1000 G) (refused 19 255) (accepted a)
spread_fine G (refused n c) = cond (ltb 1000 G && ltb 3 n) (refused 19 255) (refused n c)

-- the table that the bytes are, for a spread G
abbrev pub read_at : ℕ → List ℕ → Answer Read
read_at G table = spread_fine G (read_table table)

-- checks 1 to 12 and 19: the schedule of a table's bytes
unfoldable pub accepted_schedule_in_at : ℕ → List ℕ → Answer (List Passage)
unfolding read_table accepted_schedule
accepted_schedule_in_at G table = read_at G table after accepted_schedule_at G

-- The call `check_spread`: accepted at the spread G
unfoldable pub check_call_at : ℕ → List ℕ → Verdict
unfolding accepted_schedule_in_at
check_call_at G table = verdict_of (accepted_schedule_in_at G table)

-- The call `largest_spread`: G is the largest spread at which the table is accepted, for it is accepted exactly at those up to G
abbrev pub LargestSpread : List ℕ → ℕ → Type 0
LargestSpread table G = (K : ℕ) → (check_call_at K table ≡ Accepted) ↔ (K ≤ G)

-- checks 1 to 12: the schedule of a table's bytes
unfoldable pub accepted_schedule_in : List ℕ → Answer (List Passage)
unfolding read_table accepted_schedule
accepted_schedule_in table = read_table table after accepted_schedule_of

-- The call `check`: "A table is accepted when 1 to 12 are passed". It is lent nothing to write.
unfoldable pub check_call : List ℕ → Verdict
unfolding accepted_schedule_in
check_call table = verdict_of (accepted_schedule_in table)

-- The call `schedule`: seven numbers a passage, in the order of the schedule. Its size is the number of passages.
abbrev pub schedule_with : List ℕ → Answer (List Passage) → Call
schedule_with lent (accepted S) = laid (length S) (each seven_of S) lent
schedule_with lent (refused n c) = refusing n c lent

unfoldable pub schedule_call : List ℕ → List ℕ → Call
unfolding accepted_schedule_in each
schedule_call table lent = schedule_with lent (accepted_schedule_in table)

-- The call `translate`: the program's bytes. Its size is their number.
abbrev pub program_in : List ℕ → Answer (List ℕ)
program_in table = read_table table after λ t. accepted_schedule_of t after λ S. accepted (program_bytes t)

-- bytes are laid, or the call is refused
abbrev pub bytes_with : List ℕ → Answer (List ℕ) → Call
bytes_with lent (accepted bytes) = laid (length bytes) bytes lent
bytes_with lent (refused n c) = refusing n c lent

unfoldable pub translate_call : List ℕ → List ℕ → Call
unfolding accepted_schedule_in program_bytes
translate_call table lent = bytes_with lent (program_in table)

-- ## The run

-- the verdict; the end, the tick and the choices used; the number of observations; and the lent bytes afterwards
pub record RunCall : Type 0 where
  pub verdict : Verdict
  pub end : End
  pub tick : ℕ
  pub used : ℕ
  pub size : ℕ
  pub lent : List ℕ

-- no run: its end counts for nothing, and is the one with the numbers 0 and 255
abbrev pub not_run : ℕ → ℕ → List ℕ → RunCall
not_run n c lent = record { verdict = Refused n c; end = Horizon; tick = 0; used = 0; size = 0; lent = lent }

-- the observations' bytes are laid over the front of what was lent
abbrev pub ran : Result → List ℕ → RunCall
ran r lent =
    let bytes = each written_bytes (written_in r.state) in
    record {
      verdict = Accepted;
      end = end_of r.end r.node;
      tick = r.state.tick;
      used = r.state.used;
      size = length r.state.observations;
      lent = bytes ++ drop (length bytes) lent;
    }

-- 13. "Does the lent buffer hold .. a run's 32 bytes for each passage?" Now "Check 13 counts 36 bytes per passage". Then 14. "Are there at most 1,000,000 choices?"
abbrev pub run_with : Read → List Passage → List ℕ → List ℕ → RunCall
run_with t S choices lent =
    cond (ltb (length lent) (length S * observation_width)) (not_run 13 255 lent)
    (cond (ltb 1000000 (length choices)) (not_run 14 255 lent) (ran (run (setting_of t S) choices) lent))

abbrev pub run_planned : Read → Answer (List Passage) → List ℕ → List ℕ → RunCall
run_planned t (accepted S) choices lent = run_with t S choices lent
run_planned t (refused n c) choices lent = not_run n c lent

abbrev pub run_read : Answer Read → List ℕ → List ℕ → RunCall
run_read (accepted t) choices lent = run_planned t (accepted_schedule_of t) choices lent
run_read (refused n c) choices lent = not_run n c lent

-- the call `run`: table, choices, and the bytes lent for the observations
unfoldable pub run_call : List ℕ → List ℕ → List ℕ → RunCall
unfolding accepted_schedule_in program_bytes run observation_bytes each
run_call table choices lent = run_read (read_table table) choices lent

-- ## The run of nodes that wake apart

-- 20. "an offset above G with 20 after 14": of the offsets handed to nodes; those past the last node are not looked at
unfoldable pub offsets_fine : ℕ → ℕ → List ℕ → Bool
offsets_fine G zero os = true
offsets_fine G (suc n) [] = true
offsets_fine G (suc n) (o ∷ os) = leb o G && offsets_fine G n os

abbrev pub run_with_at : ℕ → Read → List Passage → List ℕ → List ℕ → List ℕ → RunCall
run_with_at G t S os choices lent =
    cond (ltb (length lent) (length S * observation_width)) (not_run 13 255 lent)
    (cond (ltb 1000000 (length choices)) (not_run 14 255 lent)
    (cond (offsets_fine G (size t.table) os) (ran (run (setting_at t t.horizon S os) choices) lent) (not_run 20 255 lent)))

abbrev pub run_planned_at : ℕ → Read → Answer (List Passage) → List ℕ → List ℕ → List ℕ → RunCall
run_planned_at G t (accepted S) os choices lent = run_with_at G t S os choices lent
run_planned_at G t (refused n c) os choices lent = not_run n c lent

abbrev pub run_read_at : ℕ → Answer Read → List ℕ → List ℕ → List ℕ → RunCall
run_read_at G (accepted t) os choices lent = run_planned_at G t (accepted_schedule_at G t) os choices lent
run_read_at G (refused n c) os choices lent = not_run n c lent

-- the call `run_apart`: spread, table, offsets, choices, and the bytes lent for the observations
unfoldable pub run_call_at : ℕ → List ℕ → List ℕ → List ℕ → List ℕ → RunCall
unfolding accepted_schedule_in_at offsets_fine program_bytes run observation_bytes each
run_call_at G table os choices lent = run_read_at G (read_at G table) os choices lent

-- demand 3 of these bytes, this spread, these offsets and these choices
abbrev pub Demand3ApartOf : ℕ → List ℕ → List ℕ → List ℕ → Type 0
Demand3ApartOf G table os choices =
    (t : Read) (S : List Passage) → read_table table ≡ accepted t → accepted_schedule_at G t ≡ accepted S → Permitted G (size t.table) os → Demand3Apart t t.horizon S os choices

-- demand 3, of these bytes and these choices: for the accepted table that the bytes are, if they are one
abbrev pub Demand3Of : List ℕ → List ℕ → Type 0
Demand3Of table choices = (t : Read) (S : List Passage) → read_table table ≡ accepted t → accepted_schedule_of t ≡ accepted S → Demand3 t t.horizon S choices
