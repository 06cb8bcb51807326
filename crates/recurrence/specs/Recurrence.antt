-- Document 02, wish 14, "Cellars run for months": a state of all components that comes again, and what holds to every later horizon.
use Rattle.std.specs.Prelude.{◌≡◌, Bool, true, false, cond, ◌&&◌, not, List, [], ◌∷◌, ◌++◌, ℕ, ◌+◌, ◌*◌, ◌≤◌, ◌<◌, leb, ltb, eqb, ℤ, length}
use Rattle.std.proofs.Math.Option.{Option, none, some}
use Rattle.std.specs.Int.Signed.{le_z}
use Rattle.model.specs.declared.Verdict.{Verdict}
use Rattle.model.specs.declared.Verdict.TheVariants.{Accepted}
use Rattle.model.specs.Lists.{all, first, below, is_none, ◌∈◌, Answer, accepted, refused}
use Rattle.model.specs.Table.{Table, Read, size}
use Rattle.model.specs.Reader.{read_table}
use Rattle.model.specs.Window.{Entry}
use Rattle.model.specs.Schedule.{Passage, own}
use Rattle.model.specs.Checks.{accepted_schedule, accepted_schedule_of, IndependentWithin}
use Rattle.model.specs.Run.{Result, setting_to, run, observation_width}
use Rattle.model.specs.Demand3.{Demand3}
use Rattle.model.specs.Finishes.{Finishes, OnPath}
use Rattle.model.specs.Progress.{Reaches, Continues, UsesAtMost}
use Rattle.model.specs.Calls.{RunCall, not_run, ran, verdict_of}

-- ## The state that comes again

-- an entry without its tick: what must be equal is "locations, clocks and variables"
abbrev pub timeless : Entry → Entry
timeless at = record { location = at.location; tick = 0; clocks = at.clocks; values = at.values }

-- component c enters at tick x, with that location, those clocks and variables
pub record EntersAt (S : List Passage) (c x : ℕ) (at : Entry) : Type 0 where
  pub passage : Passage
  pub listed : passage ∈ own c S
  pub tick : passage.entry.tick ≡ x
  pub state : timeless passage.entry ≡ at

-- "ticks with a < b < H at which all components enter, with equal locations, clocks and variables at both"
pub record Recurs (T : Table) (H : ℕ) (S : List Passage) (a b : ℕ) : Type 0 where
  pub before : a < b
  pub below : b < H
  pub enters : (c : ℕ) → c < size T → (at : Entry) × EntersAt S c a at × EntersAt S c b at

-- "the first such b in the schedule and the first a for it"
pub record FirstRecurs (T : Table) (H : ℕ) (S : List Passage) (a b : ℕ) : Type 0 where
  pub recurs : Recurs T H S a b
  pub first_b : (x y : ℕ) → Recurs T H S x y → b ≤ y
  pub first_a : (x : ℕ) → Recurs T H S x b → a ≤ x

-- ## The same, computed

abbrev pub same_numbers : List ℕ → List ℕ → Bool
same_numbers [] [] = true
same_numbers [] (y ∷ ys) = false
same_numbers (x ∷ xs) [] = false
same_numbers (x ∷ xs) (y ∷ ys) = eqb x y && same_numbers xs ys

abbrev pub same_values : List ℤ → List ℤ → Bool
same_values [] [] = true
same_values [] (y ∷ ys) = false
same_values (x ∷ xs) [] = false
same_values (x ∷ xs) (y ∷ ys) = le_z x y && le_z y x && same_values xs ys

abbrev pub same_entry : Entry → Entry → Bool
same_entry p q = eqb p.location q.location && same_numbers p.clocks q.clocks && same_values p.values q.values

abbrev pub same_passages : Option Passage → Option Passage → Bool
same_passages none w = false
same_passages (some v) none = false
same_passages (some v) (some w) = same_entry v.entry w.entry

-- the passage that component c enters at tick x
abbrev pub entered_at : List Passage → ℕ → ℕ → Option Passage
entered_at S c x = first (λ v. eqb v.entry.tick x) (own c S)

abbrev pub recurs_at : Table → List Passage → ℕ → ℕ → Bool
recurs_at T S a b = all (λ c. same_passages (entered_at S c a) (entered_at S c b)) (below (size T))

-- the first a for b
abbrev pub first_for : Table → List Passage → ℕ → Option ℕ
first_for T S b = first (λ a. recurs_at T S a b) (below b)

pub record Recurrence : Type 0 where
  pub from : ℕ
  pub to : ℕ

abbrev pub recurrence_to : ℕ → Option ℕ → Option Recurrence
recurrence_to b none = none
recurrence_to b (some a) = some (record { from = a; to = b })

abbrev pub recurrence_at : Table → List Passage → Option ℕ → Option Recurrence
recurrence_at T S none = none
recurrence_at T S (some b) = recurrence_to b (first_for T S b)

unfoldable pub recurrence : Table → ℕ → List Passage → Option Recurrence
recurrence T H S = recurrence_at T S (first (λ b. not (is_none (first_for T S b))) (below H))

-- ## Any horizon

-- The schedule to a horizon, with checks 8 to 12. 7 does not apply: a component enters at most one passage a tick, so that no more than
-- this many are ever opened before it (law `no_seven`).
unfoldable pub accepted_schedule_to : Table → ℕ → Answer (List Passage)
unfolding accepted_schedule
accepted_schedule_to T H = accepted_schedule (size T * H) 0 T H

-- what holds to a horizon
pub record Unending (t : Read) (H : ℕ) : Type 0 where
  pub passages : List Passage
  pub planned : accepted_schedule_to t.table H ≡ accepted passages
  pub independent : IndependentWithin 0 t.table H passages
  pub demand3 : (cs : List ℕ) → Demand3 t H passages cs
  pub finishes : (cs : List ℕ) → Finishes t H passages [] cs × OnPath t H passages cs
  pub reaches : Reaches t H passages
  pub continues : Continues t H passages
  pub few : (cs : List ℕ) → length (run (setting_to t H passages) cs).state.observations ≤ length passages
  -- however long the list is, no more of its choices are carried out
  pub uses : UsesAtMost (H + (length passages * 658 + size t.table * 1299)) t H passages

-- "the network is proved free of a global scheduler for every later horizon too", "and the runs of its programs .. hold to the network's path"
abbrev pub Endless : Type 0
Endless =
    (bytes : List ℕ) (t : Read) (S : List Passage) → read_table bytes ≡ accepted t → accepted_schedule_of t ≡ accepted S
    → (a b : ℕ) → Recurs t.table t.horizon S a b → (H : ℕ) → 1 ≤ H → Unending t H

-- "runs to one up to H hold to the path with or without a pair"
abbrev pub Shorter : Type 0
Shorter =
    (bytes : List ℕ) (t : Read) (S : List Passage) → read_table bytes ≡ accepted t → accepted_schedule_of t ≡ accepted S
    → (H : ℕ) → 1 ≤ H → H ≤ t.horizon → Unending t H

-- ## The calls

-- the verdict on the table; whether there is a pair; the pair
pub record RecurrenceCall : Type 0 where
  pub verdict : Verdict
  pub found : Bool
  pub from : ℕ
  pub to : ℕ

abbrev pub recurrence_found : Verdict → Option Recurrence → RecurrenceCall
recurrence_found v none = record { verdict = v; found = false; from = 0; to = 0 }
recurrence_found v (some r) = record { verdict = v; found = true; from = r.from; to = r.to }

abbrev pub recurrence_of : Read → Answer (List Passage) → Option Recurrence
recurrence_of t (accepted S) = recurrence t.table t.horizon S
recurrence_of t (refused n c) = none

abbrev pub recurrence_read : Answer Read → RecurrenceCall
recurrence_read (accepted t) = recurrence_found (verdict_of (accepted_schedule_of t)) (recurrence_of t (accepted_schedule_of t))
recurrence_read (refused n c) = recurrence_found (verdict_of {A = Read} (refused n c)) none

unfoldable pub recurrence_call : List ℕ → RecurrenceCall
unfolding read_table accepted_schedule recurrence
recurrence_call table = recurrence_read (read_table table)

-- What the answer means: "The tool reports the first such b in the schedule and the first a for it, or none. Where it reports one, the network is
-- proved free of a global scheduler for every later horizon too".
pub record RecurrenceTrue (t : Read) (S : List Passage) (r : RecurrenceCall) : Type 0 where
  pub first : r.found ≡ true → FirstRecurs t.table t.horizon S r.from r.to
  pub none : r.found ≡ false → (a b : ℕ) → Recurs t.table t.horizon S a b → ⊥
  pub endless : r.found ≡ true → (H : ℕ) → 1 ≤ H → Unending t H

-- whatever is answered of an accepted table has that meaning
abbrev pub PairTrue : List ℕ → Type 0
PairTrue table =
    (t : Read) (S : List Passage) → read_table table ≡ accepted t → accepted_schedule_of t ≡ accepted S → RecurrenceTrue t S (recurrence_call table)

-- 29. "A horizon of 0, or one above H without such a pair"
abbrev pub reachable : Read → List Passage → ℕ → Bool
reachable t S H = ltb 0 H && cond (leb H t.horizon) true (not (is_none (recurrence t.table t.horizon S)))

-- 13 counts that horizon's passages; 14 does not apply
abbrev pub run_on : Read → ℕ → Answer (List Passage) → List ℕ → List ℕ → RunCall
run_on t H (accepted S) choices lent = cond (ltb (length lent) (length S * observation_width)) (not_run 13 255 lent) (ran (run (setting_to t H S) choices) lent)
run_on t H (refused n c) choices lent = not_run n c lent

abbrev pub run_to_planned : Read → ℕ → Answer (List Passage) → List ℕ → List ℕ → RunCall
run_to_planned t H (accepted S) choices lent = cond (reachable t S H) (run_on t H (accepted_schedule_to t.table H) choices lent) (not_run 29 255 lent)
run_to_planned t H (refused n c) choices lent = not_run n c lent

abbrev pub run_to_read : Answer Read → ℕ → List ℕ → List ℕ → RunCall
run_to_read (accepted t) H choices lent = run_to_planned t H (accepted_schedule_of t) choices lent
run_to_read (refused n c) H choices lent = not_run n c lent

unfoldable pub run_to_call : List ℕ → ℕ → List ℕ → List ℕ → RunCall
unfolding read_table accepted_schedule accepted_schedule_to recurrence run
run_to_call table H choices lent = run_to_read (read_table table) H choices lent
