-- What the call that runs to a horizon promises (document 02, wish 14): "the runs of its programs, to any horizon of four bytes handed to the run, hold to
-- the network's path as in demand 3".
use Rattle.std.specs.Prelude.{◌≡◌, List, [], ◌⊎◌, ◌↔◌, ℕ, ◌*◌, ◌≤◌, ◌<◌, length}
use Rattle.model.specs.declared.Verdict.{Verdict}
use Rattle.model.specs.declared.Verdict.TheVariants.{Accepted, Refused}
use Rattle.model.specs.Lists.{accepted}
use Rattle.model.specs.Table.{Read}
use Rattle.model.specs.Reader.{read_table}
use Rattle.model.specs.Schedule.{Passage}
use Rattle.model.specs.Checks.{accepted_schedule_of}
use Rattle.model.specs.Run.{setting_to, run}
use Rattle.model.specs.Demand3.{Demand3}
use Rattle.model.specs.Finishes.{Finishes, OnPath}
use Rattle.model.specs.Observations.{ReadAs}
use Rattle.recurrence.specs.Recurrence.{Recurs, accepted_schedule_to, run_to_call}

-- the schedule to that horizon is accepted, demand 3 holds of the run, the finish ticks in its observations lie in the previous windows and are those of
-- the path, and what was written, read back, are its observations
pub record RunsTo (t : Read) (H : ℕ) (table choices lent : List ℕ) : Type 0 where
  pub passages : List Passage
  pub planned : accepted_schedule_to t.table H ≡ accepted passages
  pub demand3 : Demand3 t H passages choices
  pub finishes : Finishes t H passages [] choices × OnPath t H passages choices
  pub observations : ReadAs t.table (run_to_call table H choices lent).size (run_to_call table H choices lent).lent (run (setting_to t H passages) choices).state

-- whatever is run of a table, to a horizon of four bytes
abbrev pub RunToTrue : List ℕ → ℕ → List ℕ → List ℕ → Type 0
RunToTrue table H choices lent = (t : Read) → read_table table ≡ accepted t → H ≤ 4294967295 → (run_to_call table H choices lent).verdict ≡ Accepted → RunsTo t H table choices lent

-- ## What is refused

-- Of an accepted table with the schedule S, a horizon and the bytes lent: the verdict of the run.
pub record RefusedTo (t : Read) (S : List Passage) (H : ℕ) (lent : List ℕ) (v : Verdict) : Type 0 where
  -- "A horizon of 0, or one above H without such a pair, is refused with 29"
  pub horizon : (v ≡ Refused 29 255) ↔ ((H ≡ 0) ⊎ ((t.horizon < H) × ((a b : ℕ) → Recurs t.table t.horizon S a b → ⊥)))
  -- "check 13 counts that horizon's passages": 36 bytes for each of them
  pub room : (v ≡ Refused 13 255)
      ↔ ((v ≡ Refused 29 255 → ⊥) × ((P : List Passage) × (accepted_schedule_to t.table H ≡ accepted P) × (length lent < length P * 36)))
  -- nothing else is: "check 14 doesn't apply", and no refusal of 7 to 12 comes to a horizon that 29 lets pass
  pub otherwise : (v ≡ Refused 29 255 → ⊥) → (v ≡ Refused 13 255 → ⊥) → v ≡ Accepted

-- whatever is asked of an accepted table, by whatever choices: "runs to one up to H hold to the path with or without a pair"
abbrev pub RunToRefuses : List ℕ → ℕ → List ℕ → List ℕ → Type 0
RunToRefuses table H choices lent =
    (t : Read) (S : List Passage) → read_table table ≡ accepted t → accepted_schedule_of t ≡ accepted S → RefusedTo t S H lent (run_to_call table H choices lent).verdict
