-- What `RunToTrue` and `RunToRefuses` say, spelt out without their names: a hypothesis more in one, or a field less in what it names, no longer gives this.
use Rattle.std.specs.Prelude.{◌≡◌, List, [], ◌⊎◌, ◌↔◌, ℕ, ◌*◌, ◌≤◌, ◌<◌, length}
use Rattle.model.specs.declared.Verdict.TheVariants.{Accepted, Refused}
use Rattle.model.specs.Lists.{accepted}
use Rattle.model.specs.Table.{Read}
use Rattle.model.specs.Reader.{read_table}
use Rattle.model.specs.Schedule.{Passage}
use Rattle.model.specs.Checks.{accepted_schedule_of}
use Rattle.model.specs.Run.{setting_to, run}
use Rattle.model.specs.Demand3.{Demand3}
use Rattle.model.specs.Finishes.{Finishes, OnPath}
use Rattle.model.specs.Observations.{ReadAs}
use Rattle.recurrence.specs.Recurrence.{Recurs, accepted_schedule_to, run_to_call}
use Rattle.later_runs.specs.RunTo.{RunToTrue, RunToRefuses}

-- "to any horizon of four bytes handed to the run, hold to the network's path as in demand 3"; what was written is what it observed
pub runs_to_says : (table : List ℕ) (H : ℕ) (choices lent : List ℕ) → RunToTrue table H choices lent → (t : Read) → read_table table ≡ accepted t → H ≤ 4294967295
    → (run_to_call table H choices lent).verdict ≡ Accepted
    → (P : List Passage) × (accepted_schedule_to t.table H ≡ accepted P) × Demand3 t H P choices × (Finishes t H P [] choices × OnPath t H P choices)
    × ReadAs t.table (run_to_call table H choices lent).size (run_to_call table H choices lent).lent (run (setting_to t H P) choices).state
runs_to_says table H choices lent p t r l v = let u = p t r l v in (u.passages, u.planned, u.demand3, u.finishes, u.observations)

-- "A horizon of 0, or one above H without such a pair, is refused with 29"; "check 13 counts that horizon's passages"; nothing else of an accepted table is
-- refused, to whatever horizon and by whatever choices
pub refuses_says : (table : List ℕ) (H : ℕ) (choices lent : List ℕ) → RunToRefuses table H choices lent → (t : Read) (S : List Passage) → read_table table ≡ accepted t
    → accepted_schedule_of t ≡ accepted S
    → (((run_to_call table H choices lent).verdict ≡ Refused 29 255) ↔ ((H ≡ 0) ⊎ ((t.horizon < H) × ((a b : ℕ) → Recurs t.table t.horizon S a b → ⊥))))
    × (((run_to_call table H choices lent).verdict ≡ Refused 13 255)
    ↔ (((run_to_call table H choices lent).verdict ≡ Refused 29 255 → ⊥) × ((P : List Passage) × (accepted_schedule_to t.table H ≡ accepted P) × (length lent < length P * 36))))
    × (((run_to_call table H choices lent).verdict ≡ Refused 29 255 → ⊥) → ((run_to_call table H choices lent).verdict ≡ Refused 13 255 → ⊥)
    → (run_to_call table H choices lent).verdict ≡ Accepted)
refuses_says table H choices lent p t S r e = let u = p t S r e in (u.horizon, u.room, u.otherwise)
