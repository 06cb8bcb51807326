-- What `SimulatedOf` and `LateAdds` say, spelt out without their names: a hypothesis more, or a part less, no longer gives these.
use Rattle.std.specs.Prelude.{◌≡◌, ◌⊎◌, List, ℕ}
use Rattle.model.specs.Lists.{All, more, empty, accepted}
use Rattle.model.specs.Table.{Read}
use Rattle.model.specs.Reader.{read_table}
use Rattle.model.specs.Schedule.{Passage}
use Rattle.model.specs.Checks.{accepted_schedule_of}
use Rattle.model.specs.Run.{setting_of, run}
use Rattle.model.specs.Demand3.{Demand3}
use Rattle.simulation.specs.Simulated.{trials, sum_of, simulate_call, LateAdds, SimulatedOf}

all_as : {A : Type 0} {P Q : A → Type 0} {xs : List A} → ((x : A) → P x → Q x) → All P xs → All Q xs
all_as f empty = empty
all_as f (more {x = x} p ps) = more (f x p) (all_as f ps)

module _ (table : List ℕ) (lo hi runs seed : ℕ) where
  -- "the runs that ended late, in all and per node"
  pub late_says : LateAdds table lo hi runs seed → sum_of (simulate_call table lo hi runs seed).nodes ≡ (simulate_call table lo hi runs seed).late
  late_says d = d

  -- "Each is proved to be a run of some choice list, so its observations are held to the path as well"; it ends at the horizon or late
  pub simulated_says : SimulatedOf table lo hi runs seed → (t : Read) (S : List Passage) → read_table table ≡ accepted t → accepted_schedule_of t ≡ accepted S
      → All (λ cs. Demand3 t t.horizon S cs) (trials (setting_of t S) (record { lo = lo; hi = hi }) runs seed)
      × All (λ cs. ((run (setting_of t S) cs).end ≡ 0) ⊎ ((run (setting_of t S) cs).end ≡ 2)) (trials (setting_of t S) (record { lo = lo; hi = hi }) runs seed)
  simulated_says d t S r e = (all_as (λ cs x. x.0) (d t S r e), all_as (λ cs x. x.1) (d t S r e))
