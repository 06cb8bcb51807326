-- No run takes all turns, so every simulated run ends at the horizon or late; and demand 3 holds of it. Assumes nothing.
use mathlib.Core.List.{List, []}
use Prim.Native.Nat.{ℕ, zero, suc, ◌≤◌}
use native.Mathlib.Omega.{arith}
use lib.ListN.{length}
use Rattle.model.specs.Lists.{All, empty, more}
use Rattle.model.specs.Table.{Read}
use Rattle.model.specs.Schedule.{Passage}
use Rattle.model.specs.Checks.{limit}
use Rattle.model.specs.Run.{setting_to, run}
use Rattle.model.specs.Demand3.{Demand3}
use Rattle.model.proofs.Reader.Limits.{read_limits}
use Rattle.model.proofs.Run.Tied.{Given, schedule_at, given}
use Rattle.model.proofs.Run.Promise.{promised}
use Rattle.model.proofs.Progress.Count.{start_live, start_toil}
use Rattle.simulation.specs.Simulated.{Span, start_trying, turns, simulated, trials, EndsWell, SimulatedOf}
use Rattle.simulation.proofs.Ends.{turns_left, ends_well}

module _ {t : Read} {H : ℕ} {S : List Passage} (G : Given t H S []) (w : Span) (few : length S ≤ 1024) (soon : H ≤ 60000) where
  pub enough : (x : ℕ) → turns_left G w (start_trying (setting_to t H S) w x) ≤ turns (setting_to t H S) w
  enough x = omega (arith, start_toil G, few, soon, G.limits.most_components)

  -- every simulated run ends at the horizon or late
  pub simulated_ends : (x : ℕ) → EndsWell (run (setting_to t H S) (simulated (setting_to t H S) w x).choices)
  unfolding simulated run
  simulated_ends x = ends_well G w (turns (setting_to t H S) w) (start_trying (setting_to t H S) w x) (start_live G) (λ m c h. absurd (omega arith)) (enough x)

  pub trials_well : (n x : ℕ) → ((cs : List ℕ) → Demand3 t H S cs) → All (λ cs. Demand3 t H S cs × EndsWell (run (setting_to t H S) cs)) (trials (setting_to t H S) w n x)
  unfolding trials
  trials_well zero x d = empty
  trials_well (suc n) x d = more (d (simulated (setting_to t H S) w x).choices, simulated_ends x) (trials_well n (simulated (setting_to t H S) w x).draw d)

-- every simulated run holds to demand 3, and ends at the horizon or late
pub simulation_holds : (table : List ℕ) (lo hi runs seed : ℕ) → SimulatedOf table lo hi runs seed
simulation_holds table lo hi runs seed t S r e =
    let l = read_limits table t r in
    let G = given t S l e in
    trials_well G (record { lo = lo; hi = hi }) (schedule_at 0 t.table t.horizon limit S e).0.few l.most_horizon runs seed (λ cs. promised table t S r e cs)
