-- How many simulated runs ended late, and the answer of the call, held against their definitions.
use Rattle.std.specs.Prelude.{◌≡◌, ℕ}
use Rattle.model.specs.Run.{Setting}
use Rattle.simulation.specs.Simulated.{Span, SimulateCall, simulated_all}
use Rattle.simulated_runs.specs.declared.Tally.{Tally}
use Rattle.simulated_runs.specs.declared.call.Simulation.{Simulation}

-- the late runs in all and of each node, and the generator after them
pub record TalliedAs (g : Setting) (w : Span) (runs seed : ℕ) (r : Tally) : Type 0 where
  pub late : r.late ≡ (simulated_all g w runs seed).late
  pub nodes : r.nodes ≡ (simulated_all g w runs seed).nodes
  pub state : r.state ≡ (simulated_all g w runs seed).draw

-- every number of the answer
pub record SimulatedAs (call : SimulateCall) (r : Simulation) : Type 0 where
  pub verdict : r.verdict ≡ call.verdict
  pub late : r.late ≡ call.late
  pub nodes : r.nodes ≡ call.nodes
  pub state : r.state ≡ call.draw
