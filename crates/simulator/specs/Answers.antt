-- How a simulated run ended, held against its definition.
use Rattle.std.specs.Prelude.{◌≡◌, cond, Option, None, Some, ℕ, eqb}
use Rattle.model.specs.Run.{Setting, Result, run}
use Rattle.simulation.specs.Simulated.{Span, simulated}

-- the late node of a run, if it ended late
abbrev pub late_node : Result → Option ℕ
late_node r = cond (eqb r.end 2) (Some r.node) None

-- the late node of the simulated run from a seed, and the generator after it
abbrev pub TriedAs : Setting → Span → ℕ → Option ℕ → ℕ → Type 0
TriedAs g w seed late state = (late ≡ late_node (run g (simulated g w seed).choices)) × (state ≡ (simulated g w seed).draw)
