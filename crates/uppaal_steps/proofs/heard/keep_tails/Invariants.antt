-- `uppaal_steps::heard::keep_tails` meets its contract. Assumes nothing.
use mathlib.Core.Path.{◌≡◌}
use lib.ListN.{length}
use Rattle.model.specs.Places.{arc_at}
use Rattle.uppaal_steps.specs.Shared.{Kept}
use Rattle.uppaal_steps.proofs.heard.keep_tails.Given as goal

abbrev pub invariant-loop-tight : goal.invariant-loop-tight
invariant-loop-tight l = (length l.ends ≡ 8) × Kept l.origin.location l.origin.clocks (arc_at l.origin.budgets l.edge) l.tight l.kept l.ends
