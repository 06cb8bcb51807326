-- `uppaal_steps::put_steps` meets its contract. Assumes nothing.
use Prim.Native.Nat.{◌+◌, ◌-◌, ◌*◌, ◌≤◌}
use Rattle.model.specs.Lists.{each, from}
use Rattle.blocks.proofs.Runs.{Writing}
use Rattle.uppaal_steps.specs.Steps.{step_told}
use Rattle.uppaal_steps.proofs.put_steps.Given as goal

abbrev pub invariant-loop-tight : goal.invariant-loop-tight
invariant-loop-tight g l =
    (l.next ≤ l.at + (l.tight - l.first) * 1250) × Writing l.initial.out l.at (each (step_told g.inwards l.fn.origin l.edge l.message) (from l.first (l.last - l.first))) l.out l.next (each (step_told g.inwards l.fn.origin l.edge l.message) (from l.tight (l.last - l.tight)))
