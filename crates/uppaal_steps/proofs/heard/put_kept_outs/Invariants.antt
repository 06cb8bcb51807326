-- `uppaal_steps::heard::put_kept_outs` meets its contract. Assumes nothing.
use mathlib.Core.Bool.{false}
use Prim.Native.Nat.{◌+◌, ◌-◌, ◌*◌, ◌≤◌}
use Rattle.model.specs.Lists.{each, from}
use Rattle.blocks.proofs.Runs.{Writing}
use Rattle.uppaal_steps.specs.Steps.{step_told}
use Rattle.uppaal_steps.proofs.heard.put_kept_outs.Given as goal

abbrev pub invariant-loop-tight : goal.invariant-loop-tight
invariant-loop-tight l =
    (l.next ≤ l.at + (l.tight - 1) * 700) × Writing l.initial.out l.at (each (step_told false l.fn.origin l.edge l.message) (from 1 (l.last - 1))) l.out l.next (each (step_told false l.fn.origin l.edge l.message) (from l.tight (l.last - l.tight)))
