-- `uppaal_steps::put_transitions` meets its contract. Assumes nothing.
use mathlib.Core.Bool.{false}
use Rattle.uppaal_steps.proofs.put_transitions.Given as goal

abbrev pub ghost-put_steps : goal.ghost-put_steps
ghost-put_steps a = false
