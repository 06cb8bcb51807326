-- `window::long_enough` meets its contract. Assumes nothing.
use native.Mathlib.Omega.{arith}
use Rattle.window.proofs.Considering.{by_least}
use Rattle.window.proofs.long_enough.Goals as goal

pub overflow_add-result : goal.overflow_add-result
overflow_add-result c = omega (arith, c.least_length.ensures)

pub returns : goal.returns
returns c =
    let a = c.args in
    rw c.least_length.ensures (by_least a.delays.ready a.delays.past a.budget)
