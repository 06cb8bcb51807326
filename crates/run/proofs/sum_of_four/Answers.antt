-- `run::sum_of_four` meets its contract. Assumes nothing.
use native.Mathlib.Omega.{arith}
use Rattle.run.proofs.InARow.{ticks_four}
use Rattle.run.proofs.sum_of_four.Goals as goal

pub returns : goal.returns
returns c =
    let a = c.args in (
      omega (arith, c.wide32.ensures.1, c.wide32-2.ensures.1, c.wide32-3.ensures.1, c.wide32-4.ensures.1),
      λ e. ticks_four a.choices.now a.at (omega (arith, c.wide32.ensures, c.wide32-2.ensures, c.wide32-3.ensures, c.wide32-4.ensures)) (omega (arith, c.wide32.ensures, c.wide32-2.ensures, c.wide32-3.ensures, c.wide32-4.ensures)) (omega (arith, c.wide32.ensures, c.wide32-2.ensures, c.wide32-3.ensures, c.wide32-4.ensures)) (omega (arith, c.wide32.ensures, c.wide32-2.ensures, c.wide32-3.ensures, c.wide32-4.ensures)),
    )
