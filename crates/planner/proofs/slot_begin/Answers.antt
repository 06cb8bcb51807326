-- `planner::slot_begin` meets its contract. Assumes nothing.
use mathlib.Core.Path.{refl}
use native.Mathlib.Omega.{arith}
use Rattle.planner.proofs.Ranges.{slot_inside}
use Rattle.planner.proofs.slot_begin.Goals as goal

pub overflow_mul-result-2 : goal.overflow_mul-result-2
overflow_mul-result-2 c = let e = c in omega (arith, slot_inside e.args.slots e.args.i e.requires.0 e.requires.1, e.requires.0.most_period)

pub returns : goal.returns
returns c = let e = c in (refl, slot_inside e.args.slots e.args.i e.requires.0 e.requires.1)
