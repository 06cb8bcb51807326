-- `planner::in_range` meets its contract. Assumes nothing.
use Rattle.planner.proofs.Ranges.{too_low, not_too_low}
use Rattle.planner.proofs.in_range.Goals as goal

pub returns-then-number-lt1 : goal.returns-then-number-lt1
returns-then-number-lt1 c = too_low c.args.most c.args.number c.if-number-lt1.true

pub returns : goal.returns
returns c = not_too_low c.args.most c.args.number c.if-number-lt1.false
