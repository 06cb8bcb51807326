-- `turning::later` meets its contract. Assumes nothing.
use native.Mathlib.Omega.{arith}
use Rattle.turning.proofs.Moved.{later_last, later_held}
use Rattle.turning.proofs.later.Goals as goal

pub returns-then-period-ready : goal.returns-then-period-ready
returns-then-period-ready c = later_last c.args.ready c.args.period (omega (arith, c.ranges.period.fits)) c.if-period-ready.true

pub returns-else-period-ready : goal.returns-else-period-ready
returns-else-period-ready c = later_held c.args.ready c.args.period (omega (arith, c.ranges.period.fits)) c.if-period-ready.false
