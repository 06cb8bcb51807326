-- `window::better` meets its contract. Assumes nothing.
use native.Mathlib.Omega.{arith}
use borrow.Author.Tests.{lt-ltb, le-ltb}
use Rattle.window.proofs.better.Goals as goal

pub returns-then-candidate-best : goal.returns-then-candidate-best
returns-then-candidate-best c = rw (lt-ltb c.args.candidate.ready c.args.best.ready (omega arith))

pub returns-else-candidate-best : goal.returns-else-candidate-best
returns-else-candidate-best c = rw (le-ltb c.args.candidate.ready c.args.best.ready (omega arith))
