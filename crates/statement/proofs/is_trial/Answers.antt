-- `statement::is_trial` meets its contract. Assumes nothing.
use native.Mathlib.Omega.{arith}
use Rattle.model.proofs.Basics.Bools.{clash}
use borrow.Author.Tests.{ltb-true}
use Rattle.statement.proofs.is_trial.Goals as goal

pub returns-then-op-lt-TRIAL : goal.returns-then-op-lt-TRIAL
returns-then-op-lt-TRIAL c q = clash q

pub returns : goal.returns
returns c q = (omega (arith, c.if-op-lt-TRIAL.false), λ h. absurd (omega (arith, h, ltb-true c.args.op 16 q)))
