-- `reasons::telling::counted` meets its contract. Assumes nothing.
use native.Mathlib.Omega.{arith}
use borrow.Author.Tests.{eq-eqb, ne_eqb}
use Rattle.reasons.proofs.telling.counted.Goals as goal

pub returns-then-source-here : goal.returns-then-source-here
returns-then-source-here c = (rw (eq-eqb c.args.source c.args.here c.if-source-here.true), omega arith)

pub returns-else-source-here : goal.returns-else-source-here
returns-else-source-here c = (rw (ne_eqb c.args.source c.args.here c.if-source-here.false), omega arith)
