-- `simulator::early::is_early` meets its contract. Assumes nothing.
use mathlib.Core.Path.{sym, ◌∙◌}
use native.Mathlib.Omega.{arith}
use borrow.Author.Tests.{eqb-false, not-true}
use lib.Dec.{eqb}
use Rattle.model.proofs.Basics.Bools.{clash}
use Rattle.simulator.proofs.early.is_early.Goals as goal

-- a tick is noted
pub returns-then-due-lt-NEVER : goal.returns-then-due-lt-NEVER
returns-then-due-lt-NEVER c =
    let a = c.args in
    λ e. (omega (arith, c.if-due-lt-NEVER.true, c.word-due.ensures), λ q. eqb-false c.word-due.result a.tick (not-true (eqb c.word-due.result a.tick) e) (c.word-due.ensures ∙ sym q))

-- none is
pub returns : goal.returns
returns c = λ e. clash e
