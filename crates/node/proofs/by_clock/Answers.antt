-- `node::by_clock` meets its contract. Assumes nothing.
use borrow.Author.Tests.{eq-eqb, ne_eqb}
use Rattle.model.specs.Reader.{byte}
use mathlib.Core.Path.{◌∙◌}
use borrow.Author.Rules.{rules}
use Rattle.node.proofs.by_clock.Goals as goal

pub returns-then-statement-eq-LOW : goal.returns-then-statement-eq-LOW
returns-then-statement-eq-LOW c =
    let h = c.args.statement.now in
    c.raised.ensures ∙ rw (c.word_at-bound.ensures, eq-eqb (byte h 0) 11 c.if-statement-eq-LOW.true)

pub returns : goal.returns
returns c =
    let h = c.args.statement.now in
    c.lowered.ensures ∙ rw (c.word_at-bound.ensures, ne_eqb (byte h 0) 11 c.if-statement-eq-LOW.false)
