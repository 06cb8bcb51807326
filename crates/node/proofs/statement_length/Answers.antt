-- `node::statement_length` meets its contract. Assumes nothing.
use native.Mathlib.Omega.{arith}
use borrow.Author.Tests.{eq-eqb, ne_eqb}
use Rattle.model.specs.Reader.{byte}
use borrow.Author.Rules.{rules}
use Rattle.node.proofs.statement_length.Goals as goal

pub returns-then-statement-eq-LISTEN : goal.returns-then-statement-eq-LISTEN
returns-then-statement-eq-LISTEN c =
    let h = c.args.statement.now in
    (rw (c.wide.ensures.0, eq-eqb (byte h 0) 5 c.if-statement-eq-LISTEN.true), omega arith)

pub returns : goal.returns
returns c =
    let h = c.args.statement.now in
    (rw (ne_eqb (byte h 0) 5 c.if-statement-eq-LISTEN.false), omega arith)
