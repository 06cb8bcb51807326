-- `listing_text::statement::put_words` meets its contract. Assumes nothing.
use native.Mathlib.Omega.{arith}
use Rattle.listing_text.specs.StatementText.{statement_words}
use Rattle.listing_text.proofs.Named.{known_op, no_op}
use Rattle.listing_text.proofs.statement.put_words.Goals as goal

pub returns-then-op-eq17 : goal.returns-then-op-eq17
unfolding statement_words
returns-then-op-eq17 c = (known_op c.args.op 17 c.args.a c.args.k c.if-op-eq17.true c.put.ensures.0, omega (arith, c.put.ensures.1))

pub returns-then-op-eq18 : goal.returns-then-op-eq18
unfolding statement_words
returns-then-op-eq18 c =
    let a = c.args in
    (known_op a.op 18 a.a a.k c.if-op-eq18.true c.put_field.ensures.0, omega (arith, c.put_field.ensures.1))

pub returns-else-op-eq18 : goal.returns-else-op-eq18
unfolding statement_words
returns-else-op-eq18 c =
    let a = c.args in
    (no_op a.op a.a a.k (omega (arith, c.if-op-eq18.false, c.if-op-eq18.false, c.if-op-eq17.false)) c.put-else-op-eq18.ensures.0, omega (arith, c.put-else-op-eq18.ensures.1))
