-- `listing_text::statement::put_work` meets its contract. Assumes nothing.
use mathlib.Core.Path.{◌≡◌}
use native.Mathlib.Omega.{arith}
use Rattle.listing_text.specs.StatementText.{statement_words}
use Rattle.listing_text.proofs.Named.{known_op}
use Rattle.listing_text.proofs.statement.put_work.Goals as goal

pub returns-in-0 : goal.returns-in-0
unfolding statement_words
returns-in-0 c = (known_op c.args.op 0 c.args.a c.args.k c.in-0.is c.put.ensures.0, omega (arith, c.put.ensures.1))

pub returns-in-1 : goal.returns-in-1
unfolding statement_words
returns-in-1 c = (known_op c.args.op 1 c.args.a c.args.k c.in-1.is c.put_bound.ensures.0, omega (arith, c.put_bound.ensures.1))

pub returns-in-2 : goal.returns-in-2
unfolding statement_words
returns-in-2 c = (known_op c.args.op 2 c.args.a c.args.k c.in-2.is c.put_bound-in-2.ensures.0, omega (arith, c.put_bound-in-2.ensures.1))

pub returns-in-3 : goal.returns-in-3
unfolding statement_words
returns-in-3 c = (known_op c.args.op 3 c.args.a c.args.k c.in-3.is c.put-in-3.ensures.0, omega (arith, c.put-in-3.ensures.1))

pub returns-in-4 : goal.returns-in-4
unfolding statement_words
returns-in-4 c = (known_op c.args.op 4 c.args.a c.args.k c.in-4.is c.put_field.ensures.0, omega (arith, c.put_field.ensures.1))

pub returns-in-5 : goal.returns-in-5
unfolding statement_words
returns-in-5 c = (known_op c.args.op 5 c.args.a c.args.k c.in-5.is c.put_field-in-5.ensures.0, omega (arith, c.put_field-in-5.ensures.1))

pub returns-in_default : goal.returns-in_default
unfolding statement_words
returns-in_default c = let known : c.args.op ≡ 6 = omega (arith, c.requires) in (known_op c.args.op 6 c.args.a c.args.k known c.put_two.ensures.0, omega (arith, c.put_two.ensures.1))
