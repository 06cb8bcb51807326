-- `listing_text::statement::put_trial` meets its contract. Assumes nothing.
use mathlib.Core.Path.{◌≡◌}
use native.Mathlib.Omega.{arith}
use Rattle.listing_text.specs.StatementText.{statement_words}
use Rattle.listing_text.proofs.Named.{known_op}
use Rattle.listing_text.proofs.statement.put_trial.Goals as goal

pub returns-in-10 : goal.returns-in-10
unfolding statement_words
returns-in-10 c = (known_op c.args.op 10 c.args.a c.args.k c.in-10.is c.put.ensures.0, omega (arith, c.put.ensures.1))

pub returns-in-11 : goal.returns-in-11
unfolding statement_words
returns-in-11 c = (known_op c.args.op 11 c.args.a c.args.k c.in-11.is c.put_two.ensures.0, omega (arith, c.put_two.ensures.1))

pub returns-in-12 : goal.returns-in-12
unfolding statement_words
returns-in-12 c = (known_op c.args.op 12 c.args.a c.args.k c.in-12.is c.put_two-in-12.ensures.0, omega (arith, c.put_two-in-12.ensures.1))

pub returns-in-13 : goal.returns-in-13
unfolding statement_words
returns-in-13 c = (known_op c.args.op 13 c.args.a c.args.k c.in-13.is c.put_bound.ensures.0, omega (arith, c.put_bound.ensures.1))

pub returns-in-14 : goal.returns-in-14
unfolding statement_words
returns-in-14 c = (known_op c.args.op 14 c.args.a c.args.k c.in-14.is c.put_bound-in-14.ensures.0, omega (arith, c.put_bound-in-14.ensures.1))

pub returns-in-15 : goal.returns-in-15
unfolding statement_words
returns-in-15 c = (known_op c.args.op 15 c.args.a c.args.k c.in-15.is c.put_field.ensures.0, omega (arith, c.put_field.ensures.1))

pub returns-in_default : goal.returns-in_default
unfolding statement_words
returns-in_default c = let known : c.args.op ≡ 16 = omega (arith, c.requires) in (known_op c.args.op 16 c.args.a c.args.k known c.put-in_default.ensures.0, omega (arith, c.put-in_default.ensures.1))
