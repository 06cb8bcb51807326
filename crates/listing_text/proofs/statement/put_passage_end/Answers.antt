-- `listing_text::statement::put_passage_end` meets its contract. Assumes nothing.
use mathlib.Core.Path.{◌≡◌}
use native.Mathlib.Omega.{arith}
use Rattle.listing_text.specs.StatementText.{statement_words}
use Rattle.listing_text.proofs.Named.{known_op}
use Rattle.listing_text.proofs.statement.put_passage_end.Goals as goal

pub returns-in-7 : goal.returns-in-7
unfolding statement_words
returns-in-7 c = (known_op c.args.op 7 c.args.a c.args.k c.in-7.is c.put_field.ensures.0, omega (arith, c.put_field.ensures.1))

pub returns-in-8 : goal.returns-in-8
unfolding statement_words
returns-in-8 c = (known_op c.args.op 8 c.args.a c.args.k c.in-8.is c.put_field-in-8.ensures.0, omega (arith, c.put_field-in-8.ensures.1))

pub returns-in_default : goal.returns-in_default
unfolding statement_words
returns-in_default c = let known : c.args.op ≡ 9 = omega (arith, c.requires) in (known_op c.args.op 9 c.args.a c.args.k known c.put_field-in_default.ensures.0, omega (arith, c.put_field-in_default.ensures.1))
