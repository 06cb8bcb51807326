-- `translator::clock_length` meets its contract. Assumes nothing.
use Rattle.translator.proofs.Sizes.{one_test, two_tests}
use native.Mathlib.Omega.{arith}
use Rattle.translator.proofs.clock_length.Goals as goal

pub returns-then-word_at-eq65535 : goal.returns-then-word_at-eq65535
returns-then-word_at-eq65535 c = (one_test c.args.bytes.now c.word_at.result c.word_at.ensures c.if-word_at-eq65535.true, omega arith)

pub returns : goal.returns
returns c = (two_tests c.args.bytes.now c.word_at.result c.word_at.ensures c.if-word_at-eq65535.false, omega arith)
