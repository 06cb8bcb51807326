-- `text::numbers::number_of` meets its contract. Assumes nothing.
use Rattle.std.proofs.Common.{◌∙◌, sym, arith, tests}
use Rattle.text.proofs.Reading.{no_bytes, some_bytes, all_read}
use Rattle.text.proofs.numbers.number_of.Goals as goal

pub returns-then-is_empty : goal.returns-then-is_empty
returns-then-is_empty c = no_bytes c.args.word.now (omega (arith, tests))

pub loop-byte-init : goal.loop-byte-init
loop-byte-init c = (omega arith, some_bytes c.args.word.now (λ e. omega (arith, tests)))

pub returns : goal.returns
returns c =
    sym (all_read c.args.word.now c.loop-byte.byte-index c.loop-byte.value (omega arith) (omega arith)) ∙ c.loop-byte.invariant.1
