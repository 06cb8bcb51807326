-- `text::numbers::number_of` meets its contract. Assumes nothing.
use Rattle.std.proofs.Common.{◌≡◌, ◌<◌, drop}
use Rattle.text.specs.Numbers.{read_on, number_of}
use Rattle.text.proofs.numbers.number_of.Given as goal

abbrev pub invariant-loop-byte : goal.invariant-loop-byte
invariant-loop-byte l = (l.value < 4294967296) × (read_on l.value (drop l.byte-index l.word) ≡ number_of l.word)
