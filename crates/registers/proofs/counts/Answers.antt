-- `registers::counts` meets its contract. Assumes nothing.
use borrow.Author.Rules.{rules}
use Rattle.registers.proofs.counts.Goals as goal

pub returns : goal.returns
returns c = rw (c.small.ensures, c.word.ensures, c.small-2.ensures, c.word-2.ensures)
