-- `program::part` meets its contract. Assumes nothing.
use borrow.Author.Rules.{rules}
use Rattle.program.proofs.Parting.{cut}
use Rattle.program.proofs.part.Goals as goal

pub returns : goal.returns
returns c = cut c.args.program.now c.span_of-span.result c.span_of-span.ensures
