-- `registers::load_kept` meets its contract. Assumes nothing.
use borrow.Author.Rules.{rules}
use Rattle.registers.proofs.load_kept.Goals as goal

pub returns : goal.returns
returns c =
    let b = c in
    rw (
      b.word.ensures,
      b.small.ensures,
      b.word-2.ensures,
      c.half.ensures,
      b.word-3.ensures,
      c.half-2.ensures,
      c.word-4.ensures,
    )
