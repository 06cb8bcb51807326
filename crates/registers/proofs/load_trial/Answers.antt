-- `registers::load_trial` meets its contract. Assumes nothing.
use borrow.Author.Rules.{rules}
use Rattle.registers.proofs.load_trial.Goals as goal

pub returns : goal.returns
returns c =
    let b = c in
    rw (b.half.ensures, b.word.ensures, b.word-2.ensures, c.half-2.ensures, c.word-3.ensures, c.word-4.ensures)
