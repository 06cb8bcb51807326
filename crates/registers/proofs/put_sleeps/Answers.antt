-- `registers::put_sleeps` meets its contract. Assumes nothing.
use Rattle.registers.proofs.Puts.{sleeps_stored}
use borrow.Author.Rules.{rules}
use Rattle.registers.proofs.put_sleeps.Goals as goal

pub returns : goal.returns
returns c v =
    let s = c in
    let a = s.args in
    sleeps_stored a.words.now a.c a.sleeps c.put_word.ensures s.requires.0 s.requires.1 v
