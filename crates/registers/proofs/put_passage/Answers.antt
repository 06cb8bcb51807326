-- `registers::put_passage` meets its contract. Assumes nothing.
use Rattle.registers.proofs.Puts.{passage_stored}
use borrow.Author.Rules.{rules}
use Rattle.registers.proofs.put_passage.Goals as goal

pub returns : goal.returns
returns c v =
    let s = c in
    let a = s.args in
    passage_stored a.words.now a.c a.edge a.ready a.delay a.window c.put_word.ensures c.put_word-2.ensures c.put_word-3.ensures c.put_word-4.ensures
    s.requires.0 s.requires.1 (search rules) (search rules) (search rules) v
