-- `registers::put_place` meets its contract. Assumes nothing.
use Rattle.registers.proofs.Puts.{place_stored}
use borrow.Author.Rules.{rules}
use Rattle.registers.proofs.put_place.Goals as goal

pub returns : goal.returns
returns c v =
    let s = c in
    let a = s.args in
    place_stored a.words.now a.c a.pc c.put_word.ensures s.requires.0 s.requires.1 v
