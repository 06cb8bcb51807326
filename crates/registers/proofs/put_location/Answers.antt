-- `registers::put_location` meets its contract. Assumes nothing.
use Rattle.registers.proofs.Puts.{location_stored}
use borrow.Author.Rules.{rules}
use Rattle.registers.proofs.put_location.Goals as goal

pub returns : goal.returns
returns c v =
    let s = c in
    let a = s.args in
    location_stored a.words.now a.c a.location c.put_word.ensures c.put_word-2.ensures s.requires.0 s.requires.1 v (search rules)
