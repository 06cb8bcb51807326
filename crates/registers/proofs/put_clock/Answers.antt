-- `registers::put_clock` meets its contract. Assumes nothing.
use Rattle.registers.proofs.PutParts.{clock_stored}
use mathlib.Core.Path.{◌∙◌}
use borrow.Author.Rules.{rules}
use Rattle.registers.proofs.put_clock.Goals as goal

pub returns : goal.returns
returns c v =
    let s = c in
    let a = s.args in
    clock_stored a.words.now a.c a.a a.ticks (c.put_word.ensures ∙ rw c.wide.ensures.0) s.requires.0 s.requires.1 s.requires.2 v
