-- `registers::clock` meets its contract. Assumes nothing.
use Rattle.registers.specs.Words.{held_in}
use Rattle.registers.proofs.PartsRead.{clock_read, clock_none}
use native.Mathlib.Omega.{arith}
use mathlib.Core.Path.{◌≡◌, ◌∙◌}
use borrow.Author.Rules.{rules}
use Rattle.registers.proofs.clock.Goals as goal

pub returns-then-a-small : goal.returns-then-a-small
returns-then-a-small c =
    let s = c in
    let a = s.args in
    let n : c.small.result ≡ (held_in a.words.now a.c).clocks = c.small.ensures ∙ rw c.word.ensures in
    c.word-then-a-small.ensures ∙ rw c.wide.ensures.0 (clock_read a.words.now a.c (held_in a.words.now a.c).clocks a.a s.requires.2.clocks (omega (arith, n, c.if-a-small.true)))

pub returns : goal.returns
returns c =
    let s = c in
    let a = s.args in
    let n : c.small.result ≡ (held_in a.words.now a.c).clocks = c.small.ensures ∙ rw c.word.ensures in
    clock_none a.words.now a.c (held_in a.words.now a.c).clocks a.a (omega (arith, n, c.if-a-small.false))
