-- `registers::load` meets its contract. Assumes nothing.
use native.Mathlib.Omega.{arith}
use borrow.Author.Rules.{rules}
use Rattle.registers.proofs.load.Goals as goal

pub load_kept-requires : goal.load_kept-requires
load_kept-requires c = let s = c in (s.requires.0.words, s.requires.1)

pub word-requires-9 : goal.word-requires-9
word-requires-9 c = let s = c in (s.requires.0.words, s.requires.1, omega arith)

pub returns : goal.returns
returns c =
    let b = c in
    let d = b in
    let e = d in
    rw (
      e.word.ensures,
      d.small.ensures,
      e.word-2.ensures,
      d.load_clocks.ensures,
      d.load_values.ensures,
      d.word-3.ensures,
      b.half.ensures,
      b.word-4.ensures,
      b.half-2.ensures,
      b.word-5.ensures,
      b.small-2.ensures,
      b.word-6.ensures,
      c.word-7.ensures,
      c.small-3.ensures,
      c.word-8.ensures,
      c.load_trial.ensures,
      c.load_kept.ensures,
      c.word-9.ensures,
    )
