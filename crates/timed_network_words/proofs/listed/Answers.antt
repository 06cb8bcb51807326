-- `timed_network_words::listed` meets its contract. Assumes nothing.
use mathlib.Core.Path.{sym}
use lib.Seq.{take_all}
use borrow.Author.Rules.{rules}
use Rattle.timed_network_words.proofs.listed.Goals as goal

pub returns-then-program-le-PROGRAM : goal.returns-then-program-le-PROGRAM
returns-then-program-le-PROGRAM c = (sym (take_all 65536 c.args.program.now c.if-program-le-PROGRAM.true), c.if-program-le-PROGRAM.true)
