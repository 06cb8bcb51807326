-- `listing_text::lines::put_program_head` meets its contract. Assumes nothing.
use native.Mathlib.Omega.{arith}
use Rattle.text.proofs.Appended.{same_words}
use Rattle.text.proofs.Appended.{next}
use Rattle.listing_text.specs.ListingText.{program_head}
use Rattle.listing_text.proofs.Heads.{program_short, program_headed}
use Rattle.listing_text.proofs.lines.put_program_head.Goals as goal

pub returns-then-program-lt6 : goal.returns-then-program-lt6
returns-then-program-lt6 c = (same_words (program_head c.args.program.now) c.put.ensures.0 (program_short c.args.program.now c.if-program-lt6.true), omega (arith, c.put.ensures.1))

pub returns : goal.returns
returns c = (same_words (program_head c.args.program.now) (next c.put_header-last.ensures.0 c.put_other_length.ensures.0) (program_headed c.args.program.now c.if-program-lt6.false), omega (arith, c.put_header-last.ensures.1, c.put_other_length.ensures.1))
