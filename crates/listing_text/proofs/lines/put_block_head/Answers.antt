-- `listing_text::lines::put_block_head` meets its contract. Assumes nothing.
use native.Mathlib.Omega.{arith}
use Rattle.text.proofs.Appended.{same_words}
use Rattle.text.proofs.Appended.{next}
use Rattle.listing_text.specs.ListingText.{block_head}
use Rattle.listing_text.proofs.Heads.{block_filled, block_empty}
use Rattle.listing_text.proofs.lines.put_block_head.Goals as goal

pub returns-then-start-end : goal.returns-then-start-end
returns-then-start-end c = (same_words (block_head c.args.part.now c.args.block) (next (next c.put_block_name-from.ensures.0 c.put_field-line.ensures.0) c.put-last.ensures.0) (block_filled c.args.part.now c.args.block c.start_of-start.result c.end_of-end.result c.start_of-start.ensures.0 c.end_of-end.ensures.0 c.if-start-end.true), omega (arith, c.put_block_name-from.ensures.1, c.put_field-line.ensures.1, c.put-last.ensures.1))

pub returns : goal.returns
returns c = (same_words (block_head c.args.part.now c.args.block) (next (next (next c.put_block_name-from.ensures.0 c.put_field-line.ensures.0) c.put-last.ensures.0) c.put.ensures.0) (block_empty c.args.part.now c.args.block c.start_of-start.result c.end_of-end.result c.start_of-start.ensures.0 c.end_of-end.ensures.0 c.if-start-end.false), omega (arith, c.put_block_name-from.ensures.1, c.put_field-line.ensures.1, c.put-last.ensures.1, c.put.ensures.1))
