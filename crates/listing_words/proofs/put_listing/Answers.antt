-- `listing_words::put_listing` meets its contract. Assumes nothing.
use Rattle.blocks.proofs.Runs.{put_is, put_join}
use Rattle.listing_words.proofs.Order.{listing_short, listing_long}
use Rattle.listing_words.proofs.put_listing.Goals as goal

pub returns-then-program-lt6 : goal.returns-then-program-lt6
returns-then-program-lt6 c = put_is (listing_short c.args.program.now c.if-program-lt6.true) c.put_program_head-next.ensures.0

pub returns : goal.returns
returns c =
    put_is
    (listing_long c.args.program.now c.if-program-lt6.false)
    (put_join c.put_program_head-next.ensures.0 c.put_nodes.ensures)
