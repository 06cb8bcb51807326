-- `listing_words::put_block` meets its contract. Assumes nothing.
use native.Mathlib.Omega.{arith}
use Rattle.listing_words.proofs.Order.{block_put}
use Rattle.listing_words.proofs.put_block.Goals as goal

pub returns : goal.returns
returns c =
    let a = c.args in
    (block_put a.part.now a.block c.start_of-start.ensures.0 c.end_of-end.ensures.0 c.put_block_head-next.ensures.0 c.put_statements.ensures.0, omega (arith, c.put_block_head-next.ensures.1, c.put_statements.ensures.1))
