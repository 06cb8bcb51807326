-- `listing_words::lines::put_node_head` meets its contract. Assumes nothing.
use Rattle.listing_words.proofs.Order.{line_put}
use Rattle.listing_words.proofs.lines.put_node_head.Goals as goal

pub returns : goal.returns
returns c =
    (line_put c.put_node_head-n.ensures.0 c.put_line.ensures.0, c.put_line.ensures.1)
