-- `listing_words::lines::put_place` meets its contract. Assumes nothing.
use Rattle.listing_words.proofs.Order.{line_put}
use Rattle.listing_words.proofs.lines.put_place.Goals as goal

pub returns : goal.returns
returns c =
    (line_put c.put_place-n.ensures.0 c.put_line.ensures.0, c.put_line.ensures.1)
