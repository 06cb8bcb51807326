-- `stand::start_node` meets its contract. Assumes nothing.
use Rattle.stand.proofs.start_node.Goals as goal

pub returns : goal.returns
returns c =
    rw (c.block_place.ensures, c.byte_at-location.ensures)
