-- `table::count_fine` meets its contract. Assumes nothing.
use Rattle.table.proofs.count_fine.Goals as goal

pub returns : goal.returns
returns c =
    rw (c.both-3.ensures, c.both-2.ensures, c.both.ensures, c.both-nodes.ensures, c.word_at-horizon.ensures)
