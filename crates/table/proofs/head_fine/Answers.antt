-- `table::head_fine` meets its contract. Assumes nothing.
use Rattle.table.proofs.head_fine.Goals as goal

pub returns : goal.returns
returns c =
    rw (
      c.both-5.ensures,
      c.both-4.ensures,
      c.both-3.ensures,
      c.both-clocks.ensures,
      c.both-2.ensures,
      c.both-places.ensures,
      c.both.ensures,
    )
